use Rattle.std.proofs.Common.{◌≡◌, ◌+◌, ◌-◌, ◌*◌, get_or, drop, arith, rules}
use Rattle.std.proofs.lemmas.Int.{to_z-of_z}
use mir.Syntax.{w16}
use mir.Val.{to_z, of_z}
use Rattle.std.proofs.Math.Facts.{Fits-lt-pow}
use Rattle.avro_file_parts.proofs.NumberPlaces.{one_group, to_end}
use Rattle.avro_file.proofs.FewGroups.{two_groups, is_int, is_long}
use Rattle.avro_file.proofs.short.short_of.Goals as goal

pub returns-in-len1-up-clause-int : goal.returns-in-len1-up-clause-int
returns-in-len1-up-clause-int c =
    let z : to_z w16 (of_z w16 c.signed.result) ≡ c.signed.result = to_z-of_z w16 c.signed.result (search rules) in
    let bytes = c.args.bytes.now in
    rw (z, c.signed.ensures, c.from.ensures, to_end bytes 1) (is_int bytes (drop 1 bytes) (get_or bytes 0 0)
    (one_group bytes 0 c.in-len1-up.len_at_least c.if-first-lt128.true) (omega (arith, c.if-first-lt128.true)))

pub returns-in-len1-up-clause-long : goal.returns-in-len1-up-clause-long
returns-in-len1-up-clause-long c =
    let z : to_z w16 (of_z w16 c.signed.result) ≡ c.signed.result = to_z-of_z w16 c.signed.result (search rules) in
    let bytes = c.args.bytes.now in
    rw (z, c.signed.ensures, c.from.ensures, to_end bytes 1) (is_long bytes (drop 1 bytes) (get_or bytes 0 0)
    (one_group bytes 0 c.in-len1-up.len_at_least c.if-first-lt128.true))

pub returns-in-len2-up-clause-int : goal.returns-in-len2-up-clause-int
returns-in-len2-up-clause-int c =
    let z : to_z w16 (of_z w16 c.signed-in-len2-up.result) ≡ c.signed-in-len2-up.result =
    to_z-of_z w16 c.signed-in-len2-up.result (search rules) in
    let bytes = c.args.bytes.now in
    let number = two_groups bytes c.in-len2-up.len_at_least c.if-first-ge128.true (Fits-lt-pow (c.type_inv.bytes 0))
    c.if-second-lt128.true in
    rw (z, c.signed-in-len2-up.ensures, c.from-in-len2-up.ensures, c.from-in-len2-up-2.ensures, to_end bytes 2)
    (is_int bytes (drop 2 bytes) (get_or bytes 0 0 - 128 + 128 * get_or bytes 1 0) number
    (omega (arith, c.from-in-len2-up-2.ensures, c.if-second-lt128.true, c.type_inv.bytes 0)))

pub returns-in-len2-up-clause-long : goal.returns-in-len2-up-clause-long
returns-in-len2-up-clause-long c =
    let z : to_z w16 (of_z w16 c.signed-in-len2-up.result) ≡ c.signed-in-len2-up.result =
    to_z-of_z w16 c.signed-in-len2-up.result (search rules) in
    let bytes = c.args.bytes.now in
    let number = two_groups bytes c.in-len2-up.len_at_least c.if-first-ge128.true (Fits-lt-pow (c.type_inv.bytes 0))
    c.if-second-lt128.true in
    rw (z, c.signed-in-len2-up.ensures, c.from-in-len2-up.ensures, c.from-in-len2-up-2.ensures, to_end bytes 2)
    (is_long bytes (drop 2 bytes) (get_or bytes 0 0 - 128 + 128 * get_or bytes 1 0) number)
