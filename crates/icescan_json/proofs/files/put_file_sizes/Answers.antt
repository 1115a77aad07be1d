use Rattle.std.proofs.Common.{rules, w64}
use mir.Val.{SFits}
use Rattle.std.proofs.lemmas.Int.{to_z-of_z}
use Rattle.icescan_json.specs.Texts.{file_sizes}
use Rattle.icescan_print.proofs.Sends.{sent_less, sent_more}
use Rattle.icescan_json.proofs.files.put_file_sizes.Goals as goal

pub returns-in_err-put_named_long : goal.returns-in_err-put_named_long
unfolding file_sizes
returns-in_err-put_named_long g c =
    let f : SFits w64 c.file_size.result = search rules in
    let size = rw c.file_size.ensures at (simp to_z-of_z at c.in_err-put_named_long.ensures) in
    sent_less _ _ _ _ _ _ _ _ _ _ _ c.from_residual.ensures.0 size

pub returns-in_err-put_named_long-2 : goal.returns-in_err-put_named_long-2
unfolding file_sizes
returns-in_err-put_named_long-2 g c =
    let f : SFits w64 c.file_size.result = search rules in
    let h : SFits w64 c.record_count.result = search rules in
    let size = rw c.file_size.ensures at (simp to_z-of_z at c.in_ok-put_named_long.ensures) in
    let rows = rw c.record_count.ensures at (simp to_z-of_z at c.in_err-put_named_long-2.ensures) in
    sent_more _ _ _ _ _ _ _ _ _ _ _ _ size
    (sent_less _ _ _ _ _ _ _ _ _ _ _ c.from_residual-in_err-put_named_long-2.ensures.0 rows)

pub returns : goal.returns
unfolding file_sizes
returns g c =
    let f : SFits w64 c.file_size.result = search rules in
    let h : SFits w64 c.record_count.result = search rules in
    let size = rw c.file_size.ensures at (simp to_z-of_z at c.in_ok-put_named_long.ensures) in
    let rows = rw c.record_count.ensures at (simp to_z-of_z at c.in_ok-put_named_long-2.ensures) in
    let number = rw (c.get.ensures.same, c.sequence_number.ensures) at c.put_named_number.ensures in
    sent_more _ _ _ _ _ _ _ _ _ _ _ _ size (sent_more _ _ _ _ _ _ _ _ _ _ _ _ rows number)
