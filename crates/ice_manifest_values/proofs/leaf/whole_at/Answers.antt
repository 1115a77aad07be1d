use Rattle.std.proofs.Common.{◌≡◌, ◌∙◌, false, Some, None, refl, ap, rules, w32, w64}
use Rattle.avro_schema.specs.View.{tree}
use Rattle.avro_file_picked.specs.declared.found.Found.{Found}
use Rattle.avro_file_picked.specs.Finding.{IsMet}
use Rattle.avro_file.specs.Picking.{Picked, present}
use mir.Val.{to_z, of_z}
use Rattle.std.proofs.lemmas.Int.{to_z-of_z}
use Rattle.avro_schema.specs.Tree.{int, long}
use Rattle.avro_file.proofs.Leaves.{tree-Int, tree-Long}
use Rattle.ice_manifest_fields.specs.Fields.{whole_of}
use Rattle.ice_manifest_fields.specs.Types.{is_whole}
use Rattle.ice_manifest_values.proofs.Others.{no_whole}
use Rattle.ice_manifest_values.proofs.Schemas.{other_whole}
use Rattle.ice_manifest_values.proofs.Shown.{whole_int, int_never, whole_long, long_never, seen_there}
use Rattle.ice_manifest_values.proofs.leaf.whole_at.Goals as goal

pub returns-in-Ok : goal.returns-in-Ok
returns-in-Ok c = λ v is.
    let f : Found = record { schema = c.args.schema; bytes = c.args.bytes } in
    let met : Picked = present (tree c.args.schema.now, v) in
    let m : IsMet (Some f) met = (v, is, refl) in
    let t : tree c.args.schema.now ≡ int = ap tree c.in-Int.is ∙ tree-Int in
    let number : to_z w64 (of_z w64 c.from.result) ≡ c.in-Ok.number = to_z-of_z w64 c.from.result (search rules)
    ∙ c.from.ensures
    ∙ to_z-of_z w32 c.in-Ok.number (search rules) in
    rw number (whole_int f met c.args.bytes.now (c.in-Ok.number, c.in-Ok.field-0-1.now) t refl c.in-Ok.ensures m)

pub returns-in-Err : goal.returns-in-Err
returns-in-Err c = λ v is.
    let f : Found = record { schema = c.args.schema; bytes = c.args.bytes } in
    let met : Picked = present (tree c.args.schema.now, v) in
    let m : IsMet (Some f) met = (v, is, refl) in
    let t : tree c.args.schema.now ≡ int = ap tree c.in-Int.is ∙ tree-Int in
    absurd (int_never f met c.args.bytes.now c.in-Err.field-0 t refl c.in-Err.ensures m)

pub returns-in-Ok-long_of : goal.returns-in-Ok-long_of
returns-in-Ok-long_of c = λ v is.
    let f : Found = record { schema = c.args.schema; bytes = c.args.bytes } in
    let met : Picked = present (tree c.args.schema.now, v) in
    let m : IsMet (Some f) met = (v, is, refl) in
    let t : tree c.args.schema.now ≡ long = ap tree c.in-Long.is ∙ tree-Long in
    let number : to_z w64
    (of_z w64 c.in-Ok-long_of.number) ≡ c.in-Ok-long_of.number = to_z-of_z w64 c.in-Ok-long_of.number
    (search rules) in
    rw number (whole_long f met c.args.bytes.now
    (c.in-Ok-long_of.number, c.in-Ok-long_of.field-0-1.now) t refl c.in-Ok-long_of.ensures m)

pub returns-in-Err-long_of : goal.returns-in-Err-long_of
returns-in-Err-long_of c = λ v is.
    let f : Found = record { schema = c.args.schema; bytes = c.args.bytes } in
    let met : Picked = present (tree c.args.schema.now, v) in
    let m : IsMet (Some f) met = (v, is, refl) in
    let t : tree c.args.schema.now ≡ long = ap tree c.in-Long.is ∙ tree-Long in
    absurd (long_never f met c.args.bytes.now c.in-Err-long_of.field-0 t refl c.in-Err-long_of.ensures m)

pub returns-in_default : goal.returns-in_default
returns-in_default c = λ v is.
    let f : Found = record { schema = c.args.schema; bytes = c.args.bytes } in
    let met : Picked = present (tree c.args.schema.now, v) in
    let m : IsMet (Some f) met = (v, is, refl) in
    let other : is_whole (tree c.args.schema.now) ≡ false =
    other_whole c.args.schema.now c.in_default.not-Int c.in_default.not-Long in
    seen_there whole_of None (tree c.args.schema.now) f met refl
    (no_whole (tree c.args.schema.now) other) m
