use Rattle.std.proofs.Common.{◌≡◌, ◌∙◌, false, Some, None, refl, ap}
use Rattle.avro_schema.specs.View.{tree}
use Rattle.avro_file.specs.Picking.{Picked, present}
use Rattle.avro_file.proofs.Leaves.{tree-Bytes}
use Rattle.avro_file_picked.specs.declared.found.Found.{Found}
use Rattle.avro_file_picked.specs.Finding.{IsMet}
use Rattle.ice_manifest_fields.specs.Fields.{binary_of}
use Rattle.ice_manifest_fields.specs.Types.{is_binary}
use Rattle.ice_manifest_values.proofs.Others.{no_binary}
use Rattle.ice_manifest_values.proofs.Schemas.{other_binary}
use Rattle.ice_manifest_values.proofs.Shown.{bytes_met, bytes_never, seen_there}
use Rattle.ice_manifest_values.proofs.leaf.bytes_at.Goals as goal

pub returns-in-Ok : goal.returns-in-Ok
returns-in-Ok c = λ v is.
    let f : Found = record { schema = c.args.schema; bytes = c.args.bytes } in
    let met : Picked = present (tree c.args.schema.now, v) in
    let m : IsMet (Some f) met = (v, is, refl) in
    bytes_met f met c.args.bytes.now (c.in-Ok.lent.now, c.in-Ok.field-0-1.now) c.in-Bytes.field-0
    (ap tree c.in-Bytes.is ∙ tree-Bytes c.in-Bytes.field-0) refl c.in-Ok.ensures m

pub returns-in-Err : goal.returns-in-Err
returns-in-Err c = λ v is.
    let f : Found = record { schema = c.args.schema; bytes = c.args.bytes } in
    let met : Picked = present (tree c.args.schema.now, v) in
    let m : IsMet (Some f) met = (v, is, refl) in
    absurd (bytes_never f met c.args.bytes.now c.in-Err.field-0 c.in-Bytes.field-0
    (ap tree c.in-Bytes.is ∙ tree-Bytes c.in-Bytes.field-0) refl c.in-Err.ensures m)

pub returns-in_default : goal.returns-in_default
returns-in_default c = λ v is.
    let f : Found = record { schema = c.args.schema; bytes = c.args.bytes } in
    let met : Picked = present (tree c.args.schema.now, v) in
    let m : IsMet (Some f) met = (v, is, refl) in
    let other : is_binary (tree c.args.schema.now) ≡ false =
    other_binary c.args.schema.now c.in_default.not-Bytes in
    seen_there binary_of None (tree c.args.schema.now) f met refl (no_binary (tree c.args.schema.now) other) m
