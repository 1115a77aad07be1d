use Rattle.std.proofs.Common.{pos, refl, sym, ap, ◌∙◌}
use Rattle.avro_schema.specs.Tree.{Fields, structure}
use Rattle.avro_schema.specs.View.{tree}
use Rattle.avro_file_picked.specs.Finding.{is_structure}
use Rattle.ice_manifest_fields.specs.Fields.{at}
use Rattle.ice_manifest_fields.specs.Seen.{fields_seen}
use Rattle.ice_manifest_layouts.specs.Seen.{entry_seen}
use Rattle.ice_manifest_layouts.proofs.Shown.{fields_met, structure_is}
use Rattle.ice_manifest_layouts.proofs.file.FoundFile.of.Goals as goal

pub returns-then-is_record : goal.returns-then-is_record
returns-then-is_record c =
    let record_is = sym c.is_record.ensures ∙ c.if-is_record.true in
    let is = ap (λ s. tree s) (sym c.schema-schema.ensures) ∙ structure_is (tree c.schema-schema.result.now) record_is
    ∙ ap (λ (fs : Fields). structure fs) (sym c.fields_of-fields.ensures) in
    let t = fields_met c.in_ok-found.field-0 (at (pos 2) (entry_seen c.args.entry.now))
    (fields_seen c.fields_of-fields.result.now) c.in_ok-found.ensures is in ((c.requires, t), refl)
