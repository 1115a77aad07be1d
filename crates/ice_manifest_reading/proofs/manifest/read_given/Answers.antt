use Rattle.std.proofs.Common.{◌≡◌, ◌≤◌, ◌<◌, ◌^◌, true, Ok, length, refl, sym, ap, subst, ◌∙◌, arith}
use Rattle.avro_schema.specs.Tree.{Tree}
use Rattle.avro_file.specs.Ahead.{still_ahead}
use Rattle.avro_file.specs.Files.{ahead, tree_of, opened}
use Rattle.avro_file_picked.specs.Finding.{is_structure}
use Rattle.ice_manifest_layouts.specs.FieldPaths.{wanted_field_paths}
use Rattle.ice_manifest_fields.specs.Schemas.{fields_in}
use Rattle.ice_manifest_reading.specs.ManifestSchemas.{entry_fields}
use Rattle.ice_manifest_reading.proofs.Few.{entries_take_bytes}
use Rattle.ice_manifest_reading.proofs.Records.{entries_are_records}
use Rattle.ice_manifest_reading.proofs.manifest.read_given.Goals as goal

pub all_entries-requires : goal.all_entries-requires
all_entries-requires g c =
    let fits : entry_fields c.args.spec.now (fields_in (tree_of c.in_ok-container.container)) ≡ Ok tt =
    ap (entry_fields c.args.spec.now) (sym (c.fields_of.ensures ∙ ap fields_in c.schema-schema.ensures)) ∙ sym
    c.in_ok-check_entry_fields.ensures in
    let takes = entries_take_bytes c.args.spec.now (tree_of c.in_ok-container.container) fits in
    let few = c.objects_take_bytes.ensures c.args.bytes.now (opened c.in_ok-container.container)
    c.in_ok-container.ensures.exact takes in
    let here : still_ahead (ahead c.objects.result) ≤ length c.args.bytes.now = rw c.objects.ensures.ahead few in
    let same = c.in_ok-layout.ensures.schema ∙ c.schema-schema.ensures in
    let short : still_ahead (ahead c.objects.result) < 2 ^ 64 = omega (arith, here, c.well_formed) in
    let field_paths = c.in_ok-layout.ensures.field_paths ∙ ap wanted_field_paths c.as_slice.ensures in
    let records = subst (λ (t : Tree). is_structure t ≡ true) (sym same)
    (entries_are_records c.args.spec.now (tree_of c.in_ok-container.container) fits) in
    let schema = same ∙ sym c.objects.ensures.schema in
    λ _. ((refl, (refl, tt)), (short, (c.in_ok-layout.ensures.leads, (field_paths, (schema, records)))))
