use Rattle.std.proofs.Common.{◌≡◌, true, Ok, sym, ap, subst, ◌∙◌}
use Rattle.avro_schema.specs.Tree.{Tree}
use Rattle.avro_file.specs.Ahead.{Ahead}
use Rattle.avro_file.specs.Files.{tree_of, at_start}
use Rattle.avro_file_picked.specs.Finding.{is_structure, layout_tree}
use Rattle.ice_manifest_fields.specs.Schemas.{fields_in, row_fields}
use Rattle.ice_manifest_reading.proofs.Records.{rows_are_records}
use Rattle.ice_manifest_reading.specs.Lists.{rows_ahead, rows_of}
use Rattle.ice_manifest_reading.proofs.Gathered.{checked_same}
use Rattle.ice_manifest_reading.proofs.Rising.{strictly_given, few_given}
use Rattle.ice_manifest_reading.proofs.list.read_list.Goals as goal

pub all_rows-requires : goal.all_rows-requires
all_rows-requires c =
    let fits : row_fields (fields_in (tree_of c.in_ok-container.container)) ≡ Ok tt =
    ap row_fields (sym (c.fields_of.ensures ∙ ap fields_in c.schema-schema.ensures)) ∙ sym
    c.in_ok-check_row_fields.ensures in
    let same = c.in_ok-layout.ensures.schema ∙ c.schema-schema.ensures in
    record {
      layout = c.in_ok-layout.ensures.leads;
      field_paths = c.in_ok-layout.ensures.field_paths;
      schema = same ∙ sym c.objects.ensures.schema;
      records = subst (λ (t : Tree). is_structure t ≡ true) (sym same)
          (rows_are_records (tree_of c.in_ok-container.container) fits);
    }

pub returns-clause-exact : goal.returns-clause-exact
unfolding rows_of
returns-clause-exact c =
    let file = c.in_ok-container.container in
    let fits : row_fields (fields_in (tree_of file)) ≡ Ok tt =
    ap row_fields (sym (c.fields_of.ensures ∙ ap fields_in c.schema-schema.ensures)) ∙ sym
    c.in_ok-check_row_fields.ensures in
    let same = c.in_ok-layout.ensures.schema ∙ c.schema-schema.ensures in
    let read = c.in_ok-rows.ensures in
    let rows : rows_ahead (fields_in (tree_of file)) (at_start file) ≡ Ok read.0 =
    ap (λ (t : Tree). rows_ahead (fields_in t) (at_start file)) (sym same)
    ∙ (ap (λ (a : Ahead). rows_ahead (fields_in (layout_tree c.in_ok-layout.layout)) a) (sym c.objects.ensures.ahead)
    ∙ read.1) in
    rw (
      c.in_ok-container.ensures.exact,
      fits,
      rows,
      checked_same read.0 c.in_ok-rows.rows.items read.2,
      sym c.in_ok-put_in_order.ensures,
    ) c.checked.ensures

pub returns-clause-distinct : goal.returns-clause-distinct
returns-clause-distinct c = strictly_given c.in_ok-rows.rows.items c.checked.result
    (rw (sym c.in_ok-put_in_order.ensures) c.checked.ensures)

pub returns-clause-few : goal.returns-clause-few
returns-clause-few c = few_given c.put_in_order.new.rows.items c.checked.result c.checked.ensures
