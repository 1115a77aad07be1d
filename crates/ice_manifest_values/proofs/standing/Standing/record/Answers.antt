use Rattle.std.proofs.Common.{◌≡◌, List, Some, Vec, Global, sym, ap, subst, ◌∙◌}
use Rattle.avro_schema.specs.declared.schema.Field.{Field}
use Rattle.avro_schema.specs.Tree.{Tree, structure}
use Rattle.avro_schema.specs.View.{tree}
use Rattle.avro_file.specs.Blocks.{StandsAt}
use Rattle.avro_file.proofs.Views.{tree-Record}
use Rattle.ice_manifest_fields.specs.Fields.{record_of}
use Rattle.ice_manifest_fields.specs.Seen.{fields_seen}
use Rattle.ice_manifest_values.proofs.Within.{record_there}
use Rattle.ice_manifest_values.proofs.standing.Standing.record.Goals as goal

pub returns-in-Record : goal.returns-in-Record
returns-in-Record c = λ v at.
    let found = c.in_ok-found.ensures v at in
    let of : tree c.in_ok-found.found.schema.now ≡ structure (fields_seen c.deref-in-Record.result.now) =
    ap tree c.in-Record.is ∙ tree-Record c.in-Record.fields
    ∙ ap (λ (fs : Vec Field Global). structure (fields_seen fs.items)) (sym c.deref.ensures)
    ∙ ap (λ (fs : List Field). structure (fields_seen fs)) (sym c.deref-in-Record.ensures.value) in
    let there_is = subst (λ (t : Tree). StandsAt t c.in_ok-found.found.bytes.now found.0) of found.1 in (
      found.0,
      there_is,
      ap record_of found.2 ∙ ap (λ (t : Tree). record_of (Some (t, found.0))) of
          ∙ record_there (fields_seen c.deref-in-Record.result.now) c.in_ok-found.found.bytes.now found.0 there_is,
    )
