use Rattle.std.proofs.Common.{◌≡◌, Option, Some, IfOk, ap, subst}
use Rattle.avro_schema.specs.View.{tree}
use Rattle.avro_file.specs.View.{view}
use Rattle.avro_file.specs.Picking.{Typed}
use Rattle.avro_file_picked.specs.declared.found.Found.{Found}
use Rattle.avro_file_picked.specs.Finding.{IsMet}
use Rattle.ice_manifest_values.proofs.Shown.{tree_there}
use Rattle.ice_manifest_reading.specs.Partitions.{cell_of}
use Rattle.ice_manifest_reading.proofs.tuple.cell_found.Goals as goal

pub returns-in_ok-datum-in-Some : goal.returns-in_ok-datum-in-Some
returns-in_ok-datum-in-Some c = λ met is.
    let here : IsMet (Some c.in-Some.found) met = subst (λ (o : Option Found). IsMet o met) c.in-Some.is is in
    let typed = tree_there c.in-Some.found met (tree c.schema.result.now) (view c.in_ok-datum-in-Some.field-0) here
    (ap tree c.schema.ensures) (c.in_ok-datum-in-Some.ensures here.0 here.1) in
    subst (λ (x : Option Typed). IfOk c.cell_of.result (λ cell. cell ≡ cell_of x)) typed c.cell_of.ensures
