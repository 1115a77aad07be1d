use Rattle.std.proofs.Common.{◌≡◌, pos, Some, Option, sym, ap, ◌∙◌}
use Rattle.std.proofs.lemmas.Result.{err_from_is_err_and}
use Rattle.avro_schema.specs.View.{tree}
use Rattle.avro_file.specs.Picking.{Typed}
use Rattle.ice_manifest_fields.specs.Each.{each}
use Rattle.ice_manifest_fields.specs.Fields.{at, there, items_of}
use Rattle.ice_manifest_fields.specs.Naming.{in_list, told}
use Rattle.ice_manifest_layouts.specs.RowsFound.{row_seen}
use Rattle.ice_manifest_reading.specs.Lists.{summary_of, summaries_in}
use Rattle.ice_manifest_reading.proofs.FoundRows.{some_read, some_at_fault}
use Rattle.ice_manifest_reading.proofs.list.partitions_at.Goals as goal

pub returns-in_err-summaries_in_list : goal.returns-in_err-summaries_in_list
returns-in_err-summaries_in_list c =
    let p = err_from_is_err_and c.from_residual.result c.from_residual.ensures.1 in
    let met = at (pos 507) (row_seen c.args.row.now) in
    let y : Typed = (tree c.in-Some.found.schema.now, c.in-Some.ensures.0) in
    let list : there met ≡ Some y = ap there c.in-Some.ensures.2 in
    rw (p.1, p.2) (λ other. ap (λ (x : Option Typed). told in_list (summaries_in x)) list
    ∙ some_at_fault in_list (each summary_of (items_of (Some y))) _
    (ap (λ (x : Option Typed). told in_list (each summary_of (items_of x))) (sym list)
    ∙ c.in_err-summaries_in_list.ensures met c.in-Some.ensures other))

pub summaries_in_list-requires : goal.summaries_in_list-requires
summaries_in_list-requires c = (at (pos 507) (row_seen c.args.row.now), c.in-Some.ensures, c.items_guide-guide.ensures)

pub returns : goal.returns
returns c =
    let met = at (pos 507) (row_seen c.args.row.now) in
    let y : Typed = (tree c.in-Some.found.schema.now, c.in-Some.ensures.0) in
    let list : there met ≡ Some y = ap there c.in-Some.ensures.2 in
    ap (λ (x : Option Typed). told in_list (summaries_in x)) list
    ∙ some_read in_list (each summary_of (items_of (Some y))) _
    (ap (λ (x : Option Typed). told in_list (each summary_of (items_of x))) (sym list)
    ∙ c.in_ok-summaries_in_list.ensures met c.in-Some.ensures)
