use Rattle.std.proofs.Common.{◌≡◌, ◌∙◌, Option, Some, None, ap, get_or, List, subst, sym}
use Rattle.std.proofs.Common.{option_map, slice_get}
use Rattle.std.proofs.lemmas.Result.{err_from_is_err_and}
use Rattle.ice_manifest_reading.specs.declared.row.Row.{Row}
use Rattle.ice_state.specs.Handing.{handed}
use Rattle.ice_state.specs.Readings.{Reading}
use Rattle.ice_state_sections.specs.Sections.{section_at}
use Rattle.ice_state_bytes.specs.Bodies.{IsSaid}
use Rattle.ice_state_bytes.specs.Faults.{said}
use Rattle.ice_state_bytes.proofs.Bodies.{get_at, reading_is, slot_at}
use Rattle.ice_state_bytes.proofs.writing.body_of.Goals as goal

pub returns-in_err-body-in-Ok-Some-clause-honest : goal.returns-in_err-body-in-Ok-Some-clause-honest
returns-in_err-body-in-Ok-Some-clause-honest c =
    let p = err_from_is_err_and c.from_residual.result c.from_residual.ensures.1 in
    let scan = c.args.scan.now in
    let given = c.in-Ok-Some.given in
    let slot : Some (handed given) ≡ get_or c.args.state.now c.args.i None =
    ap (option_map handed) (sym c.in-Ok-Some.field-0-is) ∙ c.in-Ok-Some.ensures in
    let at : slice_get scan.wanted c.args.i ≡ Some c.index-wanted-i.result =
    get_at scan.wanted c.args.i c.index-wanted-i.result c.requires
    (c.index-wanted-i.is ∙ ap (λ (rs : List Row). get_or rs c.args.i c.index-wanted-i.result) c.wanted.ensures) in
    λ of. rw (p.1, p.2) (c.in_err-body-in-Ok-Some.ensures.honest (of c.args.i c.index-wanted-i.result c.spec.result.now
    (handed given) at c.spec.ensures (slot_at c.args.state.now c.args.i (handed given) (sym slot))))

pub returns-in_ok-body-in-Ok-Some-clause-said : goal.returns-in_ok-body-in-Ok-Some-clause-said
returns-in_ok-body-in-Ok-Some-clause-said c =
    let scan = c.args.scan.now in
    let given = c.in-Ok-Some.given in
    let row = c.index-wanted-i.result in
    let spec = c.spec.result.now in
    let slot : Some (handed given) ≡ get_or c.args.state.now c.args.i None =
    ap (option_map handed) (sym c.in-Ok-Some.field-0-is) ∙ c.in-Ok-Some.ensures in
    let at : slice_get scan.wanted c.args.i ≡ Some row =
    get_at scan.wanted c.args.i row c.requires
    (c.index-wanted-i.is ∙ ap (λ (rs : List Row). get_or rs c.args.i row) c.wanted.ensures) in
    let read = reading_is scan c.args.i row spec c.from_vec.result at c.spec.ensures
    ∙ ap (λ b. said (section_at row spec b)) c.from_vec.ensures ∙ c.in_ok-body-in-Ok-Some.ensures.said in
    subst (λ (s : Option Reading). IsSaid scan c.args.i s (Some c.from_vec.result)) slot read
