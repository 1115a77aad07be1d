use Rattle.std.proofs.Common.{◌∙◌, ap, refl}
use Rattle.std.specs.Prelude.{Some}
use Rattle.std.specs.FinMap as map
use Rattle.std.specs.Option.{option_map}
use Rattle.ice_state.specs.Contents.{World, no_row}
use Rattle.icescan_drill.specs.Drills.{plan_of_state}
use Rattle.icescan_drill.proofs.Drills.{plan_there}
use Rattle.icescan_text.proofs.Steps.{each_present, nothing_taken, untaken_all}
use Rattle.icescan_drill.proofs.drilled_table.plan_version.Goals as goal

pub returns-clause-plan : goal.returns-clause-plan
returns-clause-plan c =
    let files : World = λ path. map.get c.state.result.1.now path in
    let scan = c.in_ok-scan.scan in
    let present = each_present files scan.wanted
    (rw (c.in_ok-state.ensures.none, untaken_all scan.wanted) at (c.in_ok-take_wanted.ensures.present files refl)) in
    let taken = c.in_ok-take_wanted.ensures.taken files (no_row scan) refl
    (nothing_taken files scan c.in_ok-state.state (c.in_ok-state.ensures.world files)) in
    let plan = rw taken.is at c.in_ok-plan.ensures.outcome in
    let is = plan_there _ scan c.in_ok-plan.plan c.in_ok-scan.ensures.scan present plan in
    ap (option_map plan_of_state) c.state.ensures ∙ ap Some is
