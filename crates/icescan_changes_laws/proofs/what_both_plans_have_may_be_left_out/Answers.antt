use Rattle.std.proofs.Common.{◌≡◌, Bool, ap}
use Rattle.ice_state.specs.Lines.{OwnedLine}
use Rattle.icescan_changes.proofs.Telling.{line_itself}
use Rattle.icescan_changes.specs.Changes.{line_path, lines_told}
use Rattle.icescan_changes.specs.declared.changes.Change.TheVariants as change
use Rattle.icescan_changes_laws.proofs.LeavingOut.{are_in, left_out}
use Rattle.icescan_changes_laws.proofs.what_both_plans_have_may_be_left_out.Goals as goal

pub returns : goal.returns
returns c = λ keeps earlier later r s h back.
    let keep : OwnedLine → Bool = λ line. keeps (line_path line) in
    let by_path : (x y : OwnedLine) → line_path x ≡ line_path y → keep x ≡ keep y = λ x y e. ap keeps e in
    left_out line_path change.Removed change.Added lines_told keep by_path line_itself earlier later r s
    (are_in line_path change.Removed change.Added lines_told keep by_path line_itself earlier later h)
    (are_in line_path change.Removed change.Added lines_told keep by_path line_itself later earlier back)
