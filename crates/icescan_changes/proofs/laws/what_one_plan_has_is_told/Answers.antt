use Rattle.icescan_changes.proofs.Lacking.{added_told, removed_told}
use Rattle.icescan_changes.proofs.laws.what_one_plan_has_is_told.Goals as goal

pub returns : goal.returns
returns c = record {
  added = λ earlier later line h k has lacks none. added_told earlier later line h k has lacks none;
  removed = λ earlier later line h k has lacks none. removed_told earlier later line h k has lacks none;
}
