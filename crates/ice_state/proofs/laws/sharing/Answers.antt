use Rattle.std.proofs.Common.{ap}
use Rattle.ice_state.specs.Contents.{Content}
use Rattle.ice_state.specs.Outcomes.{outcome}
use Rattle.ice_state.proofs.Runs.{after-content, taken-at, same_content}
use Rattle.ice_state.proofs.laws.sharing.Goals as goal

pub returns : goal.returns
returns c = record {
  content = after-content;
  rows = taken-at;
  contents = same_content;
  outcomes = λ world scan run other is is' same. ap (λ (s : Content). outcome scan s) (same_content world scan run other
      is is' same);
}
