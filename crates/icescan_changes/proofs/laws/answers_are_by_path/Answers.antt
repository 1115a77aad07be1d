use Rattle.icescan_changes.proofs.Answered.{answered_by_path}
use Rattle.icescan_changes.proofs.laws.answers_are_by_path.Goals as goal

pub returns : goal.returns
returns c = λ world metadata request plan h. answered_by_path world metadata request plan h
