use Rattle.icescan_explain.proofs.Planned.{alike, kept_are_planned}
use Rattle.icescan_explain.proofs.explained.explanations_tell_of_plans.Goals as goal

pub returns-clause-plan : goal.returns-clause-plan
returns-clause-plan c = λ world metadata request plan h. (alike world metadata request).plan plan h

pub returns-clause-refused : goal.returns-clause-refused
returns-clause-refused c = λ world metadata request fault. (alike world metadata request).refused fault

pub returns-clause-kept : goal.returns-clause-kept
returns-clause-kept c = λ world metadata request x h. kept_are_planned world metadata request x h
