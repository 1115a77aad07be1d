use Rattle.icescan_audit.proofs.Premise.{parts_of}
use Rattle.icescan_audit_laws.proofs.Selecting.{true_from, truth_for}
use Rattle.icescan_audit_laws.proofs.audits_tell_of_plans.Goals as goal

pub returns-clause-premise : goal.returns-clause-premise
returns-clause-premise c = λ world metadata target audit filter is none.
    let p = parts_of world metadata target audit is in
    truth_for world metadata target filter p.subject p.subject_is
    ((c.audits_tell_of_summaries.ensures world metadata target audit is).0 none)

pub returns-clause-plans : goal.returns-clause-plans
returns-clause-plans c = λ world metadata target audit filter is none.
    let p = parts_of world metadata target audit is in
    c.plans_of_true_summaries.ensures world metadata (record { target = target; filter = filter })
    (truth_for world metadata target filter p.subject p.subject_is
    ((c.audits_tell_of_summaries.ensures world metadata target audit is).0 none))

pub returns-clause-told : goal.returns-clause-told
returns-clause-told c = λ world metadata target audit is tells.
    (c.audits_tell_of_summaries.ensures world metadata target audit is).1 (true_from world metadata target tells)
