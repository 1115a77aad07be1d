use Rattle.std.proofs.Common.{subst}
use Rattle.ice_state_entries.specs.Kept.{Kept, Keeps}
use Rattle.ice_state_entries.specs.Keeping.{kept_of}
use Rattle.ice_state_entries.specs.Own.{Row}
use Rattle.ice_state_entries.proofs.Keeping.{has_all-keeps, keeps_grown, put_or_refused}
use Rattle.ice_state_entries.proofs.entries.Entries.add.Goals as goal

pub invariant_of-self : goal.invariant_of-self
invariant_of-self c =
    let e = c.self.inside in
    has_all-keeps e.shared c.record_of.new.self e.table c.record_of.ensures.keeps c.self.invariant

pub returns-in_err-record-clause-keeps : goal.returns-in_err-record-clause-keeps
returns-in_err-record-clause-keeps c =
    let e = c.self.inside in let shared = c.record_of.new.self in
    subst (λ (old : Kept). Keeps old (kept_of shared e.table)) c.self.view_is
    (keeps_grown e.shared shared e.table c.record_of.ensures.keeps c.self.invariant)

pub invariant_of-self-2 : goal.invariant_of-self-2
invariant_of-self-2 c =
    let e = c.self.inside in let row : Row = (c.args.entry.now.path.now, c.in_ok-record.record) in
    (put_or_refused e.shared c.record_of.new.self e.table c.put.new.self row c.put.result c.record_of.ensures.keeps
    c.self.invariant c.in_ok-record.ensures.ok.0 c.put.ensures.ok c.put.ensures.err).0

pub returns-clause-keeps : goal.returns-clause-keeps
returns-clause-keeps c =
    let e = c.self.inside in let row : Row = (c.args.entry.now.path.now, c.in_ok-record.record) in
    subst (λ (old : Kept). Keeps old (kept_of c.record_of.new.self c.put.new.self)) c.self.view_is
    (put_or_refused e.shared c.record_of.new.self e.table c.put.new.self row c.put.result c.record_of.ensures.keeps
    c.self.invariant c.in_ok-record.ensures.ok.0 c.put.ensures.ok c.put.ensures.err).1
