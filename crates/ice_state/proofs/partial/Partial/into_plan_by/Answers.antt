use Rattle.std.proofs.Common.{◌∙◌, List, Option, ap, sym}
use Rattle.std.proofs.lemmas.Result.{err_from_is_err_and}
use Rattle.ice_manifest_reading.specs.declared.row.Row.{Row}
use Rattle.ice_state.specs.declared.kept.taken.Taken.{Taken}
use Rattle.ice_state.specs.Outcomes.{kept_in, outcome_of}
use Rattle.ice_state.specs.Slots.{contents}
use Rattle.ice_state.proofs.DeletesKept.{if_some_of}
use Rattle.ice_state.proofs.Snapshots.{of_snapshot}
use Rattle.ice_state.proofs.partial.Partial.into_plan_by.Goals as goal

pub with_index_of_all-deletes-requires : goal.with_index_of_all-deletes-requires
with_index_of_all-deletes-requires g c =
    let kept = c.self.inside.entries in
    if_some_of kept (kept_in
    (contents kept c.self.inside.slots.items)) c.self.inside.deletes c.self.invariant.all_deletes

pub returns-in_err-numbered-clause-snapshot : goal.returns-in_err-numbered-clause-snapshot
returns-in_err-numbered-clause-snapshot g c =
    let p = err_from_is_err_and c.from_residual.result c.from_residual.ensures.1 in
    λ world rows specs is covered has taken.
    let kept = c.self.inside.entries in
    let same = ap (λ (w : List Row). outcome_of w (contents kept c.deref.result.now)) c.wanted.ensures
    ∙ ap (λ (ss : List (Option Taken)). outcome_of c.args.scan.now.wanted (contents kept ss)) c.deref.ensures.value
    ∙ ap (outcome_of c.args.scan.now.wanted) c.self.view_is
    ∙ of_snapshot c.filtering.ensures.open_where_unpartitioned c.filtering.ensures.sound world c.args.scan.now rows
    specs c.args.self is covered has taken in
    rw (p.1, p.2) (λ other. sym same ∙ c.in_err-numbered.ensures.outcome other)

pub returns-clause-snapshot : goal.returns-clause-snapshot
returns-clause-snapshot g c = λ world rows specs is covered has taken.
    let kept = c.self.inside.entries in
    let same = ap (λ (w : List Row). outcome_of w (contents kept c.deref.result.now)) c.wanted.ensures
    ∙ ap (λ (ss : List (Option Taken)). outcome_of c.args.scan.now.wanted (contents kept ss)) c.deref.ensures.value
    ∙ ap (outcome_of c.args.scan.now.wanted) c.self.view_is
    ∙ of_snapshot c.filtering.ensures.open_where_unpartitioned c.filtering.ensures.sound world c.args.scan.now rows
    specs c.args.self is covered has taken in
    sym same ∙ c.in_ok-numbered.ensures.outcome
