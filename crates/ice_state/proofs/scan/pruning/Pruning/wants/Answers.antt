use Rattle.std.proofs.Common.{◌∙◌, ap, sym}
use Rattle.ice_state.specs.Parts.{Filtered}
use Rattle.ice_state.specs.Pruning.{by_projection, summaries_allow}
use Rattle.ice_state.specs.Specs.{spec_of}
use Rattle.ice_state.proofs.Filtered.{by_spec}
use Rattle.ice_state.proofs.scan.pruning.Pruning.wants.Goals as goal

pub returns-in-Some-clause-wanted : goal.returns-in-Some-clause-wanted
returns-in-Some-clause-wanted c =
    let pruning = c.hold.new.self in
    let row = c.args.row.now in
    c.wants.ensures ∙ by_spec pruning.filter (λ part. summaries_allow part row.partitions)
    (spec_of pruning.specs row.spec_id) c.in-Some.filter (sym c.in_ok-found.ensures ∙ c.in-Some.is)
    ∙ ap (λ (p : Filtered). by_projection p.filter (λ part. summaries_allow part row.partitions)
    (spec_of p.specs row.spec_id)) c.hold.ensures
