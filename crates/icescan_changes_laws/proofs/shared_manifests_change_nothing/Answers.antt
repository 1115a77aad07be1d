use Rattle.std.proofs.Common.{filter}
use Rattle.ice_state.specs.Pruning.{pruner_of}
use Rattle.icescan_changes_laws.proofs.SomeRows.{first_is, keeps_path, nothing_changes, second_is}
use Rattle.icescan_changes_laws.proofs.shared_manifests_change_nothing.Goals as goal

pub returns : goal.returns
returns c = λ world specs parts keeps before after earlier later may was is.
    let fits = c.contents_fit.ensures.content in
    let p = pruner_of parts specs in
    let plans = c.snapshot_plans.ensures.planned world specs parts in
    let old = (plans before earlier).0 was in
    let new = (plans after later).0 is in
    let stays = keeps_path fits p world specs keeps before after may in (
      filter stays earlier,
      filter stays later,
      (plans (filter keeps before) (filter stays earlier)).1
          (first_is fits p world specs keeps before after may earlier later old new),
      (plans (filter keeps after) (filter stays later)).1
          (second_is fits p world specs keeps before after may earlier later old new),
      nothing_changes fits p world specs keeps before after may earlier later old new,
    )
