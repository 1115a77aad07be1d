use Rattle.std.proofs.Common.{refl}
use Rattle.ice_state.proofs.DeletesKept.{deletes_joined}
use Rattle.ice_state.proofs.kept.deletes.KeptDeletes.with_index.Goals as goal

pub returns : goal.returns
returns c = λ kept xs ys are is.
    deletes_joined kept xs ys c.args.self (record { indexed = c.in_ok-with.field-0; waiting = c.args.self.waiting }) are refl
    (c.in_ok-with.ensures kept are.first ys are.index is)
