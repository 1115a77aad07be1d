use Rattle.ice_state.proofs.DeletesKept.{deletes_of_index}
use Rattle.ice_state.proofs.kept.deletes.KeptDeletes.of_index.Goals as goal

pub returns : goal.returns
returns c = λ kept xs is. deletes_of_index kept xs (record { indexed = c.args.indexed; waiting = c.new.result })
    c.new.ensures.items is
