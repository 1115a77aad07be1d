use Rattle.std.proofs.Common.{refl}
use Rattle.ice_state.proofs.DeletesKept.{deletes_with}
use Rattle.ice_state.proofs.kept.deletes.KeptDeletes.with_files.Goals as goal

pub returns : goal.returns
returns c = λ kept xs ys are files more.
    deletes_with kept xs ys c.args.self (record { indexed = c.args.self.indexed; waiting = c.append.new.self })
    c.args.files.items refl c.in_ok-append.ensures.items are files more
