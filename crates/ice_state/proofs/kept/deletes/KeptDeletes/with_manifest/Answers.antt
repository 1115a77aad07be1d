use Rattle.std.proofs.Common.{refl}
use Rattle.ice_state.proofs.DeletesKept.{deletes_pushed}
use Rattle.ice_state.proofs.kept.deletes.KeptDeletes.with_manifest.Goals as goal

pub returns : goal.returns
returns c = λ xs are.
    deletes_pushed c.args.entries.now xs _ c.args.self
    (record { indexed = c.args.self.indexed; waiting = c.push_taken.new.found }) refl
    (c.push_taken.ensures.kept are.files) c.in_ok-push_taken.ensures.pushed are
