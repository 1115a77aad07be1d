use Rattle.std.proofs.lemmas.Result.{IfOk-weaker}
use Rattle.ice_state_envelopes.proofs.Numbers.{run_put}
use Rattle.ice_state_envelopes.proofs.written.push_run.Goals as goal

pub returns : goal.returns
returns c = IfOk-weaker c.push_bytes.result _ _ (λ all is. run_put c.args.run.now c.args.bytes.items
    c.in_ok-bytes.bytes.items all.items c.in_ok-bytes.ensures is) c.push_bytes.ensures
