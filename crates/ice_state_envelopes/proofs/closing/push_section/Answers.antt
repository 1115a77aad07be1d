use Rattle.std.proofs.lemmas.Result.{IfOk-weaker}
use Rattle.ice_state_envelopes.proofs.Put.{section_put}
use Rattle.ice_state_envelopes.proofs.closing.push_section.Goals as goal

pub returns : goal.returns
returns c = IfOk-weaker c.push_run.result _ _ (λ all puts. section_put c.args.section.now.row
    c.args.section.now.body.now
    c.args.bytes.items c.in_ok-bytes.bytes.items all.items c.in_ok-bytes.ensures puts) c.push_run.ensures
