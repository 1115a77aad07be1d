use Rattle.std.proofs.Common.{◌∙◌, w64}
use Rattle.std.proofs.lemmas.Int.{to_z-of_z}
use Rattle.std.proofs.lemmas.Result.{IfOk-weaker}
use Rattle.ice_state_envelopes.proofs.Numbers.{long_put}
use Rattle.ice_state_envelopes.proofs.written.push_long.Goals as goal

pub returns : goal.returns
returns c = IfOk-weaker c.push_number.result _ _ (λ all puts. long_put c.unsigned.result c.args.number
    c.args.bytes.items all.items (c.unsigned.ensures ∙ to_z-of_z w64 c.args.number c.ranges.number) puts)
    c.push_number.ensures
