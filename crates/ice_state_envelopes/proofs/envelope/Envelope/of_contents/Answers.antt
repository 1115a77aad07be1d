use Rattle.std.proofs.Common.{sym, ◌∙◌}
use Rattle.ice_state_envelopes.proofs.Rising.{rise_of}
use Rattle.ice_state_envelopes.proofs.Loop.{run_at_len}
use Rattle.ice_state_envelopes.proofs.envelope.Envelope.of_contents.Goals as goal

pub invariant_of-result : goal.invariant_of-result
invariant_of-result c = (
  run_at_len 32 c.args.bytes.now (c.in_ok-scan.scan, c.in_ok-scan.rest.now) c.in_ok-scan.ensures,
  rise_of 0 c.in_ok-rows.rows _ (rw c.deref.ensures.value at (sym c.are_rising.ensures ∙ c.if-not-are_rising.false)),
)
