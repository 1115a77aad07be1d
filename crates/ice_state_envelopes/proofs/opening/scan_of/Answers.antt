use Rattle.std.proofs.Common.{sym}
use Rattle.ice_state_envelopes.proofs.Loop.{run_at_len}
use Rattle.ice_state_envelopes.proofs.opening.scan_of.Goals as goal

pub copy_from_slice-requires : goal.copy_from_slice-requires
copy_from_slice-requires c = sym (run_at_len 32 c.args.bytes.now (c.in_ok-found.found.now, c.in_ok-found.rest.now)
    c.in_ok-found.ensures)
