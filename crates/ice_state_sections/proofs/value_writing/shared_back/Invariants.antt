use Rattle.std.proofs.Common.{◌≡◌, ◌-◌, length, drop}
use Rattle.ice_state_sections.proofs.value_writing.shared_back.Given as goal

abbrev pub invariant-bytes : goal.invariant-bytes
invariant-bytes l = drop (length l.known - l.index) l.known ≡ drop (length l.path - l.index) l.path
