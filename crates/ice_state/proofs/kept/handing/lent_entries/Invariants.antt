use Rattle.std.proofs.Common.{◌≡◌, map, take}
use Rattle.ice_manifest_reading.specs.Lending.{lent}
use Rattle.ice_state_entries.specs.Kept.{entries_at}
use Rattle.ice_state.proofs.kept.handing.lent_entries.Given as goal

abbrev pub invariant-numbers : goal.invariant-numbers
invariant-numbers l = map lent l.found.items ≡ entries_at l.entries (take l.number-index l.numbers)
