use Rattle.std.specs.Prelude.{take}
use Rattle.ice_state_entries.specs.Kept.{entries_at}
use Rattle.ice_state_entries.proofs.Keeping.{AreAdded}
use Rattle.ice_state_entries.proofs.entries.Entries.add_kept.Given as goal

abbrev pub invariant-numbers : goal.invariant-numbers
invariant-numbers l = AreAdded l.fn.self l.self l.added.items (entries_at l.others (take l.number-index l.numbers))
