use Rattle.std.specs.Prelude.{take}
use Rattle.ice_state_entries.proofs.Keeping.{AreAdded}
use Rattle.ice_state_entries.proofs.entries.Entries.add_read.Given as goal

abbrev pub invariant-views : goal.invariant-views
invariant-views l = AreAdded l.fn.self l.self l.numbers.items (take l.view-index l.views)
