use Rattle.std.proofs.Common.{List}
use Rattle.ice_state.specs.Lines.{OwnedLine}
use Rattle.icescan_print.specs.MadeDeletes.{AreMade}
use Rattle.icescan_print.proofs.made_deletes.no_texts.Given as goal

-- no place so far has a text
abbrev pub invariant-places : goal.invariant-places
invariant-places l = (lines : List OwnedLine) → AreMade lines l.places.items
