use Rattle.std.proofs.Common.{arith, sym, ◌∙◌, ◌-◌, drop, length-drop}
use Rattle.std.proofs.lemmas.List.{length-map}
use Rattle.ice_state.specs.Segments.{entries_at}
use Rattle.ice_state.proofs.Outcomes.{twice_short}
use Rattle.ice_state.proofs.finish.check_neighbours.Goals as goal

pub returns : goal.returns
returns c =
    sym c.loop-i.invariant
    ∙ twice_short (entries_at c.args.entries.now (drop (c.loop-i.i - 1) c.args.files.now))
    (simp (length-map, length-drop) (omega arith))
