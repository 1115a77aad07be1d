use Rattle.std.proofs.Common.{◌≡◌, ◌∙◌, arith, take}
use Rattle.icescan_files.proofs.Inputs.{read_grows, read_stays}
use Rattle.icescan_files.proofs.input.read_all_into.Goals as goal
use Rattle.icescan_files.proofs.input.read_all_into.Goals.{in-Ok, in-Err+else-ne}

pub loop-turn-preserved : goal.loop-turn-preserved
loop-turn-preserved g c =
    let front : take c.loop-turn.filled c.read_behind.new.bytes.items ≡ take c.loop-turn.filled c.loop-turn.bytes.items =
    c.read_behind.ensures.front ∙ c.make_room.ensures.front in
    elim c.match-read_behind.branch [
      | in-Ok w ↦ record {
        taken = rw w.filled-is (read_grows _ _ _ c.loop-turn.bytes.items c.read_behind.new.bytes.items c.loop-turn.filled
            w.in-Ok.count front c.loop-turn.invariant.taken w.in-Ok.ensures.read);
        within = omega (arith, w.filled-is, w.in-Ok.ensures.fits);
        few = omega (arith, w.filled-is, w.in-Ok.ensures.most, c.loop-turn.invariant.few);
      }
      | in-Err+else-ne w ↦ record {
        taken = rw w.filled-is (read_stays _ _ _ c.loop-turn.bytes.items c.read_behind.new.bytes.items
            c.loop-turn.filled front c.loop-turn.invariant.taken w.in-Err.ensures.err);
        within = omega (arith, w.filled-is, c.read_behind.ensures.within);
        few = omega (arith, w.filled-is, c.loop-turn.invariant.few);
      }
    ]
