use Rattle.std.proofs.Common.{◌-◌, length}
use Rattle.path_arena.proofs.Walks.{Goes}
use Rattle.path_arena.proofs.index.end_of.Given as goal

abbrev pub invariant-loop-next : goal.invariant-loop-next
invariant-loop-next l = Goes l.index l.bytes l.depth l.link l.next

abbrev pub decreases-loop-next : goal.decreases-loop-next
decreases-loop-next l = length l.index.nodes - l.depth
