use Rattle.std.proofs.Common.{◌∙◌}
use Rattle.ice_state.specs.Segments.{segment_at}
use Rattle.ice_state.proofs.Orders.{path_placed}
use Rattle.ice_state.proofs.kept.row_runs.path_in.Goals as goal

pub returns : goal.returns
returns c =
    let ordered = c.args.ordered.now in
    let one = segment_at c.args.entries.now ordered.segment in
    c.path.ensures ∙ rw (c.segment.ensures, c.as_slice.ensures, c.as_slice-2.ensures)
    (path_placed one ordered.numbers ordered.order c.args.place _ c.requires.place c.requires.ordered.1.order)
