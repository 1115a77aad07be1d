use Rattle.ice_state.proofs.Snapshots.{of_snapshot}
use Rattle.ice_state_bytes.proofs.Travels.{ends_content, ends_same, ends_whole}
use Rattle.ice_state_bytes.proofs.laws.travelling.Goals as goal

pub returns : goal.returns
returns c = record {
  same = ends_same;
  content = ends_content;
  whole = ends_whole;
  plan = λ world rows specs scan name j end is covered has ends inside all.
      of_snapshot c.filtering.ensures.open_where_unpartitioned c.filtering.ensures.sound world scan rows specs end is
      covered has (ends_whole world scan name j end ends inside all);
}
