use Rattle.std.proofs.Common.{rules}
use Rattle.ice_state.specs.Apart.{AreSorted}
use Rattle.ice_state.proofs.SortedParts.{sorted_back, sorted_front}
use Rattle.ice_state.proofs.finish.apart.+are_in_gaps_by_workers+fn-are_in_gaps_by_workers-join+arg2+fn-are_in_gaps_by_workers-join+arg3.Goals as goal

pub join-first-requires-after_bounds : goal.join-first-requires-after_bounds
join-first-requires-after_bounds g t c κs within =
    let kept = c.args.entries.now in
    let front = c.split_at.result.0.now in
    let back = c.split_at.result.1.now in
    let parts = c.split_at.ensures.by_index.0 in
    let first : AreSorted kept front = sorted_front kept c.args.some.now front back parts c.requires.some in
    let second : AreSorted kept back = sorted_back kept c.args.some.now front back parts c.requires.some in (
      (search rules, (search rules, ((search rules, c.requires.files, first), search rules))),
      (search rules, (search rules, ((search rules, c.requires.files, second), search rules))),
    )
