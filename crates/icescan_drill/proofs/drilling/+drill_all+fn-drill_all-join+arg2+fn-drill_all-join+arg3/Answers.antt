use Rattle.std.proofs.Common.{◌≡◌, ◌+◌, ◌/◌, vec_len, arith}
use Rattle.icescan_drill.proofs.Drills.{counted_by_both, drilled_alone, saw_both}
use Rattle.icescan_drill.proofs.drilling.+drill_all+fn-drill_all-join+arg2+fn-drill_all-join+arg3.Goals as goal

pub returns-then-len-eq1-clause-drilled : goal.returns-then-len-eq1-clause-drilled
returns-then-len-eq1-clause-drilled g t c =
    let alone : vec_len c.args.seats ≡ 1 = omega arith in
    drilled_alone c.drill.result c.args.first c.args.drill.commits c.args.seats alone c.drill.ensures.count
    c.drill.ensures.commits c.drill.ensures.seen

pub returns-clause-drilled : goal.returns-clause-drilled
returns-clause-drilled g t c =
    let left = rw c.in_ok-left.was at c.join-left.ensures.first in
    let right = rw c.in_ok-right-2.was at c.join-left.ensures.second in
    let len : vec_len c.split_off.new.self + vec_len c.in_ok-right.right ≡ vec_len c.args.seats =
    omega (arith, c.in_ok-right.ensures.len, c.in_ok-right.ensures.tail_len) in
    let next : c.args.first + c.len-half.result / 2 ≡ c.args.first + vec_len c.split_off.new.self =
    omega (arith, c.in_ok-right.ensures.len) in (
      omega (arith, len, left.0.0, right.0.0, c.in_ok-both.ensures.count),
      counted_by_both c.args.seats.items c.split_off.new.self.items c.in_ok-right.right.items _ _ _ _ _ _ _ _
          c.in_ok-right.ensures.items c.in_ok-right.ensures.tail len left.0.1 right.0.1 c.in_ok-both.ensures.commits,
      saw_both c.args.first (c.args.first + c.len-half.result / 2) (vec_len c.split_off.new.self)
          (vec_len c.in_ok-right.right)
          (vec_len c.args.seats) c.args.drill.commits next len left.0.2 right.0.2,
    )
