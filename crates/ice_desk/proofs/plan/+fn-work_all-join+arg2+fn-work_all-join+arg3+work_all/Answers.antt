use Rattle.std.proofs.Common.{◌≡◌, ◌+◌, arith, subst, sym, vec_len}
use Rattle.std.proofs.lemmas.Grind.{common_steps}
use Rattle.std.proofs.lemmas.Result.{IfOk-weaker}
use Rattle.ice_state.specs.Joins.{join}
use Rattle.ice_desk.specs.Given.{IsGiven}
use Rattle.ice_desk.proofs.Crews.{served_both}
use Rattle.ice_desk.proofs.Given.{join_given}
use Rattle.ice_desk.proofs.plan.+fn-work_all-join+arg2+fn-work_all-join+arg3+work_all.Goals as goal

pub returns-clause-served : goal.returns-clause-served
returns-clause-served g t c =
    let first = rw c.in_ok-left.was at c.join-left.ensures.first in
    let second = rw c.in_ok-right-2.was at c.join-left.ensures.second in
    served_both (g.F.Files.world c.args.files.now) (g.F.Files.may_fail c.args.files.now) c.args.desk.now c.args.scan.now
    (λ r. r.seats.items) (λ r. r.state) (λ r. r.left) c.both.result _ _ _ _ _ _ first.1 second.1
    c.both.ensures.seats c.both.ensures.state c.both.ensures.left
    (λ w. c.both.ensures.content w c.args.scan.now)

pub returns-clause-count : goal.returns-clause-count
returns-clause-count g t c =
    let first = rw c.in_ok-left.was at c.join-left.ensures.first in
    let second = rw c.in_ok-right-2.was at c.join-left.ensures.second in
    IfOk-weaker c.both.result (λ crew. vec_len crew.seats ≡ vec_len c.in_ok-left.field-0.seats + vec_len
    c.in_ok-right-2.field-0.seats) (λ crew. vec_len crew.seats ≡ vec_len c.args.seats)
    (λ crew h. grind (
      arith,
      common_steps,
      h,
      first.0,
      second.0,
      c.in_ok-right.ensures.len,
      c.in_ok-right.ensures.tail_len,
    )) c.both.ensures.count

pub returns-clause-given : goal.returns-clause-given
returns-clause-given g t c =
    let scan = c.args.scan.now in
    let gives = g.F.Files.gives c.args.files.now in
    let first = rw c.in_ok-left.was at c.join-left.ensures.first in
    let second = rw c.in_ok-right-2.was at c.join-left.ensures.second in
    IfOk-weaker c.both.result (λ crew. crew.state ≡ join c.in_ok-left.field-0.state c.in_ok-right-2.field-0.state)
    (λ crew. IsGiven gives scan crew.state)
    (λ crew h. subst (IsGiven gives scan) (sym h) (join_given gives scan scan.wanted _ _ first.2 second.2))
    c.both.ensures.state
