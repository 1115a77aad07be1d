use Rattle.std.proofs.Common.{arith, ap, refl, ◌∙◌}
use Rattle.ice_desk.specs.declared.hand.Hand.{Hand}
use Rattle.ice_desk.specs.Seats.{IsSeatOf, hand_of}
use Rattle.ice_desk.proofs.Keeps.{joins}
use Rattle.ice_desk.proofs.Desks.{wide, popped, taken_in, one_shorter}
use Rattle.ice_desk.proofs.desk.Desk.gather.Goals as goal

pub join_seat-requires : goal.join_seat-requires
join_seat-requires c =
    let desk = c.args.self.now in
    let last = (popped (IsSeatOf desk) _ _ _ c.in-Some-pop.ensures.items c.loop-other.invariant.seats).1 in (
      c.loop-other.invariant.table,
      last.table,
      last.free,
      wide desk,
      joins desk.table.shared.key _ _ _ _ c.loop-other.invariant.some_seat (omega (arith, last.one)),
    )

pub loop-other-preserved : goal.loop-other-preserved
loop-other-preserved c =
    let cut = c.in-Some-pop.ensures.items in
    let parts = popped (IsSeatOf c.args.self.now) _ _ _ cut c.loop-other.invariant.seats in
    let hand = ap (λ m. m.0) c.join_seat.ensures.2 in
    let seats = ap (λ (v : Hand). v.seats) hand in
    record {
      table = c.join_seat.ensures.0 ∙ c.loop-other.invariant.table;
      some_seat = omega (arith, seats, c.loop-other.invariant.some_seat);
      left = omega (arith, seats, parts.1.one, c.loop-other.invariant.left, one_shorter _ _ _ cut);
      seats = parts.0;
      drawn = λ t. taken_in (λ s. (hand_of s).drawn) t _ _ _ _ _ _ _ cut (ap (λ (v : Hand). v.drawn) hand) refl
          (c.loop-other.invariant.drawn t);
      marked = λ t. taken_in (λ s. (hand_of s).marked) t _ _ _ _ _ _ _ cut (ap (λ (v : Hand). v.marked) hand) refl
          (c.loop-other.invariant.marked t);
      seen = λ t. taken_in (λ s. (hand_of s).seen) t _ _ _ _ _ _ _ cut (ap (λ (v : Hand). v.seen) hand) refl
          (c.loop-other.invariant.seen t);
    }
