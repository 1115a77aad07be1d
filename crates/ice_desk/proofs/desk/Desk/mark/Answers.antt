use Rattle.std.proofs.Common.{refl, ap, arith}
use Rattle.ice_desk.specs.declared.hand.Hand.{Hand}
use Rattle.ice_desk.proofs.Desks.{marks_at, wide_mark, still_seat}
use Rattle.ice_desk.proofs.desk.Desk.mark.Goals as goal

pub store-requires : goal.store-requires
store-requires c =
    let desk = c.args.self.now in (
      c.requires.seat.table,
      wide_mark desk _ c.requires.manifest,
      marks_at desk _ _ _ _ c.requires.seat.one c.requires.manifest,
    )

pub returns-clause-seat : goal.returns-clause-seat
returns-clause-seat c =
    let hand = c.store.ensures.2.0 c.args.i (omega arith) in
    still_seat c.args.self.now c.args.seat.now _ c.requires.seat c.store.ensures.0 c.store.ensures.2.1 (ap (λ
    (v : Hand). v.seats) hand) (ap (λ (v : Hand). v.drawn) hand) refl
