use Rattle.std.proofs.Common.{refl, ap, arith, ⊎_elim, eq-eqb, ne_eqb}
use Rattle.std.proofs.lemmas.Bool.{cases_eq}
use Rattle.ice_desk.specs.declared.hand.Hand.{Hand}
use Rattle.ice_desk.proofs.Desks.{looks_at, wide_mark, still_seat}
use Rattle.ice_desk.proofs.desk.Desk.look.Goals as goal

pub load-requires : goal.load-requires
load-requires c =
    let desk = c.args.self.now in (
      c.requires.seat.table,
      wide_mark desk _ c.requires.manifest,
      looks_at desk _ _ _ _ c.requires.seat.one c.requires.manifest,
    )

pub returns-clause-seat : goal.returns-clause-seat
returns-clause-seat c =
    let told = c.load.ensures.2.0 c.args.i (omega arith) in
    ⊎_elim
    (λ is.
    let hand = told.0 is in
    still_seat c.args.self.now c.args.seat.now _ c.requires.seat c.load.ensures.0 c.load.ensures.2.1 (ap (λ
    (v : Hand). v.seats) hand) (ap (λ (v : Hand). v.drawn) hand) refl)
    (λ ne.
    let hand = (told.1 ne).0 in
    still_seat c.args.self.now c.args.seat.now _ c.requires.seat c.load.ensures.0 c.load.ensures.2.1 (ap (λ
    (v : Hand). v.seats) hand) (ap (λ (v : Hand). v.drawn) hand) refl)
    (cases_eq c.load.result 1)

pub returns-clause-saw : goal.returns-clause-saw
returns-clause-saw c =
    let told = c.load.ensures.2.0 c.args.i (omega arith) in
    ⊎_elim (λ is. rw (eq-eqb c.load.result 1 is) (told.0 is)) (λ ne. rw (ne_eqb c.load.result 1 ne) (told.1 ne))
    (cases_eq c.load.result 1)
