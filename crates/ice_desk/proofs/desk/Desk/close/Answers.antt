use Rattle.std.proofs.Common.{arith, sym, subst, ◌∙◌}
use Rattle.ice_desk.specs.Seats.{limit_of}
use Rattle.std.proofs.lemmas.Bool.{ltb-true}
use Rattle.ice_desk.proofs.Keeps.{Ended, ends}
use Rattle.ice_desk.proofs.Desks.{limit_is, seats_is, first_word, all_drawn}
use Rattle.ice_desk.proofs.desk.Desk.close.Goals as goal

ended : (c : goal.After-free) → Ended c.args.self.table.shared.key c.gather-place.result.me.0 c.word-word.result
ended c =
    let desk = c.args.self in
    let place = c.gather-place.result in
    subst (Ended desk.table.shared.key place.me.0) (first_word _ _ c.word-word.ensures)
    (ends desk.table.shared.key place.id place.me.0 _ _ c.close_with-closed.ensures.values.2
    (c.gather-place.ensures.all ∙ sym (seats_is desk)))

pub returns-clause-once : goal.returns-clause-once
returns-clause-once c = λ t. sym (c.gather-place.ensures.drawn t) ∙ (ended c).once t

pub returns-clause-whole : goal.returns-clause-whole
returns-clause-whole c = λ k s at had. all_drawn (limit_of c.args.self) c.word-word.result k c.args.seats.items s
    (returns-clause-once c) at (ltb-true _ _ had)

pub returns-clause-seen : goal.returns-clause-seen
returns-clause-seen c = λ i some_seen. let is =
    (ended c).seen i (omega (arith, some_seen, c.gather-place.ensures.seen i)) in
    omega (arith, is, c.gather-place.ensures.marked i)

pub returns-clause-small : goal.returns-clause-small
returns-clause-small c = omega (arith, (ended c).small, limit_is c.args.self, seats_is c.args.self)
