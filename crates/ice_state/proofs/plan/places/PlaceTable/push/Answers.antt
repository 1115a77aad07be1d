use Rattle.std.proofs.Common.{◌≡◌, ◌∙◌, ◌++◌, refl, ap, sym, subst, length, take, arith, List, ℕ}
use Rattle.std.proofs.Common.{Result, Ok, Err, OnErr}
use Rattle.std.proofs.lemmas.List.{take_at}
use Rattle.ice_state.specs.declared.plan.places.Ends.{Ends}
use Rattle.ice_state.specs.PlaceLists.{LinePlaces, lines_from, end_of, RiseWithin, places_at, GainsInOrder, GainsLine}
use Rattle.ice_state.proofs.PlaceTables.{front_is, KeepsLines, keeps_lines, begins_shorter, HasLineMore, has_line_more}
use Rattle.ice_state.proofs.plan.places.PlaceTable.push.Goals as goal
use Rattle.ice_state.proofs.plan.places.PlaceTable.push.Goals.{After-truncate, In_ok-push}

on_err : {T E P : Type 0} (r : Result T E) → P → OnErr r P
on_err (Ok x) p = tt
on_err (Err e) p = p

-- the list is cut where its last line ends
front : (c : After-truncate)
    → c.truncate.new.self.items ≡ take (end_of 0 c.self.inside.ends.items) c.self.inside.places.items
front c = front_is c.self.inside.ends.items c.deref.result.now c.self.inside.places.items c.truncate.new.self.items
    c.len.result c.start_of-start.result c.deref.ensures.value (omega (arith, c.len.ensures)) c.start_of-start.ensures
    c.truncate.ensures.items

-- a list that still begins so has the same lines
kept : (c : After-truncate) (qs : List ℕ) → take (length c.truncate.new.self.items) qs ≡ c.truncate.new.self.items
    → KeepsLines c.self.inside.ends.items c.self.inside.places.items qs
kept c qs begins = keeps_lines c.self.inside.ends.items c.self.inside.places.items c.truncate.new.self.items qs
    c.self.invariant (front c) begins

-- as does one that begins as the list with the positions does
kept_behind : (c : After-truncate) (long qs numbers : List ℕ) → GainsInOrder c.truncate.new.self.items long numbers
    → take (length long) qs ≡ long → KeepsLines c.self.inside.ends.items c.self.inside.places.items qs
kept_behind c long qs numbers gains begins = kept c qs
    (begins_shorter c.truncate.new.self.items long gains.part qs gains.added begins)

begins_so : (long qs numbers : List ℕ) → GainsInOrder long qs numbers → take (length long) qs ≡ long
begins_so long qs numbers gains = ap (take (length long)) gains.added ∙ take_at long gains.part (length long) refl

pub invariant_of-self : goal.invariant_of-self
invariant_of-self c =
    let at = (goal.at.invariant_of-self c).After-truncate in
    (kept at c.append_in_order.new.places.items c.in_err-positions.ensures.err).rise

pub returns-in_err-positions-clause-err : goal.returns-in_err-positions-clause-err
returns-in_err-positions-clause-err c =
    let at = (goal.at.returns-in_err-positions-clause-err c).After-truncate in
    on_err c.from_residual.result ((kept at c.append_in_order.new.places.items c.in_err-positions.ensures.err).same
    ∙ c.self.view_is)

pub invariant_of-self-in_err-equalities : goal.invariant_of-self-in_err-equalities
invariant_of-self-in_err-equalities c =
    let at = (goal.at.invariant_of-self-in_err-equalities c).After-truncate in
    (kept_behind at c.append_in_order.new.places.items c.append_in_order-2.new.places.items _
    c.in_ok-positions.ensures.ok c.in_err-equalities.ensures.err).rise

pub returns-in_err-equalities-clause-err : goal.returns-in_err-equalities-clause-err
returns-in_err-equalities-clause-err c =
    let at = (goal.at.returns-in_err-equalities-clause-err c).After-truncate in
    on_err c.from_residual-in_err-equalities.result ((kept_behind at c.append_in_order.new.places.items
    c.append_in_order-2.new.places.items _ c.in_ok-positions.ensures.ok c.in_err-equalities.ensures.err).same
    ∙ c.self.view_is)

pub invariant_of-self-in_err-push : goal.invariant_of-self-in_err-push
invariant_of-self-in_err-push c =
    let at = (goal.at.invariant_of-self-in_err-push c).After-truncate in
    let qs = c.append_in_order-2.new.places.items in
    let same = kept_behind at c.append_in_order.new.places.items qs _ c.in_ok-positions.ensures.ok
    (begins_so c.append_in_order.new.places.items qs _ c.in_ok-equalities.ensures.ok) in
    subst (λ (fs : List Ends). RiseWithin (length qs) 0 fs) (sym {A = List Ends} c.in_err-push.ensures.items) same.rise

pub returns-in_err-push-clause-err : goal.returns-in_err-push-clause-err
returns-in_err-push-clause-err c =
    let at = (goal.at.returns-in_err-push-clause-err c).After-truncate in
    let qs = c.append_in_order-2.new.places.items in
    let same = kept_behind at c.append_in_order.new.places.items qs _ c.in_ok-positions.ensures.ok
    (begins_so c.append_in_order.new.places.items qs _ c.in_ok-equalities.ensures.ok) in
    on_err c.from_residual-in_err-push.result (ap (λ (fs : List Ends). lines_from 0 fs qs) c.in_err-push.ensures.items
    ∙ same.same ∙ c.self.view_is)

more : (c : In_ok-push) → HasLineMore c.self.inside.ends.items c.push.new.self.items c.self.inside.places.items
    c.append_in_order-2.new.places.items
    (places_at c.args.ranks.now c.args.positions.now ++ places_at c.args.ranks.now c.args.other_positions.now)
    (places_at c.args.ranks.now c.args.equalities.now ++ places_at c.args.ranks.now c.args.other_equalities.now)
more c = has_line_more c.self.inside.ends.items c.push.new.self.items c.self.inside.places.items
    c.truncate.new.self.items c.append_in_order.new.places.items c.append_in_order-2.new.places.items _ _
    c.in_ok-positions.positions c.in_ok-equalities.equalities c.self.invariant
    (front_is c.self.inside.ends.items c.deref.result.now c.self.inside.places.items c.truncate.new.self.items
    c.len.result c.start_of-start.result c.deref.ensures.value (omega (arith, c.len.ensures)) c.start_of-start.ensures
    c.truncate.ensures.items) c.in_ok-positions.ensures.ok c.in_ok-equalities.ensures.ok
    c.in_ok-positions.ensures.end c.in_ok-equalities.ensures.end c.in_ok-push.ensures.items

pub invariant_of-self-2 : goal.invariant_of-self-2
invariant_of-self-2 c = (more (goal.at.invariant_of-self-2 c).In_ok-push).rise

pub returns-clause-ok : goal.returns-clause-ok
returns-clause-ok c =
    subst (λ (lines : List LinePlaces). GainsLine lines
    (lines_from 0 c.push.new.self.items c.append_in_order-2.new.places.items)
    (places_at c.args.ranks.now c.args.positions.now ++ places_at c.args.ranks.now c.args.other_positions.now)
    (places_at c.args.ranks.now c.args.equalities.now ++ places_at c.args.ranks.now c.args.other_equalities.now))
    c.self.view_is (more (goal.at.returns-clause-ok c).In_ok-push).gains
