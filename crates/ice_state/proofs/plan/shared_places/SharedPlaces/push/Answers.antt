use Rattle.std.proofs.Common.{◌≡◌, ◌∙◌, ◌++◌, ◌∷◌, [], List, ℕ, Result, Ok, Err, OnErr, ap, arith, length, subst, sym}
use Rattle.ice_state.specs.PlaceLists.{GainsLine, places_at}
use Rattle.ice_state.specs.SharedPlaces.{AreIn, lines_in}
use Rattle.ice_state.proofs.SharedLines.{HasMore, has_more}
use Rattle.ice_state.proofs.plan.shared_places.SharedPlaces.push.Goals as goal
use Rattle.ice_state.proofs.plan.shared_places.SharedPlaces.push.Goals.{In_ok-push, In_ok-push-2}

on_err : {T E P : Type 0} (r : Result T E) → P → OnErr r P
on_err (Ok x) p = tt
on_err (Err e) p = p

abbrev of_positions : In_ok-push → List ℕ
of_positions c = places_at c.args.ranks.now c.args.positions.now ++ places_at c.args.ranks.now
    c.args.other_positions.now

abbrev of_equalities : In_ok-push → List ℕ
of_equalities c = places_at c.args.ranks.now c.args.equalities.now
    ++ places_at c.args.ranks.now c.args.other_equalities.now

more : (c : In_ok-push) → HasMore c.self.inside.lists c.push.new.self c.args.self.now c.self.inside.lines.items
    (of_positions c) (of_equalities c)
more c = has_more c.self.inside.lists c.push.new.self c.args.self.now c.self.inside.lines.items (of_positions c)
    (of_equalities c) c.self.view_is c.self.invariant c.in_ok-push.ensures.ok

pushed : (c : In_ok-push-2) → c.push-2.new.self.items
    ≡ c.self.inside.lines.items ++ length c.self.inside.lists ∷ []
pushed c =
    let is : c.in-Ok.list ≡ length c.self.inside.lists = first_of (
      omega (arith, c.in-Ok.ensures, c.len.ensures.counted),
      grind arith,
    ) in
    c.in_ok-push-2.ensures.items ∙ ap (λ (n : ℕ). c.self.inside.lines.items ++ n ∷ []) is

pub returns-in_err-push-2-clause-err : goal.returns-in_err-push-2-clause-err
returns-in_err-push-2-clause-err c =
    let at = (goal.at.returns-in_err-push-2-clause-err c).In_ok-push in
    on_err c.from_residual-in_err-push-2.result (ap (lines_in c.push.new.self) c.in_err-push-2.ensures.items
    ∙ (more at).same)

pub invariant_of-self-2 : goal.invariant_of-self-2
invariant_of-self-2 c =
    let at = (goal.at.invariant_of-self-2 c).In_ok-push in
    subst (AreIn c.push.new.self) (sym (pushed (goal.at.invariant_of-self-2 c).In_ok-push-2)) (more at).whole

pub returns-clause-ok : goal.returns-clause-ok
returns-clause-ok c =
    let at = (goal.at.returns-clause-ok c).In_ok-push in
    subst (λ (ns : List ℕ). GainsLine c.args.self.now (lines_in c.push.new.self ns) (of_positions at)
    (of_equalities at))
    (sym (pushed (goal.at.returns-clause-ok c).In_ok-push-2)) (more at).gains
