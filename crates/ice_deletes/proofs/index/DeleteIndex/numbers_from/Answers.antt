use Rattle.std.proofs.Common.{◌≡◌, ℕ, Bool, List, ◌++◌, filter, map, nat_le, sym, ap, subst, ◌∙◌}
use Rattle.std.specs.List.Sorted.{IsPermutation}
use Rattle.ice_value.specs.Applying.{DeleteKey}
use Rattle.ice_deletes.proofs.Least.{four_from}
use Rattle.ice_deletes.proofs.Shelved.{numbers_shelved}
use Rattle.ice_deletes.proofs.index.DeleteIndex.numbers_from.Goals as goal

pub returns-clause-same : goal.returns-clause-same
returns-clause-same c =
    let i = c.self.inside in
    let p : ℕ → Bool = nat_le c.args.least in
    let sorted = c.sort_unstable.new.self.items in
    let first : c.push_from.new.held.items ≡ filter p i.positions.numbers.items =
    c.in_ok-push_from.ensures ∙ ap (λ l. l ++ filter p c.deref.result.now) c.new-numbers.ensures.items
    ∙ ap (filter p) c.deref.ensures.value in
    let second : c.push_from-2.new.held.items ≡ filter p i.positions.numbers.items
    ++ filter p i.referenced.numbers.items =
    c.in_ok-push_from-2.ensures ∙ ap (λ l. l ++ filter p c.deref-2.result.now) first
    ∙ ap (λ l. filter p i.positions.numbers.items ++ filter p l) c.deref-2.ensures.value in
    let third : c.push_from-3.new.held.items ≡ filter p i.positions.numbers.items
    ++ filter p i.referenced.numbers.items ++ filter p i.equalities.numbers.items =
    c.in_ok-push_from-3.ensures ∙ ap (λ l. l ++ filter p c.deref-3.result.now) second
    ∙ ap (λ l. filter p i.positions.numbers.items ++ filter p i.referenced.numbers.items ++ filter p l)
    c.deref-3.ensures.value in
    let fourth : c.push_from-4.new.held.items ≡ filter p i.positions.numbers.items
    ++ filter p i.referenced.numbers.items ++ filter p i.equalities.numbers.items
    ++ filter p i.everywhere.numbers.items =
    c.in_ok-push_from-4.ensures ∙ ap (λ l. l ++ filter p c.deref-4.result.now) third
    ∙ ap (λ l. filter p i.positions.numbers.items ++ filter p i.referenced.numbers.items
    ++ filter p i.equalities.numbers.items ++ filter p l) c.deref-4.ensures.value in
    let all = fourth ∙ four_from p i.positions.numbers.items i.referenced.numbers.items i.equalities.numbers.items
    i.everywhere.numbers.items ∙ ap (filter p) (sym (numbers_shelved i c.self.invariant)) in
    let P : List (ℕ × DeleteKey) → Type 0 = λ es.
    IsPermutation (filter p (map (λ (e : ℕ × DeleteKey). e.0) es)) sorted in
    let Q : List ℕ → Type 0 = λ l. IsPermutation l sorted in
    subst P c.self.view_is (subst Q all c.sort_unstable.ensures.permutation)
