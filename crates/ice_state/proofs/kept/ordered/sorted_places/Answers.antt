use Rattle.std.proofs.Common.{◌≡◌, ◌∙◌, [], ap, map, subst, sym, List, ℕ}
use Rattle.std.specs.List.Sorted.{IsPermutation}
use Rattle.ice_manifest_reading.specs.declared.entry.Entry.{Entry}
use Rattle.ice_state.specs.Outcomes.{by_path, twice}
use Rattle.ice_state.specs.Placed.{place_of}
use Rattle.ice_state.specs.Orders.{IsOrder}
use Rattle.ice_state.proofs.Orders.{is_order}
use Rattle.ice_state.proofs.kept.ordered.sorted_places.Goals as goal

pub returns-clause-order : goal.returns-clause-order
returns-clause-order g c = λ xs is.
    let after = c.in_ok-rise.ensures in
    let sorted = c.sort_by_path.new.placed.items in
    let all = subst (λ (ps : List ℕ). IsPermutation ps (map place_of sorted)) is.places after.same in
    let order = is_order xs sorted (after.placed xs is.placed) all (after.sorted xs is.placed ∙ ap by_path is.all) in
    subst (IsOrder xs) (sym (c.in_ok-order.ensures ∙ ap (map place_of) c.deref.ensures.value)) order

pub returns-clause-once : goal.returns-clause-once
returns-clause-once g c = λ xs is t.
    let after = c.in_ok-rise.ensures in
    subst (λ (ys : List Entry). twice ys ≡ []) (after.sorted xs is.placed ∙ ap by_path is.all)
    (after.once xs is.placed t)
