use Rattle.std.proofs.Common.{◌≡◌, [], ap, refl, ℕ, ◌<◌, List, ◌++◌, length, map, sym, subst}
use Rattle.std.specs.List.Sorted.{IsPermutation}
use Rattle.std.proofs.lemmas.List.Sorted.{IsPermutation-refl}
use Rattle.ice_value.specs.Applying.{DeleteKey}
use Rattle.ice_deletes.specs.declared.group.Group.TheVariants.{Positions, Referenced, Equalities, Everywhere}
use Rattle.ice_deletes.specs.Indexes.{AreDistinct, entries_in}
use Rattle.ice_deletes.specs.Keys.{entry_of}
use Rattle.ice_deletes.specs.Shelves.{fresh_in}
use Rattle.ice_deletes.specs.Unions.{renumbered, unheld, AreBelow}
use Rattle.ice_deletes.proofs.Least.{unheld_from}
use Rattle.ice_deletes.proofs.Shelved.{are_fresh, entries_grown, fresh_for, shelf_grown}
use Rattle.ice_deletes.proofs.Shelved.{first_shelf, second_shelf, third_shelf, fourth_shelf}
use Rattle.ice_deletes.proofs.United.{all_grown, renumbered_once, united, united_with_none}
use Rattle.ice_deletes.proofs.index.DeleteIndex.merge.Goals as goal

pub new-requires-clause-below : goal.new-requires-clause-below
new-requires-clause-below c =
    let o = c.other.inside in
    let n = length c.args.to.now in
    let P : List (ℕ × DeleteKey) → Type 0 = λ es. AreBelow n es in
    first_shelf (λ e. e.0 < n) o.positions.deletes.items o.referenced.deletes.items o.equalities.deletes.items
    o.everywhere.deletes.items (subst P (sym c.other.view_is) c.requires.below)

pub new-requires-2-clause-below : goal.new-requires-2-clause-below
new-requires-2-clause-below c =
    let o = c.other.inside in
    let n = length c.args.to.now in
    let P : List (ℕ × DeleteKey) → Type 0 = λ es. AreBelow n es in
    second_shelf (λ e. e.0 < n) o.positions.deletes.items o.referenced.deletes.items o.equalities.deletes.items
    o.everywhere.deletes.items (subst P (sym c.other.view_is) c.requires.below)

pub new-requires-3-clause-below : goal.new-requires-3-clause-below
new-requires-3-clause-below c =
    let o = c.other.inside in
    let n = length c.args.to.now in
    let P : List (ℕ × DeleteKey) → Type 0 = λ es. AreBelow n es in
    third_shelf (λ e. e.0 < n) o.positions.deletes.items o.referenced.deletes.items o.equalities.deletes.items
    o.everywhere.deletes.items (subst P (sym c.other.view_is) c.requires.below)

pub new-requires-4-clause-below : goal.new-requires-4-clause-below
new-requires-4-clause-below c =
    let o = c.other.inside in
    let n = length c.args.to.now in
    let P : List (ℕ × DeleteKey) → Type 0 = λ es. AreBelow n es in
    fourth_shelf (λ e. e.0 < n) o.positions.deletes.items o.referenced.deletes.items o.equalities.deletes.items
    o.everywhere.deletes.items (subst P (sym c.other.view_is) c.requires.below)

pub grow-requires-clause-fresh : goal.grow-requires-clause-fresh
grow-requires-clause-fresh c = fresh_for Positions c.other.inside.positions c.other.invariant.positions
    c.deref.result.now c.args.to.now (fresh_in c.in_ok-positions.positions) c.in_ok-positions.ensures.fresh
    c.self.inside.positions c.self.invariant.positions

pub grow-requires-2-clause-fresh : goal.grow-requires-2-clause-fresh
grow-requires-2-clause-fresh c = fresh_for Referenced c.other.inside.referenced c.other.invariant.referenced
    c.deref-2.result.now c.args.to.now (fresh_in c.in_ok-referenced.referenced) c.in_ok-referenced.ensures.fresh
    c.self.inside.referenced c.self.invariant.referenced

pub grow-requires-3-clause-fresh : goal.grow-requires-3-clause-fresh
grow-requires-3-clause-fresh c = fresh_for Equalities c.other.inside.equalities c.other.invariant.equalities
    c.deref-3.result.now c.args.to.now (fresh_in c.in_ok-equalities.equalities) c.in_ok-equalities.ensures.fresh
    c.self.inside.equalities c.self.invariant.equalities

pub grow-requires-4-clause-fresh : goal.grow-requires-4-clause-fresh
grow-requires-4-clause-fresh c = fresh_for Everywhere c.other.inside.everywhere c.other.invariant.everywhere
    c.deref-4.result.now c.args.to.now (fresh_in c.in_ok-everywhere.everywhere) c.in_ok-everywhere.ensures.fresh
    c.self.inside.everywhere c.self.invariant.everywhere

pub returns-then-is_empty-clause-ok : goal.returns-then-is_empty-clause-ok
returns-then-is_empty-clause-ok c =
    let to = c.args.to.now in
    let none : renumbered to c.args.other.now ≡ [] = ap (renumbered to) (c.if-is_empty.ensures.is refl) in
    let D : List (ℕ × DeleteKey) → Type 0 = λ es. AreDistinct es in
    united_with_none c.args.self.now (renumbered to c.args.other.now) none
    (subst D c.self.view_is c.self.invariant.distinct)

pub returns-clause-ok : goal.returns-clause-ok
returns-clause-ok c =
    let i = c.self.inside in
    let o = c.other.inside in
    let to = c.args.to.now in
    let held = c.in_ok-held.held.items in
    let all = map entry_of c.grow.new.self.deletes.items ++ map entry_of c.grow-2.new.self.deletes.items
    ++ map entry_of c.grow-3.new.self.deletes.items ++ map entry_of c.grow-4.new.self.deletes.items in
    let grown : IsPermutation (entries_in i ++ unheld held (renumbered to (entries_in o))) all =
    all_grown held to (map entry_of i.positions.deletes.items) (map entry_of i.referenced.deletes.items)
    (map entry_of i.equalities.deletes.items) (map entry_of i.everywhere.deletes.items)
    (map entry_of o.positions.deletes.items) (map entry_of o.referenced.deletes.items)
    (map entry_of o.equalities.deletes.items) (map entry_of o.everywhere.deletes.items)
    (map entry_of c.grow.new.self.deletes.items) (map entry_of c.grow-2.new.self.deletes.items)
    (map entry_of c.grow-3.new.self.deletes.items) (map entry_of c.grow-4.new.self.deletes.items)
    (entries_grown Positions o.positions c.other.invariant.positions held to (fresh_in c.in_ok-positions.positions)
    (are_fresh held c.deref.result.now to (fresh_in c.in_ok-positions.positions)
    (map entry_of o.positions.deletes.items) c.deref.ensures.value c.in_ok-positions.ensures.fresh) i.positions
    c.grow.new.self c.grow.ensures.all)
    (entries_grown Referenced o.referenced c.other.invariant.referenced held to
    (fresh_in c.in_ok-referenced.referenced)
    (are_fresh held c.deref-2.result.now to (fresh_in c.in_ok-referenced.referenced)
    (map entry_of o.referenced.deletes.items) c.deref-2.ensures.value c.in_ok-referenced.ensures.fresh) i.referenced
    c.grow-2.new.self c.grow-2.ensures.all)
    (entries_grown Equalities o.equalities c.other.invariant.equalities held to
    (fresh_in c.in_ok-equalities.equalities)
    (are_fresh held c.deref-3.result.now to (fresh_in c.in_ok-equalities.equalities)
    (map entry_of o.equalities.deletes.items) c.deref-3.ensures.value c.in_ok-equalities.ensures.fresh) i.equalities
    c.grow-3.new.self c.grow-3.ensures.all)
    (entries_grown Everywhere o.everywhere c.other.invariant.everywhere held to
    (fresh_in c.in_ok-everywhere.everywhere)
    (are_fresh held c.deref-4.result.now to (fresh_in c.in_ok-everywhere.everywhere)
    (map entry_of o.everywhere.deletes.items) c.deref-4.ensures.value c.in_ok-everywhere.ensures.fresh) i.everywhere
    c.grow-4.new.self c.grow-4.ensures.all) in
    let P : List (ℕ × DeleteKey) → Type 0 = λ es. IsPermutation (es ++ unheld held (renumbered to (entries_in o))) all
    in
    let Q : List (ℕ × DeleteKey) → Type 0 = λ es.
    IsPermutation (c.args.self.now ++ unheld held (renumbered to es)) all in
    let D : List (ℕ × DeleteKey) → Type 0 = λ es. AreDistinct es in
    let numbers : List ℕ = map (λ (e : ℕ × DeleteKey). e.0) c.args.self.now in
    let same = unheld_from _ numbers held c.in_ok-held.ensures.same to c.least_of.ensures c.args.other.now
    c.requires.below in
    let R : List (ℕ × DeleteKey) → Type 0 = λ es. IsPermutation (c.args.self.now ++ es) all in
    united c.args.self.now (renumbered to c.args.other.now) all numbers (IsPermutation-refl numbers)
    (subst R same (subst Q c.other.view_is (subst P c.self.view_is grown))) c.requires.agree
    (subst D c.self.view_is c.self.invariant.distinct)
    (renumbered_once to c.args.other.now c.requires.once c.requires.below
    (subst D c.other.view_is c.other.invariant.distinct))

pub invariant_of-self : goal.invariant_of-self
invariant_of-self c =
    let i = c.self.inside in
    let o = c.other.inside in
    let to = c.args.to.now in
    record {
      positions = shelf_grown Positions o.positions c.other.invariant.positions c.deref.result.now to
          (fresh_in c.in_ok-positions.positions) c.in_ok-positions.ensures.fresh i.positions c.grow.new.self
          c.self.invariant.positions c.grow.ensures.group c.grow.ensures.rising c.grow.ensures.all
          c.grow.ensures.numbered;
      referenced = shelf_grown Referenced o.referenced c.other.invariant.referenced c.deref-2.result.now to
          (fresh_in c.in_ok-referenced.referenced) c.in_ok-referenced.ensures.fresh i.referenced c.grow-2.new.self
          c.self.invariant.referenced c.grow-2.ensures.group c.grow-2.ensures.rising c.grow-2.ensures.all
          c.grow-2.ensures.numbered;
      equalities = shelf_grown Equalities o.equalities c.other.invariant.equalities c.deref-3.result.now to
          (fresh_in c.in_ok-equalities.equalities) c.in_ok-equalities.ensures.fresh i.equalities c.grow-3.new.self
          c.self.invariant.equalities c.grow-3.ensures.group c.grow-3.ensures.rising c.grow-3.ensures.all
          c.grow-3.ensures.numbered;
      everywhere = shelf_grown Everywhere o.everywhere c.other.invariant.everywhere c.deref-4.result.now to
          (fresh_in c.in_ok-everywhere.everywhere) c.in_ok-everywhere.ensures.fresh i.everywhere c.grow-4.new.self
          c.self.invariant.everywhere c.grow-4.ensures.group c.grow-4.ensures.rising c.grow-4.ensures.all
          c.grow-4.ensures.numbered;
      distinct = (returns-clause-ok c).once;
    }
