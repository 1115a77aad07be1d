use Rattle.std.proofs.Common.{◌+◌, ◌&&◌, ◌++◌, ℕ, List, subst, rules}
use Rattle.std.specs.List.{Contains}
use Rattle.std.specs.List.Sorted.{IsPermutation}
use Rattle.ice_value.specs.Applying.{DataKey, DeleteKey, applies}
use Rattle.ice_deletes.specs.declared.group.Group.TheVariants.{Positions, Referenced, Equalities, Everywhere}
use Rattle.ice_deletes.specs.Found.{data_key, numbers_where, AppliesAt}
use Rattle.ice_deletes.specs.Groups.{is_in}
use Rattle.ice_deletes.proofs.Applying.{key_for}
use Rattle.ice_deletes.proofs.Lent.{AreFound, positions_lent, referenced_lent, equalities_lent, everywhere_lent}
use Rattle.ice_deletes.proofs.Lent.{all_apply, all_once}
use Rattle.ice_deletes.proofs.Slices.{Lends}
use Rattle.ice_deletes.proofs.index.DeleteIndex.for_data.Goals as goal
use Rattle.ice_deletes.proofs.index.DeleteIndex.for_data.Goals.{After-suffix-4}

abbrev file : After-suffix-4 → DataKey
file c = data_key c.args.spec_id c.args.tuple.now c.args.sequence_number c.args.path.now

pub returns-clause-positions : goal.returns-clause-positions
returns-clause-positions c =
    let lends : Lends c.self.inside.positions (key_for (file c) c.args.sequence_number) c.suffix.result.now =
    rw (← c.get-number.ensures.same) (search rules) in
    let P : List (ℕ × DeleteKey) → Type 0 = λ files. IsPermutation (numbers_where
    (λ d. is_in Positions d && applies (file c) d) files) c.suffix.result.now in
    subst P c.self.view_is (positions_lent c.self.inside c.self.invariant (file c) c.suffix.result.now lends)

pub returns-clause-referenced : goal.returns-clause-referenced
returns-clause-referenced c =
    let lends : Lends c.self.inside.referenced (key_for (file c) c.args.sequence_number) c.suffix-2.result.now =
    rw (← c.get-number.ensures.same) (search rules) in
    let P : List (ℕ × DeleteKey) → Type 0 = λ files. IsPermutation (numbers_where
    (λ d. is_in Referenced d && applies (file c) d) files) c.suffix-2.result.now in
    subst P c.self.view_is (referenced_lent c.self.inside c.self.invariant (file c) c.suffix-2.result.now lends)

pub returns-clause-equalities : goal.returns-clause-equalities
returns-clause-equalities c =
    let lends : Lends c.self.inside.equalities (key_for (file c) (c.args.sequence_number + 1)) c.suffix-3.result.now =
    rw (← c.get-number.ensures.same) (search rules) in
    let P : List (ℕ × DeleteKey) → Type 0 = λ files. IsPermutation (numbers_where
    (λ d. is_in Equalities d && applies (file c) d) files) c.suffix-3.result.now in
    subst P c.self.view_is (equalities_lent c.self.inside c.self.invariant (file c) c.suffix-3.result.now lends)

pub returns-clause-everywhere : goal.returns-clause-everywhere
returns-clause-everywhere c =
    let lends : Lends c.self.inside.everywhere (key_for (file c) (c.args.sequence_number + 1)) c.suffix-4.result.now =
    rw (← c.get-number.ensures.same) (search rules) in
    let P : List (ℕ × DeleteKey) → Type 0 = λ files. IsPermutation (numbers_where
    (λ d. is_in Everywhere d && applies (file c) d) files) c.suffix-4.result.now in
    subst P c.self.view_is (everywhere_lent c.self.inside c.self.invariant (file c) c.suffix-4.result.now lends)

found : (c : After-suffix-4) → AreFound c.self.inside (file c) c.suffix.result.now c.suffix-2.result.now
    c.suffix-3.result.now c.suffix-4.result.now
found c = rw (← c.get-number.ensures.same) (record {
  positions = search rules;
  referenced = search rules;
  equalities = search rules;
  everywhere = search rules;
})

pub returns-clause-exact : goal.returns-clause-exact
returns-clause-exact c =
    let hits = c.suffix.result.now ++ c.suffix-2.result.now ++ c.suffix-3.result.now ++ c.suffix-4.result.now in
    let P : List (ℕ × DeleteKey) → Type 0 = λ files. (n : ℕ) → (Contains hits n → AppliesAt files (file c) n)
    × (AppliesAt files (file c) n → Contains hits n) in
    subst P c.self.view_is (all_apply c.self.inside c.self.invariant (file c) c.suffix.result.now c.suffix-2.result.now
    c.suffix-3.result.now c.suffix-4.result.now (found c))

pub returns-clause-once : goal.returns-clause-once
returns-clause-once c = all_once c.self.inside c.self.invariant (file c) c.suffix.result.now c.suffix-2.result.now
    c.suffix-3.result.now c.suffix-4.result.now (found c)
