use Rattle.std.proofs.Common.{ℕ, ℤ, List, refl, subst, w32}
use Rattle.std.specs.List.Sorted.{IsPermutation}
use Rattle.std.proofs.lemmas.Int.{to_z-of_z}
use mir.Val.{to_z, of_z}
use Rattle.ice_value.specs.Applying.{DeleteKey}
use Rattle.ice_deletes.specs.declared.group.Group.TheVariants.{Referenced}
use Rattle.ice_deletes.specs.declared.index.Hits.{Hits}
use Rattle.ice_deletes.specs.Found.{data_key}
use Rattle.ice_deletes.specs.Indexes.{AreDistinct}
use Rattle.ice_deletes.specs.Neighbours.{AreHits, numbers_for}
use Rattle.ice_deletes.proofs.Neighbours.{found_again, hits_once, of_spec}
use Rattle.ice_deletes.proofs.finder.Finder.found.Goals as goal

pub returns-in-Some-clause-hits : goal.returns-in-Some-clause-hits
returns-in-Some-clause-hits c =
    let tuple = c.args.tuple.now in
    let number = c.args.sequence_number in
    let path = c.args.path.now in
    let spec : ℤ = to_z w32 (of_z w32 c.args.spec_id) in
    let hits : Hits = record {
      positions = c.in-Some.hits.positions;
      referenced = c.naming.result;
      equalities = c.in-Some.hits.equalities;
      everywhere = c.in-Some.hits.everywhere;
    } in
    let P : List (ℕ × DeleteKey) → Type 0 = λ es.
    IsPermutation (numbers_for Referenced (data_key spec tuple number path) es) c.naming.result.now in
    let named : P c.args.self.now = subst P c.self.view_is c.naming.ensures.named in
    let before = c.in-Some.ensures in
    of_spec c.args.self.now spec c.args.spec_id tuple number path hits
    (to_z-of_z w32 c.args.spec_id c.ranges.spec_id)
    (found_again c.args.self.now spec tuple number before.0 path c.in-Some.hits hits before.1 refl named refl refl)

pub returns-in-Some-clause-once : goal.returns-in-Some-clause-once
returns-in-Some-clause-once c =
    let P : List (ℕ × DeleteKey) → Type 0 = λ es. AreDistinct es in
    hits_once _ c.args.self.now _ (returns-in-Some-clause-hits c) (subst P c.self.view_is c.naming.ensures.distinct)

pub returns-in-None-clause-hits : goal.returns-in-None-clause-hits
returns-in-None-clause-hits c =
    let tuple = c.args.tuple.now in
    let number = c.args.sequence_number in
    let path = c.args.path.now in
    let spec : ℤ = to_z w32 (of_z w32 c.args.spec_id) in
    let found : AreHits (data_key spec tuple number path) c.self.inside.index.now c.for_data.result = record {
      positions = c.for_data.ensures.positions;
      referenced = c.for_data.ensures.referenced;
      equalities = c.for_data.ensures.equalities;
      everywhere = c.for_data.ensures.everywhere;
    } in
    let P : List (ℕ × DeleteKey) → Type 0 = λ es. AreHits (data_key spec tuple number path) es c.for_data.result in
    of_spec c.args.self.now spec c.args.spec_id tuple number path c.for_data.result
    (to_z-of_z w32 c.args.spec_id c.ranges.spec_id) (subst P c.self.view_is found)
