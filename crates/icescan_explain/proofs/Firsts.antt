-- The first of a list to which the answer is no.
use Rattle.std.proofs.Common.{◌≡◌, ℕ, suc, Bool, true, false, not, ◌&&◌, List, [], ◌∷◌, map}
use Rattle.std.proofs.Common.{Option, None, Some, refl, sym, ap, ◌∙◌, arith}
use Rattle.std.specs.Prelude.{is_none}
use Rattle.std.specs.Option.{option_or}
use Rattle.std.specs.List.{AllByRecursion, Contains, flat_map, list_all}
use Rattle.std.proofs.lemmas.List.Folds.{find-append}
use Rattle.ice_filter.specs.declared.parts.Part.{Part}
use Rattle.ice_filter.specs.declared.parts.Part.TheVariants.{True, False, Predicate, And, Or}
use Rattle.ice_filter.specs.Trees.{map_predicates}
use Rattle.ice_meta.specs.declared.spec.Spec.{Spec}
use Rattle.ice_project.specs.declared.part_filter.FieldTest.{FieldTest}
use Rattle.ice_project.specs.declared.part_filter.PartFilter.{PartFilter}
use Rattle.icescan_explain.specs.Alone.{predicates, lone_test, only_test, tests_in}
use Rattle.icescan_explain.specs.Blaming.{first_no}
use Rattle.icescan_explain.specs.declared.lone.LoneTest.{LoneTest}

-- an element further on
pub later : {X : Type 0} (xs : List X) (x y : X) → Contains xs y → Contains (x ∷ xs) y
later xs x y c = (suc c.0, omega (arith, c.1), c.2)

pub none_no : {X : Type 0} (says : X → Bool) (xs : List X) → first_no says xs ≡ None
    → AllByRecursion (λ x. says x ≡ true) xs
none_no says [] h = tt
none_no {X} says (x ∷ xs) h = go (says x) refl (λ k. none_no says xs k) where
  go : (b : Bool) → says x ≡ b → (first_no says xs ≡ None → AllByRecursion (λ y. says y ≡ true) xs)
      → AllByRecursion (λ y. says y ≡ true) (x ∷ xs)
  go true e rest = (e, rest (rw e at h))
  go false e rest = absurd (let k : Some x ≡ None = rw e at h in cc)

-- the tests of a projection's predicate are met together just where none of them alone says no
module _ (spec : Spec) (n : ℕ) (ok : FieldTest → Bool) (says : PartFilter → Bool)
    (one : (t : FieldTest) → says (only_test n t) ≡ (ok t && true)) where
  abbrev no_to : LoneTest → Bool
  no_to x = says x.part

  abbrev blamed : List LoneTest → Option LoneTest
  blamed xs = first_no no_to xs

  pub together : (ts : List FieldTest) → list_all ok ts ≡ is_none (blamed (map (lone_test spec n) ts))
  together [] = refl
  together (t ∷ ts) = go (ok t) refl (together ts) where
    go : (b : Bool) → ok t ≡ b → list_all ok ts ≡ is_none (blamed (map (lone_test spec n) ts))
        → (ok t && list_all ok ts) ≡ is_none (blamed (map (lone_test spec n) (t ∷ ts)))
    go true e rest = rw (one t, e) rest
    go false e rest = rw (one t, e) refl

  abbrev lone : List (Part (List FieldTest)) → List LoneTest
  lone ps = flat_map (tests_in spec n) ps

  none_of : (o p : Option LoneTest) → option_or o p ≡ None → (o ≡ None) × (p ≡ None)
  none_of None p h = (refl, h)
  none_of (Some x) p h = absurd cc

  -- where no test says no, the tests of each predicate are met
  pub none_out : (ps : List (Part (List FieldTest))) → blamed (lone ps) ≡ None
      → AllByRecursion (λ ts. list_all ok ts ≡ true) (predicates ps)
  none_out [] h = tt
  none_out (True ∷ ps) h = none_out ps h
  none_out (False ∷ ps) h = none_out ps h
  none_out (And ∷ ps) h = none_out ps h
  none_out (Or ∷ ps) h = none_out ps h
  none_out (Predicate ts ∷ ps) h =
      let split = find-append (λ x. not (no_to x)) (map (lone_test spec n) ts) (lone ps) in
      let parts = none_of (blamed (map (lone_test spec n) ts)) (blamed (lone ps)) (sym split ∙ h) in
      (together ts ∙ ap is_none parts.0, none_out ps parts.1)

  -- where one does, the tests of some predicate are not met together
  pub some_out : {L : Type 0} (f : L → List FieldTest) (ps : List (Part L)) (x : LoneTest)
      → blamed (lone (map_predicates f ps)) ≡ Some x
      → (l : L) × Contains (predicates ps) l × (list_all ok (f l) ≡ false)
  some_out f [] x h = absurd cc
  some_out f (True ∷ ps) x h = some_out f ps x h
  some_out f (False ∷ ps) x h = some_out f ps x h
  some_out f (And ∷ ps) x h = some_out f ps x h
  some_out f (Or ∷ ps) x h = some_out f ps x h
  some_out {L} f (Predicate l ∷ ps) x h =
      go (blamed (map (lone_test spec n) (f l))) refl (λ k. some_out f ps x k) where
        go : (o : Option LoneTest) → blamed (map (lone_test spec n) (f l)) ≡ o
            → (blamed (lone (map_predicates f ps)) ≡ Some x
            → (m : L) × Contains (predicates ps) m × (list_all ok (f m) ≡ false))
            → (m : L) × Contains (predicates (Predicate l ∷ ps)) m × (list_all ok (f m) ≡ false)
        go (Some y) e rest = (l, (0, omega arith, refl), together (f l) ∙ ap is_none e)
        go None e rest =
            let split = find-append (λ y. not (no_to y)) (map (lone_test spec n) (f l)) (lone (map_predicates f ps)) in
            let left : blamed (lone (map_predicates f ps)) ≡ Some x = rw e at (sym split ∙ h) in
            let found = rest left in
            (found.0, later (predicates ps) l found.0 found.1, found.2)
