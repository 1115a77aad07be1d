-- What the first element that passes a test is.
use Rattle.std.proofs.Common.{◌≡◌, ◌<◌, ℕ, zero, suc, Bool, true, false, cond, List, [], ◌∷◌, find, inl, inr, refl, sym}
use Rattle.std.proofs.Common.{ap, ◌∙◌, arith}
use Rattle.std.specs.Prelude.{None, Some, slice_get}
use Rattle.std.specs.List.{Contains}
use Rattle.ice_manifest_reading.proofs.Sets.{cases_of, nowhere}
use Rattle.ice_catalog_versions.proofs.LiveAfter.{contained, some_is}

module _ {X : Type 0} (test : X → Bool) where
  none_step : (x : X) (xs : List X) (b : Bool) → test x ≡ b
      → (find test xs ≡ None → (y : X) → Contains xs y → test y ≡ false)
      → cond b (Some x) (find test xs) ≡ None → (y : X) → Contains (x ∷ xs) y → test y ≡ false
  none_step x xs true is rest e y i = absurd cc
  none_step x xs false is rest e y i = elim (cases_of x xs y i) as (λ _. test y ≡ false)
      [ inl same ↦ ap test (sym same) ∙ is | inr m ↦ rest e y m ]

  -- where there is none, no element passes
  pub none_found : (xs : List X) → find test xs ≡ None → (y : X) → Contains xs y → test y ≡ false
  none_found [] e y i = absurd (nowhere y i)
  none_found (x ∷ xs) e y i = none_step x xs (test x) refl (none_found xs) e y i

  -- this element stands at a place and passes, and none before it does
  abbrev pub IsFirst : List X → X → Type 0
  IsFirst xs x = (place : ℕ) × (slice_get xs place ≡ Some x) × (test x ≡ true)
      × ((before : ℕ) (y : X) → before < place → slice_get xs before ≡ Some y → test y ≡ false)

  none_before : (x : X) (xs : List X) (place : ℕ) → test x ≡ false
      → ((before : ℕ) (y : X) → before < place → slice_get xs before ≡ Some y → test y ≡ false)
      → (before : ℕ) (y : X) → before < suc place → slice_get (x ∷ xs) before ≡ Some y → test y ≡ false
  none_before x xs place is all zero y lt at = ap test (sym (some_is x y at)) ∙ is
  none_before x xs place is all (suc before) y lt at = all before y (omega (arith, lt)) at

  first_step : (x y : X) (xs : List X) (b : Bool) → test x ≡ b → (find test xs ≡ Some y → IsFirst xs y)
      → cond b (Some x) (find test xs) ≡ Some y → IsFirst (x ∷ xs) y
  first_step x y xs true is rest e = (
    0,
    e,
    ap test (sym (some_is x y e)) ∙ is,
    λ before z lt at. absurd (omega (arith, lt)),
  )
  first_step x y xs false is rest e =
      let r = rest e in
      (suc r.0, r.1, r.2, none_before x xs r.0 is r.3)

  pub first_found : (xs : List X) (x : X) → find test xs ≡ Some x → IsFirst xs x
  first_found [] x e = absurd cc
  first_found (z ∷ zs) x e = first_step z x zs (test z) refl (first_found zs x) e

  pub found_among : (xs : List X) (x : X) → find test xs ≡ Some x → Contains xs x × (test x ≡ true)
  found_among xs x e = let r = first_found xs x e in (contained xs r.0 x r.1, r.2)

  -- and it is the one that is found
  pub found_first : (xs : List X) (place : ℕ) (x : X) → slice_get xs place ≡ Some x → test x ≡ true
      → ((before : ℕ) (y : X) → before < place → slice_get xs before ≡ Some y → test y ≡ false)
      → find test xs ≡ Some x
  found_first [] place x at is all = absurd cc
  found_first (y ∷ ys) zero x at is all =
      ap (λ b. cond b (Some y) (find test ys)) (ap test (some_is y x at) ∙ is) ∙ at
  found_first (y ∷ ys) (suc place) x at is all =
      ap (λ b. cond b (Some y) (find test ys)) (all 0 y (omega arith) refl)
      ∙ found_first ys place x at is (λ before z lt h. all (suc before) z (omega (arith, lt)) h)
