-- The projections of a filter that are held.
use Rattle.std.proofs.Common.{◌≡◌, ◌∙◌, ℕ, zero, suc, List, [], ◌∷◌, Option, Some, None, refl, sym, ap}
use Rattle.std.proofs.Common.{replicate, set, ◌⊎◌, inl, inr}
use Rattle.std.proofs.lemmas.Option.{same_Some}
use Rattle.std.specs.List.{slice_get}
use Rattle.ice_filter.specs.declared.bound.BoundPredicate.{BoundPredicate}
use Rattle.ice_filter.specs.declared.parts.Part.{Part}
use Rattle.ice_meta.specs.declared.spec.Spec.{Spec}
use Rattle.ice_project.specs.Projection.{projection}
use Rattle.ice_project.specs.declared.part_filter.PartFilter.{PartFilter}
use Rattle.ice_state.specs.Parts.{AreProjected}

nothing_at : (n i : ℕ) (part : PartFilter) → slice_get (replicate n None) i ≡ Some (Some part) → ⊥
nothing_at zero i part h = cc
nothing_at (suc n) zero part h = cc
nothing_at (suc n) (suc i) part h = nothing_at n i part h

-- none is held at first
pub none_projected : (filter : List (Part BoundPredicate)) (specs : List Spec) (n : ℕ)
    → AreProjected filter specs (replicate n None)
none_projected filter specs n = λ i spec part at is. absurd (nothing_at n i part is)

-- what stands at a place after a write to one
written : (held : List (Option PartFilter)) (at i : ℕ) (x : Option PartFilter)
    → (slice_get (set held at x) i ≡ slice_get held i) ⊎ ((i ≡ at) × (slice_get (set held at x) i ≡ Some x))
written [] at i x = inl refl
written (h ∷ hs) zero zero x = inr (refl, refl)
written (h ∷ hs) zero (suc i) x = inl refl
written (h ∷ hs) (suc at) zero x = inl refl
written (h ∷ hs) (suc at) (suc i) x = elim (written hs at i x) [
  | inl same ↦ inl same
  | inr there ↦ inr (ap suc there.0, there.1)
]

-- one more is held
pub one_more_projected : (filter : List (Part BoundPredicate)) (specs : List Spec) (held : List (Option PartFilter))
    (at : ℕ) (spec : Spec) (part : PartFilter) → slice_get specs at ≡ Some spec → part ≡ projection filter spec
    → AreProjected filter specs held → AreProjected filter specs (set held at (Some part))
one_more_projected filter specs held at spec part here is are = λ i other found si fi.
    elim (written held at i (Some part)) [
      | inl same ↦ are i other found si (sym same ∙ fi)
      | inr there ↦
          let same_spec : spec ≡ other = same_Some spec other (sym here ∙ ap (slice_get specs) (sym there.0) ∙ si) in
          let same_part : part ≡ found = same_Some part found (same_Some (Some part) (Some found) (sym there.1 ∙ fi)) in
          sym same_part ∙ is ∙ ap (projection filter) same_spec
    ]
