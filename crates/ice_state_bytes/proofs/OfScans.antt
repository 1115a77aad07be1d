-- Rows that are of a scan.
use Rattle.std.proofs.Common.{◌≡◌, ◌∙◌, ℕ, zero, suc, [], ◌∷◌, Some, None, refl, sym, ap, subst, slice_get}
use Rattle.std.proofs.Common.{◌⊎◌, inl, inr}
use Rattle.ice_meta.specs.declared.spec.Spec.{Spec}
use Rattle.ice_manifest_reading.specs.declared.row.Row.{Row}
use Rattle.ice_state.specs.Contents.{Content, with_row}
use Rattle.ice_state.specs.Readings.{Reading}
use Rattle.ice_state.specs.Scans.{Scanned, spec_at}
use Rattle.ice_state_bytes.specs.OfScans.{CouldGive, IsOfScan}

-- a row that is put in
put_at : (c : Content) (i k : ℕ) (r q : Reading) → slice_get (with_row c i r) k ≡ Some (Some q)
    → (slice_get c k ≡ Some (Some q)) ⊎ ((k ≡ i) × (q ≡ r))
put_at [] i k r q h = inl h
put_at (None ∷ c) zero zero r q h = let same : r ≡ q = cc in inr (refl, sym same)
put_at (Some x ∷ c) zero zero r q h = inl h
put_at (s ∷ c) zero (suc k) r q h = inl h
put_at (s ∷ c) (suc i) zero r q h = inl h
put_at (s ∷ c) (suc i) (suc k) r q h = elim (put_at c i k r q h) as (λ _. (slice_get (s ∷ c) (suc k) ≡ Some (Some q)) ⊎
    ((suc k ≡ suc i) × (q ≡ r))) [
      | inl a ↦ inl a
      | inr b ↦ inr (ap suc b.0, b.1)
    ]

same_could : (scan : Scanned) (i : ℕ) (r : Reading) (row other : Row) (spec further : Spec)
    → slice_get scan.wanted i ≡ Some row → spec_at scan i ≡ Some spec → slice_get scan.wanted i ≡ Some other
    → spec_at scan i ≡ Some further → CouldGive row spec r → CouldGive other further r
same_could scan i r row other spec further at is at' is' could =
    let rows : row ≡ other = cc in
    let specs : spec ≡ further = cc in
    subst (λ (x : Row). CouldGive x further r) rows (subst (λ (x : Spec). CouldGive row x r) specs could)

pub put_of_scan : (scan : Scanned) (c : Content) (i : ℕ) (r : Reading) (row : Row) (spec : Spec)
    → slice_get scan.wanted i ≡ Some row → spec_at scan i ≡ Some spec → CouldGive row spec r → IsOfScan scan c
    → IsOfScan scan (with_row c i r)
put_of_scan scan c i r row spec at is could of = λ k other further q at' is' here.
    elim (put_at c i k r q here) as (λ _. CouldGive other further q) [
      | inl a ↦ of k other further q at' is' a
      | inr b ↦
          subst (CouldGive other further) (sym b.1) (same_could scan i r row other spec further at is
          (ap (slice_get scan.wanted) (sym b.0) ∙ at') (ap (spec_at scan) (sym b.0) ∙ is') could)
    ]
