-- Taking the manifest of a row.
use Rattle.std.proofs.Common.{◌≡◌, ◌∙◌, ℕ, zero, suc, true, [], ◌∷◌, List, Option, Some, None, ap, refl}
use Rattle.std.proofs.Common.{get_or, slice_get}
use Rattle.ice_meta.specs.declared.spec.Spec.{Spec}
use Rattle.ice_manifest_reading.specs.declared.row.Row.{Row}
use Rattle.ice_manifest_reading.specs.Manifests.{live_of}
use Rattle.ice_state.specs.Contents.{Content, is_row_taken, took_at, manifest_of, live_by, with_row}
use Rattle.ice_state.specs.Readings.{Reading}
use Rattle.ice_state.specs.Scans.{Scanned, spec_at}
use Rattle.ice_state.specs.Specs.{spec_of}

-- a row that was taken stays as it is
pub taken_stays : (scan : Scanned) (c : Content) (rows : List Row) (i : ℕ) (bytes : List ℕ) → is_row_taken c i ≡ true
    → c ≡ took_at scan c rows i bytes
taken_stays scan [] rows i bytes k = refl
taken_stays scan (t ∷ ss) [] i bytes k = refl
taken_stays scan (Some x ∷ ss) (r ∷ rs) zero bytes k = refl
taken_stays scan (None ∷ ss) (r ∷ rs) zero bytes k = absurd cc
taken_stays scan (t ∷ ss) (r ∷ rs) (suc i) bytes k = ap (λ x. t ∷ x) (taken_stays scan ss rs i bytes k)

pub taken_row_stays : (c : Content) (i : ℕ) (r : Reading) → is_row_taken c i ≡ true → c ≡ with_row c i r
taken_row_stays [] i r k = refl
taken_row_stays (Some x ∷ ss) zero r k = refl
taken_row_stays (None ∷ ss) zero r k = absurd cc
taken_row_stays (t ∷ ss) (suc i) r k = ap (λ x. t ∷ x) (taken_row_stays ss i r k)

same_row : (rows : List Row) (i : ℕ) (row here : Row) → slice_get rows i ≡ Some row → here ≡ get_or rows i here
    → row ≡ here
same_row [] i row here at is = absurd cc
same_row (r ∷ rs) zero row here at is = cc
same_row (r ∷ rs) (suc i) row here at is = same_row rs i row here at is

-- the manifest of a wanted row is read by the row's spec
pub manifest_is : (scan : Scanned) (i : ℕ) (row here : Row) (spec : Spec) (bytes : List ℕ)
    → slice_get scan.wanted i ≡ Some row → here ≡ get_or scan.wanted i here → spec_at scan i ≡ Some spec
    → manifest_of scan.specs row bytes ≡ live_of here spec bytes
manifest_is scan i row here spec bytes at is of =
    let same : row ≡ here = same_row scan.wanted i row here at is in
    let by : spec_of scan.specs row.spec_id ≡ Some spec = rw at at of in
    ap (λ (o : Option Spec). live_by o row bytes) by ∙ ap (λ (r : Row). live_of r spec bytes) same
