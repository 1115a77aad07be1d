-- What was taken from manifests, and what is read, is of the scan.
use Rattle.std.proofs.Common.{◌≡◌, ◌∙◌, ℕ, zero, suc, Bool, true, false, List, [], ◌∷◌, Option, Some, None, Result, Ok}
use Rattle.std.proofs.Common.{Err, refl, sym, ap, subst, option_map, slice_get, length}
use Rattle.std.specs.Str.{bytes_eq}
use Rattle.std.specs.Prelude.{◌==◌, ◌&&◌}
use Rattle.ice_meta.specs.declared.spec.Spec.{Spec}
use Rattle.ice_manifest_fields.specs.declared.fault.ManifestFault.{ManifestFault}
use Rattle.ice_manifest_reading.specs.declared.entry.Live.{Live}
use Rattle.ice_manifest_reading.specs.declared.row.Row.{Row}
use Rattle.ice_manifest_reading.specs.Manifests.{live_of}
use Rattle.ice_manifest_reading.proofs.Guards.{went_on}
use Rattle.ice_state.specs.Contents.{Content, World, IsOf, content, live_by, manifest_of, reading, reading_of}
use Rattle.ice_state.specs.Contents.{slots_of}
use Rattle.ice_state.specs.Pruning.{keeps}
use Rattle.ice_state.specs.Readings.{Reading}
use Rattle.ice_state.specs.Scans.{Scanned, pruner}
use Rattle.ice_state_envelopes.specs.Envelopes.{parts_at}
use Rattle.ice_state_bytes.specs.Faults.{enveloped}
use Rattle.ice_state_bytes.specs.OfScans.{CouldGive, IsOfScan}
use Rattle.ice_state_bytes.specs.States.{state_at}
use Rattle.ice_state_bytes.proofs.Bodies.{same_spec}
use Rattle.ice_state_bytes.proofs.Honest.{kept_of_row}
use Rattle.ice_state_bytes.proofs.Sections.{length-say}
use Rattle.ice_state_bytes.proofs.States.{after_test}

-- a row that was taken gave what its bytes say
mapped : {A B : Type 0} (f : A → B) (o : Option A) (y : B) → option_map f o ≡ Some y → (x : A) × (y ≡ f x)
mapped {A} {B} f None y h = absurd cc
mapped {A} {B} f (Some x) y h = let same : f x ≡ y = cc in (x, sym same)

slot_given : (world : World) (scan : Scanned) (ts : List Bool) (rows : List Row) (i : ℕ) (row : Row) (r : Reading)
    → slice_get rows i ≡ Some row → slice_get (slots_of world scan ts rows) i ≡ Some (Some r)
    → (bytes : List ℕ) × (r ≡ reading_of scan row bytes)
slot_given world scan [] rows i row r at is = absurd cc
slot_given world scan (t ∷ ts) [] i row r at is = absurd cc
slot_given world scan (true ∷ ts) (q ∷ rows) zero row r at is =
    let same : q ≡ row = cc in
    let given : option_map (reading_of scan q) (world q.path) ≡ Some r = cc in
    let found = mapped (reading_of scan q) (world q.path) r given in
    (found.0, found.1 ∙ ap (λ (x : Row). reading_of scan x found.0) same)
slot_given world scan (false ∷ ts) (q ∷ rows) zero row r at is = absurd cc
slot_given world scan (t ∷ ts) (q ∷ rows) (suc i) row r at is = slot_given world scan ts rows i row r at is

-- what the bytes say is what the row's manifest could give
could_give : (scan : Scanned) (row : Row) (spec : Spec) (bytes : List ℕ) (m : Result (List Live) ManifestFault)
    → live_of row spec bytes ≡ m → CouldGive row spec (reading (pruner scan) m)
could_give scan row spec bytes (Ok found) is = kept_of_row row spec bytes (keeps (pruner scan)) found is
could_give scan row spec bytes (Err fault) is = tt

pub taken_of_scan : (world : World) (scan : Scanned) (ts : List Bool) → IsOfScan scan (content world scan ts)
taken_of_scan world scan ts = λ i row spec r at of is.
    let given = slot_given world scan ts scan.wanted i row r at is in
    let by : manifest_of scan.specs row given.0 ≡ live_of row spec given.0 =
    ap (λ (o : Option Spec). live_by o row given.0) (same_spec scan i row spec at of) in
    let same : r ≡ reading (pruner scan) (live_of row spec given.0) = given.1 ∙ ap (reading (pruner scan)) by in
    subst (CouldGive row spec) (sym same) (could_give scan row spec given.0 (live_of row spec given.0) refl)

-- ---- what is read

pub read_is_of : (scan : Scanned) (name bytes : List ℕ) (c : Content) → state_at scan name bytes ≡ Ok c → IsOf scan c
unfolding state_at
read_is_of scan name bytes c h =
    let p = went_on (enveloped (parts_at bytes)) _ c h in
    let read = after_test scan name p.0 c (bytes_eq p.0.scan name && (p.0.rows == length scan.wanted)) refl p.2 in
    length-say scan p.0.sections c read.said
