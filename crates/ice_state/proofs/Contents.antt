-- Lemmas on contents.
use Rattle.std.proofs.Common.{◌≡◌, ◌<◌, ℕ, zero, suc, List, [], ◌∷◌, refl, ap, ◌∙◌, Bool, true, false, length, get_or}
use Rattle.std.proofs.Common.{Option, Some, None, is_some, replicate, slice_set, arith}
use Rattle.std.specs.List.{slice_get}
use Rattle.std.specs.Option.{option_and_then}
use Rattle.ice_manifest_reading.specs.declared.row.Row.{Row}
use Rattle.ice_state.specs.Readings.{Reading}
use Rattle.ice_state.specs.Scans.{Scanned}
use Rattle.ice_state.specs.Specs.{spec_of}
use Rattle.ice_state.specs.Contents.{Content, World, slot_of, slots_of, content, add, or_else, took_at, took}
use Rattle.ice_state.specs.Contents.{HasBytesAt, HasBytes, with_row}
use Rattle.ice_state.specs.Parts.{OfSpec, reading_by}
use Rattle.ice_state.proofs.OfSpecs.{reading_is}

-- a row that was taken stays as it is
pub with_row-kept : (c : Content) (i : ℕ) (r : Reading) (s : Option Reading) → s ≡ get_or c i s → is_some s ≡ true
    → c ≡ with_row c i r
with_row-kept [] i r s h k = refl
with_row-kept (Some x ∷ ss) zero r s h k = refl
with_row-kept (None ∷ ss) zero r s h k = cc
with_row-kept (t ∷ ss) (suc i) r s h k = ap (λ x. t ∷ x) (with_row-kept ss i r s h k)

pub took-kept : (scan : Scanned) (c : Content) (rows : List Row) (i : ℕ) (bytes : List ℕ) (s : Option Reading)
    → s ≡ get_or c i s → is_some s ≡ true → c ≡ took_at scan c rows i bytes
took-kept scan [] rows i bytes s h k = refl
took-kept scan (t ∷ ss) [] i bytes s h k = refl
took-kept scan (Some x ∷ ss) (r ∷ rs) zero bytes s h k = refl
took-kept scan (None ∷ ss) (r ∷ rs) zero bytes s h k = cc
took-kept scan (t ∷ ss) (r ∷ rs) (suc i) bytes s h k = ap (λ x. t ∷ x) (took-kept scan ss rs i bytes s h k)

-- a row that wasn't is set
pub with_row-new : (c : Content) (i : ℕ) (r : Reading) (s : Option Reading) → s ≡ get_or c i s → is_some s ≡ false
    → slice_set c i (Some r) ≡ with_row c i r
with_row-new [] i r s h k = refl
with_row-new (Some x ∷ ss) zero r s h k = cc
with_row-new (None ∷ ss) zero r s h k = refl
with_row-new (t ∷ ss) (suc i) r s h k = ap (λ x. t ∷ x) (with_row-new ss i r s h k)

-- by the row's manifest, or by what it gave
pub with_row-took : (scan : Scanned) (c : Content) (rows : List Row) (i : ℕ) (bytes : List ℕ) (row : Row) (f : OfSpec)
    → f.filter ≡ scan.filter → i < length rows → row ≡ get_or rows i row →
    option_and_then (λ (r : Row). spec_of scan.specs r.spec_id) (slice_get rows i) ≡ Some f.spec
    → with_row c i (reading_by f row bytes) ≡ took_at scan c rows i bytes
with_row-took scan [] rows i bytes row f same l h k = refl
with_row-took scan (s ∷ ss) [] i bytes row f same l h k = absurd (omega arith)
with_row-took scan (s ∷ ss) (r ∷ rs) zero bytes row f same l h k =
    ap (λ (q : Row). or_else s (Some (reading_by f q bytes)) ∷ ss) h ∙ ap (λ (x : Reading). or_else s (Some x) ∷ ss)
    (reading_is scan r f bytes same k)
with_row-took scan (s ∷ ss) (r ∷ rs) (suc i) bytes row f same l h k = ap (λ x. s ∷ x) (with_row-took scan ss rs i bytes
    row f same (omega arith) h k)

-- in a world, taking a row adds it to the set
pub took-content : (world : World) (scan : Scanned) (ts : List Bool) (rows : List Row) (i : ℕ) (bytes : List ℕ)
    → HasBytesAt world rows i bytes → took_at scan (slots_of world scan ts rows) rows i bytes ≡ slots_of world scan
    (add ts i) rows
took-content world scan [] rows i bytes h = refl
took-content world scan (t ∷ ts) [] i bytes h = absurd h
took-content world scan (true ∷ ts) (row ∷ rows) zero bytes h = rw h refl
took-content world scan (false ∷ ts) (row ∷ rows) zero bytes h = rw h refl
took-content world scan (t ∷ ts) (row ∷ rows) (suc i) bytes h = ap (λ x. slot_of world scan t row ∷ x)
    (took-content world scan ts rows i bytes h)

-- the step in a world
pub took-in_world : (world : World) (scan : Scanned) (ts : List Bool) (i : ℕ) (bytes : List ℕ) (old new : Content)
    → new ≡ took scan old i bytes → old ≡ content world scan ts → HasBytes world scan i bytes
    → new ≡ content world scan (add ts i)
took-in_world world scan ts i bytes old new step is has = step ∙ ap (λ c. took scan c i bytes) is ∙ took-content world
    scan ts scan.wanted i bytes has

pub length-took : (scan : Scanned) (c : Content) (rows : List Row) (i : ℕ) (bytes : List ℕ)
    → length (took_at scan c rows i bytes) ≡ length c
length-took scan [] rows i bytes = refl
length-took scan (s ∷ ss) [] i bytes = refl
length-took scan (s ∷ ss) (row ∷ rows) zero bytes = refl
length-took scan (s ∷ ss) (row ∷ rows) (suc i) bytes = ap suc (length-took scan ss rows i bytes)

-- of no row nothing is there
pub none-content : (world : World) (scan : Scanned) (rows : List Row)
    → replicate (length rows) None ≡ slots_of world scan (replicate (length rows) false) rows
none-content world scan [] = refl
none-content world scan (row ∷ rows) = ap (λ c. None ∷ c) (none-content world scan rows)
