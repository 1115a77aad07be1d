-- The entries of a content, gathered row by row, where the rows come in whatever order.
use Rattle.std.proofs.Common.{◌≡◌, ◌<◌, ◌+◌, ◌∙◌, ◌++◌, ℕ, zero, suc, List, [], ◌∷◌, None, Option, IfSome, refl, sym}
use Rattle.std.proofs.Common.{ap, subst}
use Rattle.std.proofs.Common.{add-one, add-zero, append_assoc, arith, get_or, length, take}
use Rattle.std.specs.List.{flat_map, range_with_len}
use Rattle.std.specs.List.Sorted.{IsPermutation}
use Rattle.std.proofs.lemmas.List.{append-nil}
use Rattle.std.proofs.lemmas.List.Sorted.{IsPermutation-sym, IsPermutation-trans}
use Rattle.ice_manifest_reading.specs.declared.entry.Entry.{Entry}
use Rattle.ice_state.specs.Contents.{Content}
use Rattle.ice_state.specs.Orders.{run_at, runs_in}
use Rattle.ice_state.specs.Outcomes.{by_path, entries_in, kept_in}
use Rattle.ice_state.specs.Readings.{Reading}
use Rattle.ice_state.specs.declared.kept.taken.Taken.{Taken}
use Rattle.ice_state.specs.Segments.{Segmented}
use Rattle.ice_state.specs.Slots.{HasNumbers, HaveNumbers}
use Rattle.ice_state.proofs.Orders.{by_path_runs}
use Rattle.ice_state.proofs.PathsOnce.{by_path_moves}
use Rattle.ice_state.proofs.Permuted.{pieces_moved}

-- pieces, by what stands at their places
in_order : (piece : ℕ → List Entry) (f : Option Reading → List Entry) (c : Content) (m : ℕ)
    → ((k : ℕ) → k < length c → piece (m + k) ≡ f (get_or c k None))
    → flat_map piece (range_with_len m (length c)) ≡ flat_map f c
in_order piece f [] m h = refl
in_order piece f (s ∷ c) m h =
    let first : piece m ≡ f s = ap piece (sym (add-zero m)) ∙ h 0 (omega arith) in
    let step : (i : ℕ) → m + 1 + i ≡ m + suc i = λ i. omega arith in
    let rest = in_order piece f c (m + 1) (λ k l. ap piece (step k) ∙ h (suc k) (omega arith)) in
    λ i. first i ++ rest i

pub rows_moved : (c : Content) (rows : List ℕ) → IsPermutation (range_with_len 0 (length c)) rows
    → IsPermutation (kept_in c) (flat_map (run_at c) rows)
rows_moved c rows all =
    let z : (k : ℕ) → 0 + k ≡ k = λ k. omega arith in
    let kept = kept_in c in
    let runs = runs_in c in
    let moved = flat_map (run_at c) rows in
    let are = in_order (run_at c) (λ s. by_path (entries_in s)) c 0 (λ k l. ap (run_at c) (z k)) in
    let here : IsPermutation runs moved = subst (λ (xs : List Entry). IsPermutation xs moved) are
    (pieces_moved (run_at c) (range_with_len 0 (length c)) rows all) in
    let back : IsPermutation (by_path kept) runs = subst (λ (xs : List Entry). IsPermutation xs runs) (by_path_runs c)
    (IsPermutation-sym runs (by_path runs) (by_path_moves runs)) in
    IsPermutation-trans kept (by_path kept) moved (by_path_moves kept)
    (IsPermutation-trans (by_path kept) runs moved back here)

-- one row more
one_more : (f : ℕ → List Entry) (rows : List ℕ) (i d : ℕ) → i < length rows
    → flat_map f (take (suc i) rows) ≡ flat_map f (take i rows) ++ f (get_or rows i d)
one_more f [] i d l = absurd (omega arith)
one_more f (r ∷ rs) zero d l = append-nil (f r)
one_more f (r ∷ rs) (suc i) d l = ap (λ xs. f r ++ xs) (one_more f rs i d (omega arith))
    ∙ sym (append_assoc (f r) (flat_map f (take i rs)) (f (get_or rs i d)))

pub row_more : (c : Content) (rows : List ℕ) (i d : ℕ) (old new run : List Entry) → i < length rows
    → new ≡ old ++ run → run ≡ run_at c (get_or rows i d) → old ≡ flat_map (run_at c) (take i rows)
    → new ≡ flat_map (run_at c) (take (i + 1) rows)
row_more c rows i d old new run l is at before =
    is ∙ (λ k. before k ++ at k) ∙ sym (one_more (run_at c) rows i d l)
    ∙ ap (λ n. flat_map (run_at c) (take n rows)) (sym (add-one i))

pub at_row : (c : Content) (i : ℕ) (s : Option Reading) → i < length c → s ≡ get_or c i s → s ≡ get_or c i None
at_row [] i s l h = absurd (omega arith)
at_row (t ∷ c) zero s l h = h
at_row (t ∷ c) (suc i) s l h = at_row c i s (omega arith) h

-- the numbers of one slot
pub slot_numbers : (kept : Segmented) (ss : List (Option Taken)) (i : ℕ) (s : Option Taken) → s ≡ get_or ss i s
    → i < length ss → HaveNumbers kept ss → IfSome s (HasNumbers kept)
slot_numbers kept [] i s h l all = absurd (omega arith)
slot_numbers kept (t ∷ ss) zero s h l all = subst (λ (r : Option Taken). IfSome r (HasNumbers kept)) (sym h) all.0
slot_numbers kept (t ∷ ss) (suc i) s h l all = slot_numbers kept ss i s h (omega arith) all.1
