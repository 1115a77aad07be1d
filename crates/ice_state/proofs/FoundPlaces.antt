-- Files that are found among files with the same entries, of which no two share a path, stand at all places there.
use Rattle.std.proofs.Common.{◌≡◌, ◌<◌, ◌≤◌, ◌+◌, ◌∙◌, ◌++◌, ◌&&◌, ℕ, zero, suc, Bool, true, false, List, [], ◌∷◌, refl}
use Rattle.std.proofs.Common.{sym, ap}
use Rattle.std.proofs.Common.{add-one, add-zero, arith, cond, filter, get_or, length, map, subst, take}
use Rattle.std.specs.List.{range_with_len}
use Rattle.std.specs.List.Sorted.{IsPermutation}
use Rattle.std.specs.Str.{bytes_eq}
use Rattle.std.proofs.lemmas.Grind.{flat_map-append}
use Rattle.std.proofs.lemmas.List.Sorted.{IsPermutation-map}
use Rattle.std.proofs.lemmas.Slice.Eq.{bytes_eq-Decides}
use Rattle.contract_words.proofs.Sorted.{Rises, sorted_rises}
use Rattle.ice_manifest_reading.specs.declared.entry.Entry.{Entry}
use Rattle.ice_state_entries.specs.Kept.{no_entry}
use Rattle.ice_deletes.proofs.Lists.{filter-filter}
use Rattle.ice_state.specs.declared.kept.segments.FileNumber.{FileNumber}
use Rattle.ice_state.specs.Lines.{AreWithin, entry_at as entry_at_place, entries_at as entries_at_places}
use Rattle.ice_state.specs.Orders.{IsOrder}
use Rattle.ice_state.specs.Outcomes.{by_path, path_before, twice}
use Rattle.ice_state.specs.Parts.{holds_deletes}
use Rattle.ice_state.specs.Segments.{Segmented, entry_at, entries_at}
use Rattle.ice_state.specs.Shares.{count_at}
use Rattle.ice_state.proofs.Filters.{and_true}
use Rattle.ice_state.proofs.Orders.{keys_at}
use Rattle.ice_state.proofs.PathsOnce.{by_path_moves}
use Rattle.ice_state.proofs.RankedLines.{of_file}
use Rattle.ice_state.proofs.Sharing.{count_more, count-by_path, none_shared, order}
use Rattle.ice_state.proofs.SortedAlike.{fewer}

-- ---- the place of a path

abbrev place_in : List Entry → List ℕ → ℕ
place_in [] p = 0
place_in (x ∷ xs) p = cond (bytes_eq x.file.path p) 0 (suc (place_in xs p))

abbrev at : List Entry → ℕ → Entry
at xs k = get_or xs k no_entry

same_path : (p : List ℕ) → bytes_eq p p ≡ true
same_path p = (bytes_eq-Decides p p).1 refl

counted : (xs : List Entry) (k : ℕ) → k < length xs → 0 < count_at xs (at xs k).file.path
counted [] k l = absurd (omega arith)
counted (x ∷ xs) zero l = rw (same_path x.file.path) (omega arith)
counted (x ∷ xs) (suc k) l =
    let p = (at xs k).file.path in
    let more = count_more x xs p in
    let rest = counted xs k (omega arith) in
    omega (arith, more, rest)

place_back : (xs : List Entry) → ((p : List ℕ) → count_at xs p ≤ 1) → (k : ℕ) → k < length xs
    → place_in xs (at xs k).file.path ≡ k
place_back [] few k l = absurd (omega arith)
place_back (x ∷ xs) few zero l = rw (same_path x.file.path) refl
place_back (x ∷ xs) few (suc k) l =
    let p = (at xs k).file.path in
    let there = counted xs k (omega arith) in
    let P : (b : Bool) → bytes_eq x.file.path p ≡ b
    → length (cond b (x ∷ filter (λ (w : Entry). bytes_eq w.file.path p) xs)
    (filter (λ (w : Entry). bytes_eq w.file.path p) xs)) ≤ 1
    → cond b 0 (suc (place_in xs p)) ≡ suc k =
    λ b. elim b as (λ v. bytes_eq x.file.path p ≡ v
    → length (cond v (x ∷ filter (λ (w : Entry). bytes_eq w.file.path p) xs)
    (filter (λ (w : Entry). bytes_eq w.file.path p) xs)) ≤ 1
    → cond v 0 (suc (place_in xs p)) ≡ suc k) [
      | true ↦ λ h most. absurd (omega (arith, most, there))
      | false ↦ λ h most. ap suc
          (place_back xs (λ q. let more = count_more x xs q in let all = few q in omega (arith, more, all))
          k (omega arith))
    ] in
    P (bytes_eq x.file.path p) refl (few p)

places_up : (place : Entry → ℕ) (xs : List Entry) (m : ℕ) → ((k : ℕ) → k < length xs → place (at xs k) ≡ m + k)
    → map place xs ≡ range_with_len m (length xs)
places_up place [] m h = refl
places_up place (x ∷ xs) m h =
    let first : place x ≡ m = h 0 (omega arith) ∙ add-zero m in
    let step : (i : ℕ) → m + suc i ≡ m + 1 + i = λ i. omega arith in
    let rest = places_up place xs (m + 1) (λ k l. h (suc k) (omega arith) ∙ step k) in
    λ i. first i ∷ rest i

places_same : (place : Entry → ℕ) (xs : List Entry) (ps : List ℕ) → AreWithin (length xs) ps
    → ((k : ℕ) → k < length xs → place (at xs k) ≡ k) → map (λ k. place (at xs k)) ps ≡ ps
places_same place xs [] all h = refl
places_same place xs (p ∷ ps) all h =
    let rest = places_same place xs ps all.1 h in
    λ i. h p all.0 i ∷ rest i

pub order_found : (xs : List Entry) (ps : List ℕ) → ((p : List ℕ) → count_at xs p ≤ 1) → AreWithin (length xs) ps
    → entries_at_places xs ps ≡ by_path xs → IsOrder xs ps
order_found xs ps few within are =
    let place : Entry → ℕ = λ x. place_in xs x.file.path in
    let back = place_back xs few in
    let z : (k : ℕ) → k ≡ 0 + k = λ k. omega arith in
    let range = places_up place xs 0 (λ k l. back k l ∙ z k) in
    let here : map place (by_path xs) ≡ ps = ap (map place) (sym are) ∙ keys_at place xs ps within
    ∙ places_same place xs ps within back in
    record {
      within = within;
      all = subst (λ (ns : List ℕ). IsPermutation ns ps) range
          (subst (λ (ns : List ℕ). IsPermutation (map place xs) ns) here
          (IsPermutation-map place xs (by_path xs) (by_path_moves xs)));
      sorted = are;
    }

-- ---- one more is found

pub found_more : (kept : Segmented) (ns : List FileNumber) (old new : List ℕ) (some : List FileNumber) (i place : ℕ)
    (d : FileNumber) → i < length some → place < length ns → get_or ns place d ≡ get_or some i d
    → new ≡ old ++ place ∷ []
    → entries_at_places (entries_at kept ns) old ≡ entries_at kept (take i some)
    → entries_at_places (entries_at kept ns) new ≡ entries_at kept (take (i + 1) some)
found_more kept ns old new some i place d l within there pushed before =
    ap (entries_at_places (entries_at kept ns)) pushed
    ∙ flat_map-append (entry_at_place (entries_at kept ns)) old (place ∷ [])
    ∙ (λ k. before k ++ one k)
    ∙ sym (one_more some i l)
    ∙ ap (λ n. entries_at kept (take n some)) (sym (add-one i))
  where
    one : entries_at_places (entries_at kept ns) (place ∷ []) ≡ entry_at kept (get_or some i d) ∷ []
    one = rw (of_file kept ns place d within) (ap (λ n. entry_at kept n ∷ []) there)

    one_more : (ms : List FileNumber) (j : ℕ) → j < length ms
        → entries_at kept (take (suc j) ms) ≡ entries_at kept (take j ms) ++ entry_at kept (get_or ms j d) ∷ []
    one_more [] j h = absurd (omega arith)
    one_more (m ∷ ms) zero h = refl
    one_more (m ∷ ms) (suc j) h = ap (λ xs. entry_at kept m ∷ xs) (one_more ms j (omega arith))

-- ---- delete files share no path

pub few_deletes : (all files : List Entry) → by_path all ≡ all → twice all ≡ []
    → by_path files ≡ filter holds_deletes all → (p : List ℕ) → count_at files p ≤ 1
few_deletes all files sorted once are p =
    let rises = subst (λ (xs : List Entry). Rises path_before order xs) sorted (sorted_rises path_before order all) in
    let most = none_shared all p rises once in
    let less = fewer (λ (x : Entry). holds_deletes x && bytes_eq x.file.path p) (λ x. bytes_eq x.file.path p)
    (λ x h. (and_true (holds_deletes x) (bytes_eq x.file.path p) h).1) all in
    let here : count_at (filter holds_deletes all) p ≤ 1 =
    rw (filter-filter holds_deletes (λ (x : Entry). bytes_eq x.file.path p) all) (omega (arith, less, most)) in
    subst (λ (n : ℕ). n ≤ 1) (count-by_path files p) (subst (λ (xs : List Entry). count_at xs p ≤ 1) (sym are) here)

pub within_more : (n : ℕ) (old new : List ℕ) (place : ℕ) → new ≡ old ++ place ∷ [] → place < n → AreWithin n old
    → AreWithin n new
within_more n old new place pushed low all = subst (AreWithin n) (sym pushed) (both old all)
  where
    both : (ps : List ℕ) → AreWithin n ps → AreWithin n (ps ++ place ∷ [])
    both [] all = (low, tt)
    both (p ∷ ps) all = (all.0, both ps all.1)
