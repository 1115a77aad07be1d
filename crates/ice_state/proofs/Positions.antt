-- Entries put in the order of their paths, by their numbers in the order of their positions.
use Rattle.std.proofs.Common.{◌≡◌, ◌<◌, ◌+◌, ◌++◌, ℕ, zero, suc, [], ◌∷◌, List, add-one, ap, arith, get_or, length, map}
use Rattle.std.proofs.Common.{refl, slice_index, subst, sym, take, ◌∙◌}
use Rattle.std.specs.List.{All, range_with_len}
use Rattle.std.specs.List.Sorted.{IsPermutation}
use Rattle.std.proofs.lemmas.List.{ext_get_or, get_or-map, get_or_default, length-map, map-id}
use Rattle.std.proofs.lemmas.List.FromFn.{get_or-range_with_len, length-range_with_len}
use Rattle.std.proofs.lemmas.List.Sorted.{All-permutation, IsPermutation-sym}
use Rattle.ice_manifest_reading.specs.declared.entry.Entry.{Entry}
use Rattle.ice_state_entries.specs.declared.entries.EntryNumber.{EntryNumber}
use Rattle.ice_state_entries.specs.declared.entries.EntryNumber.TheVariants.{Record}
use Rattle.ice_state_entries.specs.Kept.{Kept, AreKept, IsKept, entries_at, entry_at, no_entry}
use Rattle.ice_state.specs.Lines.{AreWithin, entry_at as entry_at_place, entries_at as entries_at_places}
use Rattle.ice_state.specs.PlaceLists.{AreRanks}
use Rattle.ice_state.proofs.Orders.{keys_at}

one_at : (xs : List Entry) (i : ℕ) → i < length xs → entry_at_place xs i ≡ get_or xs i no_entry ∷ []
one_at [] i l = absurd (omega arith)
one_at (x ∷ xs) zero l = refl
one_at (x ∷ xs) (suc i) l = one_at xs i (omega arith)

more_places : (xs : List Entry) (places : List ℕ) (i : ℕ) → i < length places → AreWithin (length xs) places
    → entries_at_places xs (take i places) ++ get_or xs (get_or places i 0) no_entry ∷ []
    ≡ entries_at_places xs (take (suc i) places)
more_places xs [] i l within = absurd (omega arith)
more_places xs (p ∷ ps) zero l within = rw (one_at xs p within.0) refl
more_places xs (p ∷ ps) (suc i) l within =
    rw (one_at xs p within.0) (ap (λ ys. get_or xs p no_entry ∷ ys) (more_places xs ps i (omega arith) within.1))

-- the entry of one more place, put last
pub entry_more : (xs : List Entry) (places : List ℕ) (i : ℕ) → i < length places → AreWithin (length xs) places
    → entries_at_places xs (take i places) ++ get_or xs (get_or places i 0) no_entry ∷ []
    ≡ entries_at_places xs (take (i + 1) places)
entry_more xs places i l within =
    more_places xs places i l within ∙ ap (λ n. entries_at_places xs (take n places)) (sym (add-one i))

pub place_within : (n : ℕ) (places : List ℕ) (i : ℕ) → AreWithin n places → i < length places → get_or places i 0 < n
place_within n [] i within l = absurd (omega arith)
place_within n (p ∷ ps) zero within l = within.0
place_within n (p ∷ ps) (suc i) within l = place_within n ps i within.1 (omega arith)

pub many_places : (xs : List Entry) (places : List ℕ) → AreWithin (length xs) places
    → length (entries_at_places xs places) ≡ length places
many_places xs places within =
    ap length (sym (map-id (entries_at_places xs places)) ∙ keys_at (λ x. x) xs places within)
    ∙ length-map places (λ i. get_or xs i no_entry)

-- ---- ranks

-- where a place stands in the order, which has it there
record HasRank (order ranks : List ℕ) (k : ℕ) : Type 0 where
  pub low : slice_index ranks k < length order
  pub there : slice_index order (slice_index ranks k) ≡ k

each_ranked : (order ranks : List ℕ) → IsPermutation (range_with_len 0 (length order)) order → AreRanks order ranks
    → (k : ℕ) → k < length order → HasRank order ranks k
each_ranked order ranks all are k low =
    let n = length order in
    let range = range_with_len 0 n in
    let many : length range ≡ n = length-range_with_len 0 n in
    let of_order : All (HasRank order ranks) order = λ j d l.
    let at : get_or order j d ≡ slice_index order j = get_or_default order j d 0 l in
    let back : slice_index ranks (slice_index order j) ≡ j = are.places j l in
    subst (HasRank order ranks) (sym at) (record {
      low = rw back l;
      there = ap (slice_index order) back;
    }) in
    let of_range = All-permutation (HasRank order ranks) order range (IsPermutation-sym range order all) of_order in
    let here : get_or range k 0 ≡ k = get_or-range_with_len 0 n k 0 low ∙ omega arith in
    subst (HasRank order ranks) here (of_range k 0 (omega (arith, low, many)))

-- the numbers of those at these ranks
abbrev pub numbers : List EntryNumber → List ℕ → List EntryNumber
numbers by_path ranks = map (λ r. get_or by_path r (Record 0)) ranks

module _ (by_path : List EntryNumber) (order ranks : List ℕ) (many : length by_path ≡ length order)
    (all : IsPermutation (range_with_len 0 (length order)) order) (are : AreRanks order ranks) where
  pub ranks_below : All (λ r. r < length by_path) ranks
  ranks_below = λ k d l.
      let low : k < length order = omega (arith, l, are.many) in
      let at : get_or ranks k d ≡ slice_index ranks k = get_or_default ranks k d 0 l in
      rw at (omega (arith, (each_ranked order ranks all are k low).low, many))

  -- each number is that of the entry at its position
  pub by_position : (kept : Kept) (xs : List Entry) → length xs ≡ length order → AreWithin (length xs) order
      → entries_at kept by_path ≡ entries_at_places xs order → entries_at kept (numbers by_path ranks) ≡ xs
  by_position kept xs same within is =
      let found = numbers by_path ranks in
      let count : length found ≡ length order = length-map ranks (λ r. get_or by_path r (Record 0)) ∙ are.many in
      ext_get_or no_entry (entries_at kept found) xs
      (length-map found (entry_at kept) ∙ count ∙ sym same) (λ k l.
      let low : k < length order = omega (arith, l, length-map found (entry_at kept), count) in
      let ranked = each_ranked order ranks all are k low in
      let rank = slice_index ranks k in
      get_or-map (entry_at kept) found k (Record 0) no_entry (omega (arith, low, count))
      ∙ ap (entry_at kept) (get_or-map (λ r. get_or by_path r (Record 0)) ranks k 0 (Record 0) (omega (arith, low, are.many)))
      ∙ sym (get_or-map (entry_at kept) by_path rank (Record 0) no_entry (omega (arith, ranked.low, many)))
      ∙ ap (λ (ys : List Entry). get_or ys rank no_entry) (is ∙ sym (map-id (entries_at_places xs order))
      ∙ keys_at (λ x. x) xs order within)
      ∙ get_or-map (λ i. get_or xs i no_entry) order rank 0 no_entry ranked.low
      ∙ ap (λ i. get_or xs i no_entry) ranked.there)

kept_at : (kept : Kept) (ns : List EntryNumber) (r : ℕ) → AreKept kept ns → r < length ns
    → IsKept kept (get_or ns r (Record 0))
kept_at kept [] r each l = absurd (omega arith)
kept_at kept (n ∷ ns) zero each l = each.0
kept_at kept (n ∷ ns) (suc r) each l = kept_at kept ns r each.1 (omega arith)

pub all_kept : (kept : Kept) (ns : List EntryNumber) (ranks : List ℕ) → AreKept kept ns
    → All (λ r. r < length ns) ranks → AreKept kept (numbers ns ranks)
all_kept kept ns [] each below = tt
all_kept kept ns (r ∷ rs) each below =
    (kept_at kept ns r each (below 0 0 (omega arith)), all_kept kept ns rs each (λ k d l. below (suc k) d (omega arith)))
