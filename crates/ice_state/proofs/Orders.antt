-- The entries of manifests in the order of their paths.
use Rattle.std.proofs.Common.{◌≡◌, ◌<◌, ℕ, zero, suc, List, [], ◌∷◌, ◌++◌, refl, sym, ap, ◌∙◌, Bool, map, filter}
use Rattle.std.proofs.Common.{length, get_or, arith, take, append_assoc, add-one, ◌+◌}
use Rattle.std.specs.List.{flat_map, range_with_len}
use Rattle.std.specs.List.Sorted.{ties, IsPermutation}
use Rattle.std.specs.Cmp.{IsStrictWeakOrder}
use Rattle.std.proofs.lemmas.List.{get_or-map, length-map}
use Rattle.std.proofs.lemmas.List.Elements.{filter-append}
use Rattle.contract_words.specs.Sorting.{sorted}
use Rattle.contract_words.proofs.Sorted.{sorted_rises, sorted_ties, unique}
use Rattle.ice_manifest_reading.specs.declared.entry.Entry.{Entry}
use Rattle.ice_state_entries.specs.declared.entries.EntryNumber.{EntryNumber}
use Rattle.ice_state_entries.specs.Kept.{Kept, IsKept, AreKept, entry_at as kept_entry, entries_at as kept_at, no_entry}
use Rattle.ice_state.specs.declared.kept.sorting.Placed.{Placed}
use Rattle.ice_state.specs.Apart.{path_at}
use Rattle.ice_state.specs.Contents.{Content}
use Rattle.ice_state.specs.Lines.{entry_at, entries_at, AreWithin}
use Rattle.ice_state.specs.Orders.{IsOrder, runs_in}
use Rattle.ice_state.specs.Outcomes.{by_path, entries_in, kept_in, path_before}
use Rattle.ice_state.specs.Placed.{place_of, entry_placed, entries_placed, ArePlaced}
use Rattle.ice_state.proofs.Sharing.{order}

-- ---- places

-- one entry stands at a place within
one_at : (xs : List Entry) (i : ℕ) → i < length xs → entry_at xs i ≡ get_or xs i no_entry ∷ []
one_at [] i l = absurd (omega arith)
one_at (x ∷ xs) zero l = refl
one_at (x ∷ xs) (suc i) l = one_at xs i (omega arith)

at_places : (xs : List Entry) (ps : List Placed) → ArePlaced xs ps
    → entries_at xs (map place_of ps) ≡ entries_placed xs ps
at_places xs [] all = refl
at_places xs (p ∷ ps) all = rw (one_at xs p.place all.0.0) (ap (λ ys. entry_placed xs p ∷ ys) (at_places xs ps all.1))

within_all : (xs : List Entry) (ps : List Placed) → ArePlaced xs ps → AreWithin (length xs) (map place_of ps)
within_all xs [] all = tt
within_all xs (p ∷ ps) all = (all.0.0, within_all xs ps all.1)

-- the places of sorted paths are the order of their entries
pub is_order : (xs : List Entry) (ps : List Placed) → ArePlaced xs ps
    → IsPermutation (range_with_len 0 (length xs)) (map place_of ps) → entries_placed xs ps ≡ by_path xs
    → IsOrder xs (map place_of ps)
is_order xs ps placed all is =
    record { within = within_all xs ps placed; all = all; sorted = at_places xs ps placed ∙ is }

-- the keys of the entries at places
pub keys_at : {Y : Type 0} (f : Entry → Y) (xs : List Entry) (ps : List ℕ) → AreWithin (length xs) ps
    → map f (entries_at xs ps) ≡ map (λ i. f (get_or xs i no_entry)) ps
keys_at f xs [] within = refl
keys_at f xs (p ∷ ps) within =
    rw (one_at xs p within.0) (ap (λ ys. f (get_or xs p no_entry) ∷ ys) (keys_at f xs ps within.1))

-- ---- numbers at places

of_number : (kept : Kept) (ns : List EntryNumber) (i : ℕ) (d : EntryNumber) → i < length (kept_at kept ns)
    → entry_at (kept_at kept ns) i ≡ kept_entry kept (get_or ns i d) ∷ []
of_number kept [] i d l = absurd (omega arith)
of_number kept (n ∷ ns) zero d l = refl
of_number kept (n ∷ ns) (suc i) d l = of_number kept ns i d (omega arith)

one_more : (kept : Kept) (ns : List EntryNumber) (places : List ℕ) (i : ℕ) (d : EntryNumber) → i < length places
    → AreWithin (length (kept_at kept ns)) places → entries_at (kept_at kept ns) (take (suc i) places)
    ≡ entries_at (kept_at kept ns) (take i places) ++ kept_entry kept (get_or ns (get_or places i 0) d) ∷ []
one_more kept ns [] i d l within = absurd (omega arith)
one_more kept ns (p ∷ ps) zero d l within = rw (of_number kept ns p d within.0) refl
one_more kept ns (p ∷ ps) (suc i) d l within =
    ap (λ xs. entry_at (kept_at kept ns) p ++ xs) (one_more kept ns ps i d (omega arith) within.1)
    ∙ sym (append_assoc (entry_at (kept_at kept ns) p) (entries_at (kept_at kept ns) (take i ps)) _)

-- the entry of one more place, put last
pub put_more : (kept : Kept) (ns : List EntryNumber) (places : List ℕ) (i : ℕ) (d : EntryNumber) (old : List Entry)
    → i < length places → AreWithin (length (kept_at kept ns)) places
    → (old ++ entries_at (kept_at kept ns) (take i places)) ++ kept_entry kept (get_or ns (get_or places i 0) d) ∷ []
    ≡ old ++ entries_at (kept_at kept ns) (take (i + 1) places)
put_more kept ns places i d old l within =
    append_assoc old (entries_at (kept_at kept ns) (take i places)) _
    ∙ ap (λ xs. old ++ xs) (sym (one_more kept ns places i d l within))
    ∙ ap (λ n. old ++ entries_at (kept_at kept ns) (take n places)) (sym (add-one i))

number_kept : (kept : Kept) (ns : List EntryNumber) (i : ℕ) (d : EntryNumber) → AreKept kept ns
    → i < length (kept_at kept ns) → IsKept kept (get_or ns i d)
number_kept kept [] i d all l = absurd (omega arith)
number_kept kept (n ∷ ns) zero d all l = all.0
number_kept kept (n ∷ ns) (suc i) d all l = number_kept kept ns i d all.1 (omega arith)

place_within : (n : ℕ) (places : List ℕ) (i : ℕ) → AreWithin n places → i < length places → get_or places i 0 < n
place_within n [] i all l = absurd (omega arith)
place_within n (p ∷ ps) zero all l = all.0
place_within n (p ∷ ps) (suc i) all l = place_within n ps i all.1 (omega arith)

-- the number at a place
pub number_placed : (kept : Kept) (ns : List EntryNumber) (places : List ℕ) (i : ℕ) (d : EntryNumber)
    → i < length places
    → AreKept kept ns → AreWithin (length (kept_at kept ns)) places → IsKept kept (get_or ns (get_or places i 0) d)
number_placed kept ns places i d l all within =
    number_kept kept ns (get_or places i 0) d all (place_within (length (kept_at kept ns)) places i within l)

-- ---- paths in order

pub many_placed : (xs : List Entry) (places : List ℕ) → IsOrder xs places → length (by_path xs) ≡ length places
many_placed xs places is =
    ap length (sym is.sorted)
    ∙ sym (length-map (entries_at xs places) (λ (x : Entry). x.file.path))
    ∙ ap length (keys_at (λ (x : Entry). x.file.path) xs places is.within)
    ∙ length-map places (λ i. (get_or xs i no_entry).file.path)

-- the path of the number at a place
pub path_placed : (kept : Kept) (ns : List EntryNumber) (places : List ℕ) (k : ℕ) (d : EntryNumber) → k < length places
    → IsOrder (kept_at kept ns) places
    → (kept_entry kept (get_or ns (get_or places k 0) d)).file.path ≡ path_at (by_path (kept_at kept ns)) k
path_placed kept ns places k d l is =
    let xs = kept_at kept ns in
    let path : Entry → List ℕ = λ x. x.file.path in
    let at : ℕ → List ℕ = λ i. path (get_or xs i no_entry) in
    let place = get_or places k 0 in
    let within : place < length ns =
    omega (arith, place_within (length xs) places k is.within l, length-map ns (kept_entry kept)) in
    let many : length (entries_at xs places) ≡ length places = ap length is.sorted ∙ many_placed xs places is in
    ap path (sym (get_or-map (kept_entry kept) ns place d no_entry within))
    ∙ sym (get_or-map at places k 0 (path no_entry) l)
    ∙ ap (λ (ps : List (List ℕ)). get_or ps k (path no_entry)) (sym (keys_at path xs places is.within))
    ∙ get_or-map path (entries_at xs places) k no_entry (path no_entry) (omega (arith, l, many))
    ∙ ap (λ (ys : List Entry). path (get_or ys k no_entry)) is.sorted

-- ---- runs

-- what is sorted piece by piece is sorted alike: those that tie stand as they stood
module _ {X S : Type 0} (lt : X → X → Bool) (o : IsStrictWeakOrder lt) (f : S → List X) where
  abbrev runs : List S → List X
  runs ss = flat_map (λ s. sorted lt (f s)) ss

  runs_tie : (w : X) (ss : List S) → filter (ties lt w) (runs ss) ≡ filter (ties lt w) (flat_map f ss)
  runs_tie w [] = refl
  runs_tie w (s ∷ ss) =
      filter-append (ties lt w) (sorted lt (f s)) (runs ss)
      ∙ ap (λ xs. xs ++ filter (ties lt w) (runs ss)) (sorted_ties lt o w (f s))
      ∙ ap (λ xs. filter (ties lt w) (f s) ++ xs) (runs_tie w ss)
      ∙ sym (filter-append (ties lt w) (f s) (flat_map f ss))

  sorted_runs : (ss : List S) → sorted lt (runs ss) ≡ sorted lt (flat_map f ss)
  sorted_runs ss = unique lt o (sorted lt (runs ss)) (sorted lt (flat_map f ss)) (sorted_rises lt o (runs ss))
      (sorted_rises lt o (flat_map f ss)) (λ w. sorted_ties lt o w (runs ss) ∙ runs_tie w ss
      ∙ sym (sorted_ties lt o w (flat_map f ss)))

-- a sort of the rows' runs is one of their entries
pub by_path_runs : (c : Content) → by_path (runs_in c) ≡ by_path (kept_in c)
by_path_runs c = sorted_runs path_before order entries_in c
