-- What the index of a state's delete files gives, by where the files stand in the order of their paths.
use Rattle.std.proofs.Common.{◌≡◌, ◌≢◌, ◌<◌, ℕ, zero, suc, List, [], ◌∷◌, ◌++◌, length, map, get_or, replicate, refl}
use Rattle.std.proofs.Common.{sym, ap}
use Rattle.std.proofs.Common.{subst, ◌∙◌, arith, append_assoc, take}
use Rattle.std.specs.List.{All, AllPairs, range_with_len}
use Rattle.std.specs.List.Sorted.{IsPermutation}
use Rattle.std.proofs.lemmas.List.{get_or-map, length-map}
use Rattle.ice_value.specs.Applying.{DeleteKey}
use Rattle.ice_deletes.specs.Found.{numbered_deletes}
use Rattle.ice_deletes.specs.Unions.{renumbered, AreBelow}
use Rattle.ice_manifest_reading.specs.declared.entry.Entry.{Entry}
use Rattle.ice_state_entries.specs.Kept.{no_entry}
use Rattle.ice_state.specs.declared.kept.indexed.IndexedDeletes.{IndexedDeletes}
use Rattle.ice_state.specs.declared.kept.segments.FileNumber.{FileNumber}
use Rattle.ice_state.specs.Applying.{data_key_of, delete_key_of}
use Rattle.ice_state.specs.KeptDeletes.{IsIndexOf}
use Rattle.ice_state.specs.Lines.{AreWithin, entry_at as entry_at_place, entries_at as entries_at_places}
use Rattle.ice_state.specs.Orders.{IsOrder}
use Rattle.ice_state.specs.Outcomes.{by_path}
use Rattle.ice_state.specs.Parts.{places_of}
use Rattle.ice_state.specs.PlaceLists.{AreRanks, no_places}
use Rattle.ice_state.specs.Segments.{Segmented, entry_at, entries_at}
use Rattle.ice_state.proofs.Orders.{keys_at}
use Rattle.ice_state.proofs.RankedIndex.{order_many, order_below, order_once, index_ranked, index_by_ranks}

-- no delete file applies where there is none
pub none_apply : (xs : List Entry) → map (λ x. places_of [] (data_key_of x)) xs ≡ replicate (length xs) no_places
none_apply [] = refl
none_apply (x ∷ xs) = ap (λ ls. no_places ∷ ls) (none_apply xs)

-- ---- files at places

pub of_file : (kept : Segmented) (ns : List FileNumber) (i : ℕ) (d : FileNumber) → i < length ns
    → entry_at_place (entries_at kept ns) i ≡ entry_at kept (get_or ns i d) ∷ []
of_file kept [] i d l = absurd (omega arith)
of_file kept (n ∷ ns) zero d l = refl
of_file kept (n ∷ ns) (suc i) d l = of_file kept ns i d (omega arith)

-- the file of one more place, put last
pub file_more : (kept : Segmented) (ns : List FileNumber) (places : List ℕ) (i : ℕ) (d : FileNumber) → i < length places
    → AreWithin (length ns) places → entries_at_places (entries_at kept ns) (take (suc i) places)
    ≡ entries_at_places (entries_at kept ns) (take i places) ++ entry_at kept (get_or ns (get_or places i 0) d) ∷ []
file_more kept ns [] i d l within = absurd (omega arith)
file_more kept ns (p ∷ ps) zero d l within = rw (of_file kept ns p d within.0) refl
file_more kept ns (p ∷ ps) (suc i) d l within =
    ap (λ xs. entry_at_place (entries_at kept ns) p ++ xs) (file_more kept ns ps i d (omega arith) within.1)
    ∙ sym (append_assoc (entry_at_place (entries_at kept ns) p) (entries_at_places (entries_at kept ns) (take i ps)) _)

module _ (kept : Segmented) (deletes : IndexedDeletes) (xs : List Entry) (is : IsIndexOf kept xs deletes)
    (order : List ℕ)
    (ordered : IsOrder (entries_at kept deletes.files.items) order) where
  abbrev files : List Entry
  files = entries_at kept deletes.files.items

  abbrev keys : List DeleteKey
  keys = map delete_key_of files

  abbrev key : ℕ → DeleteKey
  key i = delete_key_of (get_or files i no_entry)

  all_places : IsPermutation (range_with_len 0 (length keys)) order
  all_places = subst (λ (n : ℕ). IsPermutation (range_with_len 0 n) order) (sym (length-map files delete_key_of))
      ordered.all

  pub places_below : All (λ n. n < length order) order
  places_below = subst (λ (m : ℕ). All (λ n. n < m) order) (sym (order_many (length keys) order all_places))
      (order_below (length keys) order all_places)

  pub places_once : AllPairs (λ m n. m ≢ n) order
  places_once = order_once (length keys) order all_places

  keyed : (k : ℕ) (d : DeleteKey) → k < length keys → get_or keys k d ≡ key k
  keyed k d low = get_or-map delete_key_of files k no_entry d (let many = length-map files delete_key_of in omega arith)

  module _ (ranks : List ℕ) (ranked : AreRanks order ranks) where
    pub below_ranks : AreBelow (length ranks) deletes.index
    below_ranks = index_ranked key keys deletes.index order ranks keyed is.index all_places ranked.many ranked.places

    pub index_in_order : IsPermutation (numbered_deletes (map delete_key_of (by_path files)))
        (renumbered ranks deletes.index)
    index_in_order =
        let same : map key order ≡ map delete_key_of (by_path files) =
        sym (keys_at delete_key_of files order ordered.within) ∙ ap (map delete_key_of) ordered.sorted in
        subst (λ (ks : List DeleteKey). IsPermutation (numbered_deletes ks) (renumbered ranks deletes.index)) same
        (index_by_ranks key keys deletes.index order ranks keyed is.index all_places ranked.many ranked.places)
