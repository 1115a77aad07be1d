-- The delete files that a state keeps, and their index, as rows come.
use Rattle.std.proofs.Common.{◌≡◌, ◌<◌, ℕ, zero, suc, false, List, [], ◌∷◌, ◌++◌, length, map, filter, refl, sym}
use Rattle.std.proofs.Common.{ap, subst, ◌∙◌, arith, append_assoc, replicate, get_or, slice_set, Option, Some, None}
use Rattle.std.proofs.Common.{IfSome}
use Rattle.std.proofs.Common.{◌≤◌, ◌+◌, Result, Ok, Err, IfOk}
use Rattle.std.specs.Result.{result_ok}
use Rattle.std.specs.List.{range_with_len}
use Rattle.std.specs.List.Sorted.{IsPermutation}
use Rattle.std.proofs.lemmas.List.{map-append, append-nil}
use Rattle.std.proofs.lemmas.List.Elements.{filter-append}
use Rattle.std.proofs.lemmas.List.Sorted.{IsPermutation-refl, IsPermutation-trans, IsPermutation-sym}
use Rattle.std.proofs.lemmas.List.Sorted.{length_permutation}
use Rattle.std.proofs.lemmas.List.Sorted.{IsPermutation-append, IsPermutation-append_left, IsPermutation-append_right}
use Rattle.std.proofs.lemmas.List.Sorted.{IsPermutation-append_comm}
use Rattle.ice_value.specs.Applying.{DeleteKey}
use Rattle.ice_deletes.specs.Found.{numbered_deletes}
use Rattle.ice_deletes.specs.Unions.{renumbered, IsUnion}
use Rattle.ice_manifest_reading.specs.declared.entry.Entry.{Entry}
use Rattle.ice_state.specs.declared.kept.deletes.KeptDeletes.{KeptDeletes}
use Rattle.ice_state.specs.declared.kept.indexed.IndexedDeletes.{IndexedDeletes}
use Rattle.ice_state.specs.declared.kept.segments.FileNumber.{FileNumber}
use Rattle.ice_state.specs.declared.kept.taken.Taken.{Taken}
use Rattle.ice_state.specs.Applying.{delete_key_of}
use Rattle.ice_state.specs.Contents.{Content, is_row_taken, with_row}
use Rattle.ice_state.specs.Joins.{join}
use Rattle.ice_state.specs.KeptDeletes.{AreDeletes, AreDeletesOf, HasPlaces, IsIndexOf, IsState}
use Rattle.ice_state.specs.Outcomes.{entries_in, kept_in}
use Rattle.ice_state.specs.Parts.{gains, AreApart, holds_deletes}
use Rattle.ice_state.specs.Readings.{Reading}
use Rattle.ice_state.specs.Segments.{Segmented, entry_at, AreKept, IsKept, entries_at, Keeps, StandsBehind}
use Rattle.ice_state.specs.Slots.{contents}
use Rattle.ice_state.proofs.JoinedIndexes.{indexed_below, index_of_both}
use Rattle.ice_state.proofs.Permuted.{fronts, filter_moved}
use Rattle.ice_state.proofs.SlotContents.{contents-kept, have-kept}

-- ---- entries of a content

-- nothing is kept of rows that weren't taken
pub none_kept : (n : ℕ) → kept_in (replicate n None) ≡ []
none_kept zero = refl
none_kept (suc n) = none_kept n

-- what a further row gives
pub entries_with_row : (c : Content) (i : ℕ) (r : Reading) → i < length c → is_row_taken c i ≡ false
    → IsPermutation (kept_in c ++ entries_in (Some r)) (kept_in (with_row c i r))
entries_with_row [] i r low free = absurd (omega arith)
entries_with_row (None ∷ ss) zero r low free = IsPermutation-append_comm (kept_in ss) (entries_in (Some r))
entries_with_row (Some q ∷ ss) zero r low free = cc
entries_with_row (s ∷ ss) (suc i) r low free =
    let P : List Entry → Type 0 = λ xs. IsPermutation xs (entries_in s ++ kept_in (with_row ss i r)) in
    subst P (sym (append_assoc (entries_in s) (kept_in ss) (entries_in (Some r))))
    (IsPermutation-append_right (entries_in s) (kept_in ss ++ entries_in (Some r)) (kept_in (with_row ss i r))
    (entries_with_row ss i r (omega arith) free))

-- what the rows of another content give that aren't taken here
more_gained : (d : Option Reading) (cs ds : Content)
    → IsPermutation (kept_in cs ++ kept_in (gains cs ds)) (kept_in (join cs ds))
    → IsPermutation (kept_in cs ++ (entries_in d ++ kept_in (gains cs ds))) (entries_in d ++ kept_in (join cs ds))
more_gained d cs ds rest =
    IsPermutation-trans (kept_in cs ++ (entries_in d ++ kept_in (gains cs ds)))
    (entries_in d ++ (kept_in cs ++ kept_in (gains cs ds))) (entries_in d ++ kept_in (join cs ds))
    (fronts (kept_in cs) (entries_in d) (kept_in (gains cs ds)))
    (IsPermutation-append_right (entries_in d) (kept_in cs ++ kept_in (gains cs ds)) (kept_in (join cs ds)) rest)

pub entries_joined : (cs ds : Content) → length cs ≡ length ds
    → IsPermutation (kept_in cs ++ kept_in (gains cs ds)) (kept_in (join cs ds))
entries_joined [] [] same = IsPermutation-refl []
entries_joined [] (d ∷ ds) same = absurd (omega arith)
entries_joined (c ∷ cs) [] same = absurd (omega arith)
entries_joined (Some r ∷ cs) (d ∷ ds) same =
    let P : List Entry → Type 0 = λ xs. IsPermutation xs (entries_in (Some r) ++ kept_in (join cs ds)) in
    subst P (sym (append_assoc (entries_in (Some r)) (kept_in cs) (kept_in (gains cs ds))))
    (IsPermutation-append_right (entries_in (Some r)) (kept_in cs ++ kept_in (gains cs ds)) (kept_in (join cs ds))
    (entries_joined cs ds (omega arith)))
entries_joined (None ∷ cs) (Some r ∷ ds) same = more_gained (Some r) cs ds (entries_joined cs ds (omega arith))
entries_joined (None ∷ cs) (None ∷ ds) same = entries_joined cs ds (omega arith)

-- where no row is taken in both, all is gained
pub gains_apart : (cs ds : Content) → length cs ≡ length ds → AreApart cs ds → kept_in (gains cs ds) ≡ kept_in ds
gains_apart [] [] same apart = refl
gains_apart [] (d ∷ ds) same apart = absurd (omega arith)
gains_apart (c ∷ cs) [] same apart = absurd (omega arith)
gains_apart (Some r ∷ cs) (None ∷ ds) same apart = gains_apart cs ds (omega arith) apart.1
gains_apart (Some r ∷ cs) (Some q ∷ ds) same apart = absurd apart.0
gains_apart (None ∷ cs) (None ∷ ds) same apart = gains_apart cs ds (omega arith) apart.1
gains_apart (None ∷ cs) (Some q ∷ ds) same apart =
    ap (λ xs. entries_in (Some q) ++ xs) (gains_apart cs ds (omega arith) apart.1)

-- ---- files that stay

module _ (old new : Segmented) (keeps : Keeps old new) where
  pub files_kept : (ns : List FileNumber) → AreKept old ns → AreKept new ns
  files_kept [] all = tt
  files_kept (n ∷ ns) all =
      let there = keeps n.segment all.0.0 in
      ((there.0, (there.1 n.number all.0.1).0), files_kept ns all.1)

  pub entries_same : (ns : List FileNumber) → AreKept old ns → entries_at new ns ≡ entries_at old ns
  entries_same [] all = refl
  entries_same (n ∷ ns) all =
      ap (λ (x : Entry). x ∷ entries_at new ns) ((keeps n.segment all.0.0).1 n.number all.0.1).1
      ∙ ap (λ (xs : List Entry). entry_at old n ∷ xs) (entries_same ns all.1)

pub files_both : (kept : Segmented) (ns ms : List FileNumber) → AreKept kept ns → AreKept kept ms
    → AreKept kept (ns ++ ms)
files_both kept [] ms first rest = rest
files_both kept (n ∷ ns) ms first rest = (first.0, files_both kept ns ms first.1 rest)

-- ---- the index of the delete files among entries

pub no_more : {X : Type 0} (xs : List X) → IsPermutation xs [] → xs ≡ []
no_more [] same = refl
no_more (x ∷ xs) same = let many = length_permutation (x ∷ xs) [] same in absurd (omega arith)

-- files of the same entries, and the same index
pub index_alike : (old new : Segmented) (xs : List Entry) (d e : IndexedDeletes) → AreKept new e.files.items
    → entries_at new e.files.items ≡ entries_at old d.files.items → e.index ≡ d.index → IsIndexOf old xs d
    → IsIndexOf new xs e
index_alike old new xs d e kept same index is = record {
  files = kept;
  all = subst (λ (es : List Entry). IsPermutation (filter holds_deletes xs) es) (sym same) is.all;
  index =
      subst (λ (es : List Entry). IsPermutation (numbered_deletes (map delete_key_of es)) e.index) (sym same)
      (subst (λ (all : List (ℕ × DeleteKey)). IsPermutation
      (numbered_deletes (map delete_key_of (entries_at old d.files.items))) all) (sym index) is.index);
}

pub index_kept : (old new : Segmented) (xs : List Entry) (d : IndexedDeletes) → Keeps old new → IsIndexOf old xs d
    → IsIndexOf new xs d
index_kept old new xs d keeps is = index_alike old new xs d d (files_kept old new keeps d.files.items is.files)
    (entries_same old new keeps d.files.items is.files) refl is

pub index_moved : (kept : Segmented) (xs ys : List Entry) (d : IndexedDeletes) → IsPermutation xs ys
    → IsIndexOf kept xs d → IsIndexOf kept ys d
index_moved kept xs ys d same is = record {
  files = is.files;
  all = IsPermutation-trans (filter holds_deletes ys) (filter holds_deletes xs) (entries_at kept d.files.items)
      (IsPermutation-sym (filter holds_deletes xs) (filter holds_deletes ys) (filter_moved holds_deletes xs ys same))
      is.all;
  index = is.index;
}

pub many_keys : (kept : Segmented) (ns : List FileNumber)
    → length (map delete_key_of (entries_at kept ns)) ≡ length ns
many_keys kept [] = refl
many_keys kept (n ∷ ns) = ap suc (many_keys kept ns)

pub has_places : (kept : Segmented) (xs : List Entry) (d : IndexedDeletes) → IsIndexOf kept xs d → HasPlaces d
has_places kept xs d is =
    let many = many_keys kept d.files.items in
    indexed_below (map delete_key_of (entries_at kept d.files.items)) d.index (length d.files.items) (omega arith)
    is.index

module _ (kept : Segmented) (xs ys : List Entry) (d e : IndexedDeletes) (first : IsIndexOf kept xs d)
    (rest : IsIndexOf kept ys e) where
  -- no delete files are added
  pub index_of_first : e.files.items ≡ [] → IsIndexOf kept (xs ++ ys) d
  index_of_first none =
      let P : List FileNumber → Type 0 = λ ns. IsPermutation (filter holds_deletes ys) (entries_at kept ns) in
      let more : filter holds_deletes ys ≡ [] = no_more (filter holds_deletes ys) (subst P none rest.all) in
      let all : filter holds_deletes (xs ++ ys) ≡ filter holds_deletes xs =
      filter-append holds_deletes xs ys ∙ ap (λ zs. filter holds_deletes xs ++ zs) more
      ∙ append-nil (filter holds_deletes xs) in
      record {
        files = first.files;
        all = subst (λ (zs : List Entry). IsPermutation zs (entries_at kept d.files.items)) (sym all) first.all;
        index = first.index;
      }

  -- they are all that there are
  pub index_of_rest : d.files.items ≡ [] → IsIndexOf kept (xs ++ ys) e
  index_of_rest none =
      let P : List FileNumber → Type 0 = λ ns. IsPermutation (filter holds_deletes xs) (entries_at kept ns) in
      let before : filter holds_deletes xs ≡ [] = no_more (filter holds_deletes xs) (subst P none first.all) in
      let all : filter holds_deletes (xs ++ ys) ≡ filter holds_deletes ys =
      filter-append holds_deletes xs ys ∙ ap (λ zs. zs ++ filter holds_deletes ys) before in
      record {
        files = rest.files;
        all = subst (λ (zs : List Entry). IsPermutation zs (entries_at kept e.files.items)) (sym all) rest.all;
        index = rest.index;
      }

  pub index_with : (both : IndexedDeletes) (to : List ℕ)
      → to ≡ range_with_len (length d.files.items) (length e.files.items)
      → both.files.items ≡ d.files.items ++ e.files.items → IsUnion d.index (renumbered to e.index) both.index
      → IsIndexOf kept (xs ++ ys) both
  index_with both to are files union =
      let ks = map delete_key_of (entries_at kept d.files.items) in
      let ls = map delete_key_of (entries_at kept e.files.items) in
      let entries : entries_at kept both.files.items ≡ entries_at kept d.files.items ++ entries_at kept e.files.items =
      ap (entries_at kept) files ∙ map-append (entry_at kept) d.files.items e.files.items in
      let keys : map delete_key_of (entries_at kept both.files.items) ≡ ks ++ ls =
      ap (map delete_key_of) entries
      ∙ map-append delete_key_of (entries_at kept d.files.items) (entries_at kept e.files.items) in
      let range : to ≡ range_with_len (length ks) (length ls) =
      are ∙ ap (λ m. range_with_len m (length e.files.items)) (sym (many_keys kept d.files.items))
      ∙ ap (range_with_len (length ks)) (sym (many_keys kept e.files.items)) in
      let P : List Entry → List Entry → Type 0 = λ us vs. IsPermutation us vs in
      record {
        files = subst (AreKept kept) (sym files) (files_both kept d.files.items e.files.items first.files rest.files);
        all =
            subst (λ (us : List Entry). P us (entries_at kept both.files.items))
            (sym (filter-append holds_deletes xs ys))
            (subst (P (filter holds_deletes xs ++ filter holds_deletes ys)) (sym entries)
            (IsPermutation-append (filter holds_deletes xs) (entries_at kept d.files.items) (filter holds_deletes ys)
            (entries_at kept e.files.items) first.all rest.all));
        index =
            subst (λ (all : List DeleteKey). IsPermutation (numbered_deletes all) both.index) (sym keys)
            (index_of_both ks ls d.index e.index both.index to first.index rest.index range union);
      }

-- ---- delete files of which some wait

pub deletes_kept : (old new : Segmented) (xs : List Entry) (d : KeptDeletes) → Keeps old new → AreDeletesOf old xs d
    → AreDeletesOf new xs d
deletes_kept old new xs d keeps are = record {
  first = are.first;
  others = are.others;
  parts = are.parts;
  index = index_kept old new are.first d.indexed keeps are.index;
  files = files_kept old new keeps d.waiting.items are.files;
  waiting = subst (λ (es : List Entry). IsPermutation (filter holds_deletes are.others) es)
      (sym (entries_same old new keeps d.waiting.items are.files)) are.waiting;
}

pub deletes_moved : (kept : Segmented) (xs ys : List Entry) (d : KeptDeletes) → IsPermutation xs ys
    → AreDeletesOf kept xs d → AreDeletesOf kept ys d
deletes_moved kept xs ys d same are = record {
  first = are.first;
  others = are.others;
  parts = IsPermutation-trans (are.first ++ are.others) xs ys are.parts same;
  index = are.index;
  files = are.files;
  waiting = are.waiting;
}

module _ (kept : Segmented) (xs : List Entry) (d : KeptDeletes) where
  -- none waits
  pub deletes_of_index : d.waiting.items ≡ [] → IsIndexOf kept xs d.indexed → AreDeletesOf kept xs d
  deletes_of_index none is = record {
    first = xs;
    others = [];
    parts = subst (λ (ys : List Entry). IsPermutation ys xs) (sym (append-nil xs)) (IsPermutation-refl xs);
    index = is;
    files = subst (AreKept kept) (sym none) tt;
    waiting = subst (λ (ns : List FileNumber). IsPermutation [] (entries_at kept ns)) (sym none)
        (IsPermutation-refl []);
  }

  -- all wait
  pub deletes_of_files : IsIndexOf kept [] d.indexed → AreKept kept d.waiting.items
      → IsPermutation (filter holds_deletes xs) (entries_at kept d.waiting.items) → AreDeletesOf kept xs d
  deletes_of_files is files same = record {
    first = [];
    others = xs;
    parts = IsPermutation-refl xs;
    index = is;
    files = files;
    waiting = same;
  }

  module _ (none : d.waiting.items ≡ []) (are : AreDeletesOf kept xs d) where
    none_wait : filter holds_deletes are.others ≡ []
    none_wait =
        let P : List FileNumber → Type 0 = λ ns. IsPermutation (filter holds_deletes are.others) (entries_at kept ns) in
        no_more (filter holds_deletes are.others) (subst P none are.waiting)

    -- the index is that of all
    pub index_of_all : IsIndexOf kept xs d.indexed
    index_of_all =
        let all : filter holds_deletes (are.first ++ are.others) ≡ filter holds_deletes are.first =
        filter-append holds_deletes are.first are.others
        ∙ ap (λ (zs : List Entry). filter holds_deletes are.first ++ zs) none_wait
        ∙ append-nil (filter holds_deletes are.first) in
        index_moved kept (are.first ++ are.others) xs d.indexed are.parts (record {
          files = are.index.files;
          all = subst (λ (zs : List Entry). IsPermutation zs (entries_at kept d.indexed.files.items)) (sym all)
              are.index.all;
          index = are.index.index;
        })

-- where no row has delete files, none that is gained has
no_front : {X : Type 0} (xs ys : List X) → xs ++ ys ≡ [] → (xs ≡ []) × (ys ≡ [])
no_front [] ys none = (refl, none)
no_front (x ∷ xs) ys none = absurd cc

none_gained : (cs ds : Content) → filter holds_deletes (kept_in ds) ≡ []
    → filter holds_deletes (kept_in (gains cs ds)) ≡ []
none_gained [] ds none = refl
none_gained (c ∷ cs) [] none = refl
none_gained (Some r ∷ cs) (d ∷ ds) none =
    none_gained cs ds (no_front (filter holds_deletes (entries_in d)) (filter holds_deletes (kept_in ds))
    (sym (filter-append holds_deletes (entries_in d) (kept_in ds)) ∙ none)).1
none_gained (None ∷ cs) (None ∷ ds) none = none_gained cs ds none
none_gained (None ∷ cs) (Some q ∷ ds) none =
    let given = entries_in (Some q) in
    let parts = no_front (filter holds_deletes given) (filter holds_deletes (kept_in ds))
    (sym (filter-append holds_deletes given (kept_in ds)) ∙ none) in
    filter-append holds_deletes given (kept_in (gains cs ds))
    ∙ ap (λ (zs : List Entry). zs ++ filter holds_deletes (kept_in (gains cs ds))) parts.0
    ∙ none_gained cs ds parts.1

pub if_none_gained : (kept : Segmented) (cs ds : Content) (d : Option KeptDeletes)
    → IfSome d (λ e. (e.indexed.files.items ≡ []) × (e.waiting.items ≡ [])) → IfSome d (AreDeletesOf kept (kept_in ds))
    → IfSome d (AreDeletesOf kept (kept_in (gains cs ds)))
if_none_gained kept cs ds None none are = tt
if_none_gained kept cs ds (Some d) none are =
    let is = index_of_all kept (kept_in ds) d none.1 are in
    let P : List FileNumber → Type 0 = λ ns. IsPermutation (filter holds_deletes (kept_in ds)) (entries_at kept ns) in
    let lacks = none_gained cs ds (no_more (filter holds_deletes (kept_in ds)) (subst P none.0 is.all)) in
    deletes_of_index kept (kept_in (gains cs ds)) d none.1 (record {
      files = is.files;
      all = rw (lacks, none.0) (IsPermutation-refl []);
      index = is.index;
    })

-- further files that wait
pub deletes_with : (kept : Segmented) (xs ys : List Entry) (d e : KeptDeletes) (files : List FileNumber)
    → e.indexed ≡ d.indexed → e.waiting.items ≡ d.waiting.items ++ files → AreDeletesOf kept xs d → AreKept kept files
    → IsPermutation (filter holds_deletes ys) (entries_at kept files) → AreDeletesOf kept (xs ++ ys) e
deletes_with kept xs ys d e files same joined are these more =
    let both = filter holds_deletes are.others ++ filter holds_deletes ys in
    let entries : entries_at kept e.waiting.items ≡ entries_at kept d.waiting.items ++ entries_at kept files =
    ap (entries_at kept) joined ∙ map-append (entry_at kept) d.waiting.items files in
    record {
      first = are.first;
      others = are.others ++ ys;
      parts = subst (λ (zs : List Entry). IsPermutation zs (xs ++ ys)) (append_assoc are.first are.others ys)
          (IsPermutation-append_left ys (are.first ++ are.others) xs are.parts);
      index = subst (λ (i : IndexedDeletes). IsIndexOf kept are.first i) (sym same) are.index;
      files = subst (AreKept kept) (sym joined) (files_both kept d.waiting.items files are.files these);
      waiting =
          subst (λ (zs : List Entry). IsPermutation zs (entries_at kept e.waiting.items))
          (sym (filter-append holds_deletes are.others ys))
          (subst (λ (es : List Entry). IsPermutation both es) (sym entries)
          (IsPermutation-append (filter holds_deletes are.others) (entries_at kept d.waiting.items)
          (filter holds_deletes ys) (entries_at kept files) are.waiting more));
    }

-- the same where they were pushed to those that wait
pub deletes_pushed : (kept : Segmented) (xs ys : List Entry) (d e : KeptDeletes) → e.indexed ≡ d.indexed
    → AreKept kept e.waiting.items
    → entries_at kept e.waiting.items ≡ entries_at kept d.waiting.items ++ filter holds_deletes ys
    → AreDeletesOf kept xs d → AreDeletesOf kept (xs ++ ys) e
deletes_pushed kept xs ys d e same files pushed are = record {
  first = are.first;
  others = are.others ++ ys;
  parts = subst (λ (zs : List Entry). IsPermutation zs (xs ++ ys)) (append_assoc are.first are.others ys)
      (IsPermutation-append_left ys (are.first ++ are.others) xs are.parts);
  index = subst (λ (i : IndexedDeletes). IsIndexOf kept are.first i) (sym same) are.index;
  files = files;
  waiting =
      subst (λ (zs : List Entry). IsPermutation zs (entries_at kept e.waiting.items))
      (sym (filter-append holds_deletes are.others ys))
      (subst (λ (es : List Entry). IsPermutation (filter holds_deletes are.others ++ filter holds_deletes ys) es)
      (sym pushed)
      (IsPermutation-append_left (filter holds_deletes ys) (filter holds_deletes are.others)
      (entries_at kept d.waiting.items) are.waiting));
}

-- the same entries with the further ones last
further_last : (first more others : List Entry)
    → IsPermutation ((first ++ more) ++ others) ((first ++ others) ++ more)
further_last first more others =
    subst (λ (zs : List Entry). IsPermutation zs ((first ++ others) ++ more)) (sym (append_assoc first more others))
    (subst (λ (zs : List Entry). IsPermutation (first ++ (more ++ others)) zs) (sym (append_assoc first others more))
    (IsPermutation-append_right first (more ++ others) (others ++ more) (IsPermutation-append_comm more others)))

-- a further index that was merged in
pub deletes_joined : (kept : Segmented) (xs ys : List Entry) (d e : KeptDeletes) → (are : AreDeletesOf kept xs d)
    → e.waiting ≡ d.waiting → IsIndexOf kept (are.first ++ ys) e.indexed → AreDeletesOf kept (xs ++ ys) e
deletes_joined kept xs ys d e are same is = record {
  first = are.first ++ ys;
  others = are.others;
  parts = IsPermutation-trans ((are.first ++ ys) ++ are.others) ((are.first ++ are.others) ++ ys) (xs ++ ys)
      (further_last are.first ys are.others) (IsPermutation-append_left ys (are.first ++ are.others) xs are.parts);
  index = is;
  files = rw same are.files;
  waiting = rw same are.waiting;
}

-- ---- delete files that may have been dropped

pub if_kept : (old new : Segmented) (xs : List Entry) (d : Option KeptDeletes) → Keeps old new
    → IfSome d (AreDeletesOf old xs) → IfSome d (AreDeletesOf new xs)
if_kept old new xs None keeps are = tt
if_kept old new xs (Some d) keeps are = deletes_kept old new xs d keeps are

pub if_moved : (kept : Segmented) (xs ys : List Entry) (d : Option KeptDeletes) → IsPermutation xs ys
    → IfSome d (AreDeletesOf kept xs) → IfSome d (AreDeletesOf kept ys)
if_moved kept xs ys None same are = tt
if_moved kept xs ys (Some d) same are = deletes_moved kept xs ys d same are

pub if_some_of : (kept : Segmented) (xs : List Entry) (d : Option KeptDeletes) → IfSome d (AreDeletesOf kept xs)
    → IfSome d (AreDeletes kept)
if_some_of kept xs None are = tt
if_some_of kept xs (Some d) are = (xs, are)

-- a state whose entries stay where they are
pub state_kept : (old new : Segmented) (slots : List (Option Taken)) (d : Option KeptDeletes) → Keeps old new
    → IsState old slots d → IsState new slots d
state_kept old new slots d keeps is = record {
  numbers = have-kept old new keeps slots is.numbers;
  all_deletes =
      subst (λ (c : Content). IfSome d (AreDeletesOf new (kept_in c)))
      (sym (contents-kept old new keeps slots is.numbers))
      (if_kept old new (kept_in (contents old slots)) d keeps is.all_deletes);
}

-- files whose numbers were made those of so many segments further on
pub moved_files : (firsts kept : Segmented) (ns ms : List FileNumber) → length ms ≡ length ns
    → ((k : ℕ) (d : FileNumber) → k < length ns → StandsBehind firsts kept (get_or ns k d) (get_or ms k d))
    → AreKept (firsts ++ kept) ms × (entries_at (firsts ++ kept) ms ≡ entries_at kept ns)
moved_files firsts kept [] [] same all = (tt, refl)
moved_files firsts kept [] (m ∷ ms) same all = absurd (omega arith)
moved_files firsts kept (n ∷ ns) [] same all = absurd (omega arith)
moved_files firsts kept (n ∷ ns) (m ∷ ms) same all =
    let one = all 0 n (omega arith) in
    let rest = moved_files firsts kept ns ms (omega arith) (λ k d low. all (suc k) d (omega arith)) in
    ((one.0, rest.0), λ i. one.1 i ∷ rest.1 i)

-- ---- one number more that was moved

pub same_at : (ns : List FileNumber) (i : ℕ) (d e : FileNumber) → i < length ns → get_or ns i d ≡ get_or ns i e
same_at [] i d e low = absurd (omega arith)
same_at (n ∷ ns) zero d e low = refl
same_at (n ∷ ns) (suc i) d e low = same_at ns i d e (omega arith)

pub set_more : (P : FileNumber → FileNumber → Type 0) (old ns : List FileNumber) (i : ℕ) (x : FileNumber)
    → length ns ≡ length old → i < length ns
    → ((k : ℕ) (d : FileNumber) → k < i → P (get_or old k d) (get_or ns k d))
    → ((d : FileNumber) → P (get_or old i d) x)
    → (k : ℕ) (d : FileNumber) → k < i + 1 → P (get_or old k d) (get_or (slice_set ns i x) k d)
set_more P old [] i x same low before here k d lt = absurd (omega arith)
set_more P [] (n ∷ ns) i x same low before here k d lt = absurd (omega arith)
set_more P (o ∷ os) (n ∷ ns) zero x same low before here zero d lt = here d
set_more P (o ∷ os) (n ∷ ns) zero x same low before here (suc k) d lt = absurd (omega arith)
set_more P (o ∷ os) (n ∷ ns) (suc i) x same low before here zero d lt = before 0 d (omega arith)
set_more P (o ∷ os) (n ∷ ns) (suc i) x same low before here (suc k) d lt =
    set_more P os ns i x (omega arith) (omega arith) (λ k d lt. before (suc k) d (omega arith)) here k d (omega arith)

pub set_rest : (ns : List FileNumber) (i : ℕ) (x : FileNumber) (k : ℕ) (d : FileNumber) → i + 1 ≤ k
    → get_or (slice_set ns i x) k d ≡ get_or ns k d
set_rest [] i x k d far = refl
set_rest (n ∷ ns) zero x zero d far = absurd (omega arith)
set_rest (n ∷ ns) zero x (suc k) d far = refl
set_rest (n ∷ ns) (suc i) x zero d far = absurd (omega arith)
set_rest (n ∷ ns) (suc i) x (suc k) d far = set_rest ns i x k d (omega arith)

pub length_set : (ns : List FileNumber) (i : ℕ) (x : FileNumber) → length (slice_set ns i x) ≡ length ns
length_set [] i x = refl
length_set (n ∷ ns) zero x = refl
length_set (n ∷ ns) (suc i) x = ap suc (length_set ns i x)

pub kept_at_place : (kept : Segmented) (ns : List FileNumber) (i : ℕ) (d : FileNumber) → AreKept kept ns → i < length ns
    → IsKept kept (get_or ns i d)
kept_at_place kept [] i d all low = absurd (omega arith)
kept_at_place kept (n ∷ ns) zero d all low = all.0
kept_at_place kept (n ∷ ns) (suc i) d all low = kept_at_place kept ns i d all.1 (omega arith)

pub some_if_ok : {T E : Type 0} (r : Result T E) (P : T → Type 0) → IfOk r P → IfSome (result_ok r) P
some_if_ok (Ok x) P h = h
some_if_ok (Err e) P h = tt

-- what `ok` leaves of a result
pub if_ok : {T E : Type 0} (r : Result T E) (x : T) {o : Option T} → o ≡ result_ok r → o ≡ Some x → (P : T → Type 0)
    → IfOk r P → P x
if_ok r x value was P h = subst (λ o. IfSome o P) was (subst (λ o. IfSome o P) (sym value) (some_if_ok r P h))

pub if_some_ok : {T E : Type 0} (r : Result T E) {o : Option T} → o ≡ result_ok r → (P : T → Type 0) → IfOk r P
    → IfSome o P
if_some_ok r value P h = subst (λ o. IfSome o P) (sym value) (some_if_ok r P h)
