-- Entries, and those of them that hold data and that hold deletes.
use Rattle.std.proofs.Common.{◌≡◌, ◌+◌, ◌∙◌, ◌++◌, ℕ, Bool, true, false, not, cond, List, [], ◌∷◌}
use Rattle.std.proofs.Common.{refl, sym, ap, subst, arith, filter, length, inl, inr, append-nil}
use Rattle.std.specs.List.Sorted.{IsPermutation}
use Rattle.std.specs.Str.{bytes_eq}
use Rattle.std.proofs.lemmas.List.{map-append}
use Rattle.std.proofs.lemmas.List.Elements.{filter-append}
use Rattle.std.proofs.lemmas.List.Sorted.{IsPermutation-append, IsPermutation-cons, IsPermutation-refl}
use Rattle.std.proofs.lemmas.List.Sorted.{IsPermutation-sym}
use Rattle.std.proofs.lemmas.List.Sorted.{IsPermutation-trans}
use Rattle.contract_words.proofs.Sorted.{filter-sorted}
use Rattle.ice_manifest_reading.specs.declared.entry.Entry.{Entry}
use Rattle.ice_value.specs.declared.file_content.FileContent.TheVariants.{Data}
use Rattle.ice_state.specs.declared.finish.by_kind.FilesByKind.{FilesByKind}
use Rattle.ice_state.specs.declared.kept.deletes.KeptDeletes.{KeptDeletes}
use Rattle.ice_state.specs.declared.kept.segments.FileNumber.{FileNumber}
use Rattle.ice_state.specs.Apart.{ShareNoPath}
use Rattle.ice_state.specs.ByKind.{AreFilesOf, AreKeptByKind, entries_by_kind, HasFilesOf}
use Rattle.ice_state.specs.KeptDeletes.{AreDeletesOf}
use Rattle.ice_state.specs.Outcomes.{by_path, path_before, twice}
use Rattle.ice_state.specs.Parts.{holds_deletes}
use Rattle.ice_state.specs.Pruning.{holds}
use Rattle.ice_state.specs.Rising.{HaveRisingPaths}
use Rattle.ice_state.specs.Segments.{AreKept, IsKept, Segmented, entry_at, entries_at}
use Rattle.ice_state.specs.Shares.{count_at}
use Rattle.ice_state.proofs.PathsOnce.{by_path_moves}
use Rattle.ice_state.proofs.DeletesKept.{index_of_all, no_more}
use Rattle.ice_state.proofs.Permuted.{filter_moved, fronts}
use Rattle.ice_state.proofs.Rising.{few_if_once, once_if_few}
use Rattle.ice_state.proofs.Sharing.{count-by_path, order}
use Rattle.ice_state.proofs.Stretches.{kept_more}

abbrev data_of : List Entry → List Entry
data_of xs = filter (holds Data) xs

abbrev deletes_of : List Entry → List Entry
deletes_of xs = filter holds_deletes xs

-- ---- in order by kind where they are in order

pub filtered_by_path : (p : Entry → Bool) (xs : List Entry) → filter p (by_path xs) ≡ by_path (filter p xs)
filtered_by_path p xs = filter-sorted path_before order p xs

-- ---- one file more

put_last : (p : Entry → Bool) (b : Bool) (xs : List Entry) (x : Entry) → p x ≡ b
    → filter p (xs ++ x ∷ []) ≡ filter p xs ++ cond b (x ∷ []) []
put_last p b xs x h = filter-append p xs (x ∷ []) ∙ ap (λ c. filter p xs ++ cond c (x ∷ []) []) h

file_last : (kept : Segmented) (ns ms : List FileNumber) (n : FileNumber) (es : List Entry) → entries_at kept ns ≡ es
    → ms ≡ ns ++ n ∷ [] → entries_at kept ms ≡ es ++ entry_at kept n ∷ []
file_last kept ns ms n es are is =
    ap (entries_at kept) is ∙ map-append (entry_at kept) ns (n ∷ []) ∙ ap (λ xs. xs ++ entry_at kept n ∷ []) are

module _ (kept : Segmented) (xs : List Entry) (files now : FilesByKind) (has : HasFilesOf kept xs files)
    (n : FileNumber) (one : IsKept kept n) where
  pub data_more : holds Data (entry_at kept n) ≡ true → now.data_files.items ≡ files.data_files.items ++ n ∷ []
      → now.delete_files.items ≡ files.delete_files.items → HasFilesOf kept (xs ++ entry_at kept n ∷ []) now
  data_more here more same = record {
    numbers = (
      subst (AreKept kept) (sym more) (kept_more kept files.data_files.items n has.numbers.0 one),
      subst (AreKept kept) (sym same) has.numbers.1,
    );
    all = file_last kept files.data_files.items now.data_files.items n (data_of xs) has.all more
        ∙ sym (put_last (holds Data) true xs (entry_at kept n) here);
    all_deletes =
        ap (entries_at kept) same ∙ has.all_deletes ∙ sym (append-nil (deletes_of xs))
        ∙ sym (put_last holds_deletes false xs (entry_at kept n) (ap not here));
  }

  pub deletes_more : holds Data (entry_at kept n) ≡ false → now.delete_files.items ≡ files.delete_files.items ++ n ∷ []
      → now.data_files.items ≡ files.data_files.items → HasFilesOf kept (xs ++ entry_at kept n ∷ []) now
  deletes_more here more same = record {
    numbers = (
      subst (AreKept kept) (sym same) has.numbers.0,
      subst (AreKept kept) (sym more) (kept_more kept files.delete_files.items n has.numbers.1 one),
    );
    all =
        ap (entries_at kept) same ∙ has.all ∙ sym (append-nil (data_of xs))
        ∙ sym (put_last (holds Data) false xs (entry_at kept n) here);
    all_deletes = file_last kept files.delete_files.items now.delete_files.items n (deletes_of xs) has.all_deletes more
        ∙ sym (put_last holds_deletes true xs (entry_at kept n) (ap not here));
  }

-- ---- entries of which none holds deletes

only_data : (xs : List Entry) → deletes_of xs ≡ [] → data_of xs ≡ xs
only_data [] none = refl
only_data (x ∷ xs) none =
    let P : (b : Bool) → cond (not b) (x ∷ deletes_of xs) (deletes_of xs) ≡ []
    → cond b (x ∷ data_of xs) (data_of xs) ≡ x ∷ xs = λ b. elim b as
    (λ v. cond (not v) (x ∷ deletes_of xs) (deletes_of xs) ≡ []
    → cond v (x ∷ data_of xs) (data_of xs) ≡ x ∷ xs) [
      | true ↦ λ h. ap (λ ys. x ∷ ys) (only_data xs h)
      | false ↦ λ h. cc
    ] in
    P (holds Data x) none

pub all_data : (kept : Segmented) (xs : List Entry) (files : FilesByKind) → deletes_of xs ≡ []
    → AreFilesOf kept xs files.data_files.items → files.delete_files.items ≡ [] → HasFilesOf kept xs files
all_data kept xs files none are no_deletes = record {
  numbers = (are.0, subst (AreKept kept) (sym no_deletes) tt);
  all = are.1 ∙ sym (only_data xs none);
  all_deletes = ap (entries_at kept) no_deletes ∙ sym none;
}

-- the delete files of entries, where none are kept
pub no_deletes : (kept : Segmented) (xs ys : List Entry) (deletes : KeptDeletes) → AreDeletesOf kept xs deletes
    → deletes.indexed.files.items ≡ [] → deletes.waiting.items ≡ [] → IsPermutation xs ys → deletes_of ys ≡ []
no_deletes kept xs ys deletes are none none_wait same =
    let is = index_of_all kept xs deletes none_wait are in
    let here : IsPermutation (deletes_of xs) [] =
    subst (λ (ns : List FileNumber). IsPermutation (deletes_of xs) (entries_at kept ns)) none is.all in
    no_more (deletes_of ys) (IsPermutation-trans (deletes_of ys) (deletes_of xs) []
    (IsPermutation-sym (deletes_of xs) (deletes_of ys) (filter_moved holds_deletes xs ys same)) here)

-- ---- the entries by kind are the entries

pub parted : (xs : List Entry) → IsPermutation xs (data_of xs ++ deletes_of xs)
parted [] = IsPermutation-refl []
parted (x ∷ xs) =
    let rest = IsPermutation-cons x xs (data_of xs ++ deletes_of xs) (parted xs) in
    elim (holds Data x) as (λ b. IsPermutation (x ∷ xs)
    (cond b (x ∷ data_of xs) (data_of xs) ++ cond (not b) (x ∷ deletes_of xs) (deletes_of xs))) [
      | true ↦ rest
      | false ↦ IsPermutation-trans (x ∷ xs) (x ∷ (data_of xs ++ deletes_of xs))
          (data_of xs ++ (x ∷ deletes_of xs)) rest
          (fronts (x ∷ []) (data_of xs) (deletes_of xs))
    ]

-- ---- no path stands twice where none does of a kind, and none is of both

counted : (xs : List Entry) (p : List ℕ) → count_at xs p ≡ count_at (data_of xs) p + count_at (deletes_of xs) p
counted [] p = refl
counted (x ∷ xs) p =
    let rest = counted xs p in
    elim (holds Data x) as (λ b. count_at (x ∷ xs) p
    ≡ count_at (cond b (x ∷ data_of xs) (data_of xs)) p + count_at
    (cond (not b) (x ∷ deletes_of xs) (deletes_of xs)) p) [
      | true ↦ elim (bytes_eq x.file.path p) as (λ v. length
          (cond v (x ∷ filter (λ (w : Entry). bytes_eq w.file.path p) xs)
          (filter (λ (w : Entry). bytes_eq w.file.path p) xs))
          ≡ length (cond v (x ∷ filter (λ (w : Entry). bytes_eq w.file.path p) (data_of xs))
          (filter (λ (w : Entry). bytes_eq w.file.path p) (data_of xs))) + count_at (deletes_of xs) p)
          [ true ↦ omega (arith, rest) | false ↦ rest ]
      | false ↦ elim (bytes_eq x.file.path p) as (λ v. length
          (cond v (x ∷ filter (λ (w : Entry). bytes_eq w.file.path p) xs)
          (filter (λ (w : Entry). bytes_eq w.file.path p) xs))
          ≡ count_at (data_of xs) p + length
          (cond v (x ∷ filter (λ (w : Entry). bytes_eq w.file.path p) (deletes_of xs))
          (filter (λ (w : Entry). bytes_eq w.file.path p) (deletes_of xs))))
          [ true ↦ omega (arith, rest) | false ↦ rest ]
    ]

pub once_by_kind : (xs data_files delete_files : List Entry) → data_files ≡ by_path (data_of xs)
    → delete_files ≡ by_path (deletes_of xs) → twice data_files ≡ [] → twice delete_files ≡ []
    → ShareNoPath data_files delete_files → twice (by_path xs) ≡ []
once_by_kind xs data_files delete_files are are_deletes once once_deletes apart = once_if_few (by_path xs) (λ p.
    let few = few_if_once (data_of xs) (subst (λ (ys : List Entry). twice ys ≡ []) are once) p in
    let few_deletes = few_if_once (deletes_of xs)
    (subst (λ (ys : List Entry). twice ys ≡ []) are_deletes once_deletes) p in
    let count : count_at data_files p ≡ count_at (data_of xs) p =
    ap (λ (ys : List Entry). count_at ys p) are ∙ count-by_path (data_of xs) p in
    let count_deletes : count_at delete_files p ≡ count_at (deletes_of xs) p =
    ap (λ (ys : List Entry). count_at ys p) are_deletes ∙ count-by_path (deletes_of xs) p in
    let all = counted xs p in
    let sorted = count-by_path xs p in
    elim (apart p) [
      | inl none ↦ omega (arith, few, few_deletes, count, count_deletes, all, sorted, none)
      | inr none ↦ omega (arith, few, few_deletes, count, count_deletes, all, sorted, none)
    ])

-- those that hold data rise where all do
pub data_rise : (xs : List Entry) → by_path xs ≡ xs → twice xs ≡ [] → HaveRisingPaths (data_of xs)
data_rise xs sorted once = record {
  sorted = sym (filtered_by_path (holds Data) xs) ∙ ap (filter (holds Data)) sorted;
  once = once_if_few (data_of xs) (λ p.
      let few = few_if_once xs (subst (λ (ys : List Entry). twice ys ≡ []) (sym sorted) once) p in
      let all = counted xs p in
      omega (arith, few, all));
}

-- ---- files that were put in order

module _ (kept : Segmented) (xs : List Entry) (files now : FilesByKind) (has : HasFilesOf kept xs files)
    (are : entries_at kept now.data_files.items ≡ by_path (entries_at kept files.data_files.items))
    (are_deletes : entries_at kept now.delete_files.items ≡ by_path (entries_at kept files.delete_files.items)) where
  data_are : entries_at kept now.data_files.items ≡ by_path (data_of xs)
  data_are = are ∙ ap by_path has.all

  deletes_are : entries_at kept now.delete_files.items ≡ by_path (deletes_of xs)
  deletes_are = are_deletes ∙ ap by_path has.all_deletes

  pub put_in_order : AreKeptByKind kept now → HasFilesOf kept (by_path xs) now
  put_in_order all = record {
    numbers = all;
    all = data_are ∙ sym (filtered_by_path (holds Data) xs);
    all_deletes = deletes_are ∙ sym (filtered_by_path holds_deletes xs);
  }

  pub none_twice : twice (entries_at kept now.data_files.items) ≡ []
      → twice (entries_at kept now.delete_files.items) ≡ []
      → ShareNoPath (entries_at kept now.data_files.items) (entries_at kept now.delete_files.items)
      → twice (by_path xs) ≡ []
  none_twice = once_by_kind xs (entries_at kept now.data_files.items) (entries_at kept now.delete_files.items) data_are
      deletes_are

  pub all_moved : IsPermutation xs (entries_by_kind kept now)
  all_moved =
      let P : List Entry → List Entry → Type 0 = λ us vs. IsPermutation xs (us ++ vs) in
      subst (λ (us : List Entry). P us (entries_at kept now.delete_files.items)) (sym data_are)
      (subst (λ (vs : List Entry). P (by_path (data_of xs)) vs) (sym deletes_are)
      (IsPermutation-trans xs (data_of xs ++ deletes_of xs) (by_path (data_of xs) ++ by_path (deletes_of xs))
      (parted xs)
      (IsPermutation-append (data_of xs) (by_path (data_of xs)) (deletes_of xs) (by_path (deletes_of xs))
      (by_path_moves (data_of xs)) (by_path_moves (deletes_of xs)))))
