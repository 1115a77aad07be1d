-- What is live after a commit.
use Rattle.std.proofs.Common.{◌≡◌, ◌≤◌, ◌<◌, ◌+◌, ℕ, suc, Bool, true, false, cond, List, [], ◌∷◌, ◌++◌, length}
use Rattle.std.proofs.Common.{length-append, map, find, refl, sym, ◌∙◌, ap, subst, arith}
use Rattle.std.specs.Prelude.{ℤ, IfSome, Option, Some, None, Result, Ok, Err, is_none, is_some, option_map, codes}
use Rattle.std.specs.Cmp.Lexicographic.{nat_list_cmp_total}
use Rattle.std.specs.FinMap.{get, get-insert, insert}
use Rattle.std.specs.Fmt.{decimal}
use Rattle.std.specs.List.{AllByRecursion}
use Rattle.std.specs.List.Sorted.{IsStrictlySortedBy}
use Rattle.std.specs.Option.{option_and_then, unwrap_or}
use Rattle.std.specs.Ordering.{int_eq}
use Rattle.std.specs.Result.{result_ok}
use Rattle.std.specs.Str.{bytes_eq}
use Rattle.std.proofs.lemmas.Bool.Decides.{Decides-int_eq}
use Rattle.std.proofs.lemmas.Fmt.{length-decimal-le}
use Rattle.std.proofs.lemmas.List.{length-map}
use Rattle.std.proofs.lemmas.Map.Text.{is_eq-slice_cmp}
use Rattle.std.proofs.lemmas.Slice.Eq.{bytes_eq-Decides}
use Rattle.contract_words.specs.Sorting.{put, sorted}
use Rattle.uuid.proofs.TextLemmas.{by_index_length}
use Rattle.avro_file.specs.Blocks.{max_items}
use Rattle.ice_meta.specs.Tables.{table_of}
use Rattle.ice_meta.specs.Targets.{Described, list_of}
use Rattle.ice_meta.specs.declared.spec.Spec.{Spec}
use Rattle.ice_meta.specs.declared.table.Table.{Table}
use Rattle.ice_meta.proofs.Tabled.{new_is_there}
use Rattle.ice_manifest_reading.specs.declared.entry.Entry.{Entry}
use Rattle.ice_manifest.specs.declared.heading.Heading.{Heading}
use Rattle.ice_manifest.specs.declared.new_file.NewFile.{NewFile}
use Rattle.ice_manifest_reading.specs.declared.row.Row.{Row}
use Rattle.ice_manifest.specs.Fitting.{IsReadable}
use Rattle.ice_manifest_reading.specs.Lists.{path_before, path_order, rows_of}
use Rattle.ice_manifest_reading.specs.Manifests.{entries_of}
use Rattle.ice_manifest.specs.NewRows.{new_row, summaries_from}
use Rattle.ice_manifest.proofs.Summaries.{by_summaries}
use Rattle.ice_manifest.specs.Writing.{list_bytes, new_entries}
use Rattle.ice_catalog_changes.specs.declared.change.Commit.{Commit}
use Rattle.ice_catalog_changes.specs.declared.change.Ids.{Ids}
use Rattle.ice_catalog_changes.specs.declared.fault.PrepareFault.TheVariants as fault
use Rattle.ice_catalog_changes.specs.NewFiles.{Added, uuid_text}
use Rattle.ice_catalog_versions.specs.declared.world.World.{World}
use Rattle.ice_catalog_versions.specs.Adding.{CanWrite, NewManifest, added, bytes_of, file_of, group_spec, heading_of}
use Rattle.ice_catalog_versions.specs.Adding.{list_file, list_path, manifest_name, manifest_of, manifest_path}
use Rattle.ice_catalog_versions.specs.Adding.{manifests_from}
use Rattle.ice_catalog_versions.specs.Adding.{next, next_sequence, row_of, snapshot_of, spec_or_none}
use Rattle.ice_catalog_versions.specs.Bases.{base_rows, current_list, current_rows, manifest_at, read_at, rows_at}
use Rattle.ice_catalog_versions.specs.Bases.{spec_in}
use Rattle.ice_catalog_versions.specs.Bases.{table_specs}
use Rattle.ice_catalog_versions.specs.Groups.{Group, groups}
use Rattle.ice_catalog_versions.specs.Histories.{History, state_of, step}
use Rattle.ice_catalog_versions.specs.Refusals.{bad_path, refusal}
use Rattle.ice_catalog_versions.specs.States.{State, with_files}
use Rattle.ice_catalog_versions.specs.Staying.{IsNewTo}
use Rattle.ice_catalog_versions.specs.Live.{AddsToBase, AreReadBack, HasBaseAndChange, HaveNumber, IsReadBack}
use Rattle.ice_catalog_versions.specs.Live.{added_entries}
use Rattle.ice_catalog_versions.specs.Live.{added_row, entries_at, new_manifests, rows_after, listed_rows}
use Rattle.ice_catalog_versions.proofs.Accepting.{can_follow, can_write, few_rows}
use Rattle.ice_catalog_versions.proofs.Leasts.{unmapped}
use Rattle.ice_catalog_versions.proofs.Locations.{short_location}
use Rattle.ice_catalog_versions.proofs.DifferentPaths.{no_list, same_numbers}
use Rattle.ice_catalog_versions.proofs.Readable.{read_again, rising}
use Rattle.ice_catalog_versions.proofs.Reasons.{none_stand}
use Rattle.ice_catalog_versions.proofs.Rows.{AreOthers, IsOther, rise}
use Rattle.ice_catalog_versions.proofs.Staying.{entries_stay, same_path, specs_stay, stepped, untouched}
use Rattle.ice_catalog_versions.proofs.Writable.{all_append, all_sorted, all_split}

-- ---- files that are put into a world

itself : (path : List ℕ) → same_path path path ≡ true
itself path = is_eq-slice_cmp path path ∙ (bytes_eq-Decides path path).1 refl

unlike : (path other : List ℕ) → (path ≡ other → ⊥) → same_path path other ≡ false
unlike path other apart = is_eq-slice_cmp path other ∙ here (bytes_eq path other) refl where
  here : (b : Bool) → bytes_eq path other ≡ b → b ≡ false
  here true e = absurd (apart ((bytes_eq-Decides path other).0 e))
  here false e = refl

put_there : (w : World) (f : List ℕ × List ℕ) → get (insert w f.0 f.1) f.0 ≡ Some f.1
put_there w f = get-insert nat_list_cmp_total w f.0 f.1 f.0 ∙ ap (λ b. cond b (Some f.1) (get w f.0)) (itself f.0)

put_last : (w : World) (fs : Added) (f : List ℕ × List ℕ) → get (with_files w (fs ++ f ∷ [])) f.0 ≡ Some f.1
put_last w [] f = put_there w f
put_last w (g ∷ fs) f = put_last (insert w g.0 g.1) fs f

-- no two of the files have one path
abbrev AreApart : Added → Type 0
AreApart [] = Unit {0}
AreApart (f ∷ fs) = AllByRecursion (λ (g : List ℕ × List ℕ). same_path f.0 g.0 ≡ false) fs × AreApart fs

all_there : (w : World) (fs : Added) → AreApart fs
    → AllByRecursion (λ (f : List ℕ × List ℕ). get (with_files w fs) f.0 ≡ Some f.1) fs
all_there w [] apart = tt
all_there w (f ∷ fs) apart = (
  untouched (insert w f.0 f.1) f.0 f.1 fs apart.0 (put_there w f),
  all_there
      (insert w f.0 f.1) fs apart.1,
)

-- ---- lists

pub no_rows : IsStrictlySortedBy path_order []
unfolding IsStrictlySortedBy
no_rows = tt

length_put : {X : Type 0} (before : X → X → Bool) (x : X) (ys : List X) → length (put before x ys) ≡ suc (length ys)
length_put before x [] = refl
length_put before x (y ∷ ys) = elim (before y x) as (λ b. length (cond b (y ∷ put before x ys) (x ∷ y ∷ ys)) ≡ suc
    (suc (length ys))) [ true ↦ ap suc (length_put before x ys) | false ↦ refl ]

pub length_sorted : {X : Type 0} (before : X → X → Bool) (xs : List X) → length (sorted before xs) ≡ length xs
length_sorted before [] = refl
length_sorted before (x ∷ xs) = length_put before x (sorted before xs) ∙ ap suc (length_sorted before xs)

all_of_map : {A B : Type 0} (P : B → Type 0) (f : A → B) (xs : List A) → AllByRecursion P (map f xs)
    → AllByRecursion (λ x. P (f x)) xs
all_of_map P f [] h = tt
all_of_map P f (x ∷ xs) h = (h.0, all_of_map P f xs h.1)

found_none : {A : Type 0} (test : A → Bool) (xs : List A) → find test xs ≡ None
    → AllByRecursion (λ x. test x ≡ false) xs
found_none test [] h = tt
found_none {A = A} test (x ∷ xs) h =
    let P : Bool → Type 0 = λ b. test x ≡ b → cond b (Some x) (find test xs) ≡ None
    → AllByRecursion (λ x. test x ≡ false) (x ∷ xs) in
    let at : (b : Bool) → P b =
    λ b. elim b as P [
      | true ↦ λ e k. absurd cc
      | false ↦ λ e k. (e, found_none test xs k)
    ] in
    at (test x) refl h

is_there : {A : Type 0} (o : Option A) → is_none o ≡ false → (x : A) × (o ≡ Some x)
is_there None h = absurd cc
is_there (Some x) h = (x, refl)

-- ---- the new manifests have different paths

later : (t : Described) (ids : Ids) (n k : ℕ) (gs : List Group) → n < k → k + length gs ≤ 65536
    → AllByRecursion (λ (x : NewManifest). manifest_path t.table ids n ≡ x.path → ⊥) (manifests_from t ids k gs)
later m ids n k [] less few = tt
later m ids n k (g ∷ gs) less few = (
  λ e. let same = same_numbers m.table ids n k (omega (arith, less, few)) (omega (arith, few)) e in
      absurd (omega (arith, same, less)),
  later m ids n (k + 1) gs (omega (arith, less)) (omega (arith, few)),
)

unlike_all : (path : List ℕ) (xs : List NewManifest) → AllByRecursion (λ (x : NewManifest). path ≡ x.path → ⊥) xs
    → AllByRecursion (λ (f : List ℕ × List ℕ). same_path path f.0 ≡ false) (map file_of xs)
unlike_all path [] h = tt
unlike_all path (x ∷ xs) h = (unlike path x.path h.0, unlike_all path xs h.1)

files_apart : (m : Described) (ids : Ids) (n : ℕ) (gs : List Group) (f : List ℕ × List ℕ) → f.0 ≡ list_path m.table ids
    → n + length gs ≤ 65536 → AreApart (map file_of (manifests_from m ids n gs) ++ f ∷ [])
files_apart m ids n [] f is few = (tt, tt)
files_apart m ids n (g ∷ gs) f is few =
    let path = manifest_path m.table ids n in
    let rest = manifests_from m ids (n + 1) gs in (
      all_append (λ (h : List ℕ × List ℕ). same_path path h.0 ≡ false) (map file_of rest) (f ∷ [])
          (unlike_all path rest (later m ids n (n + 1) gs (omega arith) (omega (arith, few))))
          (unlike path f.0 (λ e. no_list m.table ids n (e ∙ is)), tt),
      files_apart m ids (n + 1) gs f is (omega (arith, few)),
    )

others_all : (sequence : ℕ) (y : NewManifest) (xs : List NewManifest)
    → AllByRecursion (λ (x : NewManifest). y.path ≡ x.path → ⊥) xs
    → AllByRecursion (IsOther (row_of sequence y)) (map (row_of sequence) xs)
unfolding new_row
others_all sequence y [] h = tt
others_all sequence y (x ∷ xs) h = (h.0, others_all sequence y xs h.1)

rows_differ : (m : Described) (ids : Ids) (sequence n : ℕ) (gs : List Group) → n + length gs ≤ 65536
    → AreOthers (map (row_of sequence) (manifests_from m ids n gs))
rows_differ m ids sequence n [] few = tt
rows_differ m ids sequence n (g ∷ gs) few = (
  others_all sequence (manifest_of m ids n g) (manifests_from m ids (n + 1) gs) (later m ids n (n + 1) gs
      (omega arith) (omega (arith, few))),
  rows_differ m ids sequence (n + 1) gs (omega (arith, few)),
)

-- ---- their rows can be read

length_summaries : (i : ℕ) (ts : List _) (fs : List NewFile) → length (summaries_from i ts fs) ≡ length ts
length_summaries i [] fs = refl
length_summaries i (t ∷ ts) fs = ap suc (length_summaries (suc i) ts fs)

short_path : (t : Table) (ids : Ids) (n : ℕ) → length t.location ≤ 65000 → n < 65536
    → length (manifest_path t ids n) ≤ 65535
unfolding manifest_path
short_path t ids n short few =
    let name = manifest_name ids n in
    let a = length-append (t.location ++ codes "/metadata/") name in
    let b = length-append t.location (codes "/metadata/") in
    let c = length-append (uuid_text ids ++ codes "-m" ++ decimal n) (codes ".avro") in
    let d = length-append (uuid_text ids ++ codes "-m") (decimal n) in
    let e = length-append (uuid_text ids) (codes "-m") in
    let u : length (uuid_text ids) ≡ 36 = by_index_length 36 _ in
    let v : length (decimal n) ≤ 5 = length-decimal-le 5 n (omega arith) (omega (arith, few)) (omega (arith, few)) in
    omega (arith, short, a, b, c, d, e, u, v)

readable : (m : Described) (ids : Ids) (sequence n : ℕ) (g : Group) → length m.table.location ≤ 65000 → n < 65536
    → CanWrite m ids g → IsReadable (row_of sequence (manifest_of m ids n g))
unfolding new_row
readable m ids sequence n g short few can =
    let h = heading_of m ids g in
    let count = length_summaries 0 h.types g.files in
    let typed = can.heading.typed in
    let most = can.heading.few in
    record {
      path = short_path m.table ids n short few;
      partitions = by_summaries (λ o. IfSome o (λ ss. length ss ≤ max_items)) h.types g.files tt
          (omega (arith, count, typed, most));
    }

all_readable : (m : Described) (ids : Ids) (sequence n : ℕ) (gs : List Group) → length m.table.location ≤ 65000
    → n + length gs ≤ 65536 → AllByRecursion (CanWrite m ids) gs
    → AllByRecursion IsReadable (map (row_of sequence) (manifests_from m ids n gs))
all_readable m ids sequence n [] short few can = tt
all_readable m ids sequence n (g ∷ gs) short few can = (
  readable m ids sequence n g short (omega (arith, few)) can.0,
  all_readable m ids sequence (n + 1) gs short (omega (arith, few)) can.1,
)

pub length_manifests : (m : Described) (ids : Ids) (n : ℕ) (gs : List Group)
    → length (manifests_from m ids n gs) ≡ length gs
length_manifests m ids n [] = refl
length_manifests m ids n (g ∷ gs) = ap suc (length_manifests m ids (n + 1) gs)

-- ---- their entries

found_passes : {A : Type 0} (test : A → Bool) (xs : List A) (x : A) → find test xs ≡ Some x → test x ≡ true
found_passes test [] x e = absurd cc
found_passes {A = A} test (y ∷ xs) x e =
    let P : Bool → Type 0 = λ b. test y ≡ b → cond b (Some y) (find test xs) ≡ Some x → test x ≡ true in
    let at : (b : Bool) → P b =
    λ b. elim b as P [
      | true ↦ λ is k. let same : y ≡ x = cc in ap test (sym same) ∙ is
      | false ↦ λ is k. found_passes test xs x k
    ] in
    at (test y) refl e

pub found_id : (specs : List Spec) (id : ℤ) (spec : Spec) → spec_in specs id ≡ Some spec → spec.id ≡ id
found_id specs id spec is = (Decides-int_eq spec.id id).0 (found_passes (λ (x : Spec). int_eq x.id id) specs spec is)

-- the spec of a group is found by the id of the spec
own_spec : (m : Described) (g : Group) → is_some (spec_in (table_specs m.table) g.spec_id) ≡ true
    → spec_in (table_specs m.table) (group_spec m g).id ≡ Some (group_spec m g)
own_spec m g known = here (spec_in (table_specs m.table) g.spec_id) refl known where
  here : (o : Option Spec) → spec_in (table_specs m.table) g.spec_id ≡ o → is_some o ≡ true
      → spec_in (table_specs m.table) (spec_or_none g.spec_id o).id ≡ Some (spec_or_none g.spec_id o)
  here None is h = absurd cc
  here (Some spec) is h = ap (spec_in (table_specs m.table)) (found_id (table_specs m.table) g.spec_id spec is) ∙ is

-- a new manifest that is there has its entries
has_entries : (s : State) (w : World) (c : Commit) (n : ℕ) (g : Group) → CanWrite s.metadata c.ids g
    → IsReadBack (manifest_of s.metadata c.ids n g)
    → get w (manifest_of s.metadata c.ids n g).path ≡ Some (bytes_of (manifest_of s.metadata c.ids n g))
    → manifest_at w (table_specs s.metadata.table) (added_row s (manifest_of s.metadata c.ids n g)) ≡ Some
    (added_entries s (manifest_of s.metadata c.ids n g))
unfolding new_row heading_of
has_entries s w c n g can back there =
    let x = manifest_of s.metadata c.ids n g in
    let row = added_row s x in
    ap (option_and_then (λ spec. read_at w (entries_of row spec) row.path)) (own_spec s.metadata g can.known)
    ∙ (ap (option_and_then (λ bytes. result_ok (entries_of row x.heading.spec bytes))) there
    ∙ ap result_ok (back row refl))

all_entries : (s : State) (w : World) (c : Commit) (n : ℕ) (gs : List Group)
    → AllByRecursion (CanWrite s.metadata c.ids) gs → AllByRecursion IsReadBack (manifests_from s.metadata c.ids n gs)
    → AllByRecursion (λ (x : NewManifest). get w x.path ≡ Some (bytes_of x)) (manifests_from s.metadata c.ids n gs)
    → AllByRecursion (λ (x : NewManifest). manifest_at w (table_specs s.metadata.table) (added_row s x) ≡ Some
    (added_entries s x)) (manifests_from s.metadata c.ids n gs)
all_entries s w c n [] can back there = tt
all_entries s w c n (g ∷ gs) can back there = (
  has_entries s w c n g can.0 back.0 there.0,
  all_entries s w c (n + 1) gs
      can.1 back.1 there.1,
)

numbered : (row : Row) (h : Heading) (n : ℕ) (fs : List NewFile)
    → HaveNumber row.sequence_number (new_entries row h n fs)
numbered row h n [] = tt
numbered row h n (f ∷ fs) = (refl, numbered row h (suc n) fs)

numbers : (s : State) (xs : List NewManifest)
    → AllByRecursion (λ (x : NewManifest). HaveNumber (next_sequence s.metadata.table) (added_entries s x)) xs
unfolding new_row
numbers s [] = tt
numbers s (x ∷ xs) = (numbered (added_row s x) x.heading 0 x.files, numbers s xs)

-- ---- the base

none_mapped : {A B : Type 0} (f : A → B) (o : Option A) → option_map f o ≡ None → o ≡ None
none_mapped f None e = refl
none_mapped f (Some x) e = absurd cc

-- what a manifest is read of is there
file_of_found : (s : State) (row : Row) (found : List Entry) → entries_at s row ≡ Some found
    → (bytes : List ℕ) × (get s.world row.path ≡ Some bytes)
file_of_found s row found e = with_spec (spec_in (table_specs s.metadata.table) row.spec_id) e where
  with_file : (spec : Spec) (o : Option (List ℕ)) → get s.world row.path ≡ o
      → option_and_then (λ bytes. result_ok (entries_of row spec bytes)) o ≡ Some found
      → (bytes : List ℕ) × (get s.world row.path ≡ Some bytes)
  with_file spec None is e = absurd cc
  with_file spec (Some bytes) is e = (bytes, is)

  with_spec : (o : Option Spec) → option_and_then (λ spec. read_at s.world (entries_of row spec) row.path) o ≡ Some
      found → (bytes : List ℕ) × (get s.world row.path ≡ Some bytes)
  with_spec None e = absurd cc
  with_spec (Some spec) e = with_file spec (get s.world row.path) refl e

-- what all lists that can be read have, and none, the rows of the base have
pub of_base : (s : State) (P : List Row → Type 0) → P [] → ((bytes : List ℕ) (rows : List Row) → rows_of bytes ≡ Ok rows
    → P rows) → P (base_rows s.world s.metadata.table)
of_base s P none each = at (current_list s.metadata.table) where
  read : (bytes : List ℕ) (r : Result (List Row) _) → rows_of bytes ≡ r → P (unwrap_or (result_ok r) [])
  read bytes (Err f) is = none
  read bytes (Ok rows) is = each bytes rows is

  there : (o : Option (List ℕ)) → P (unwrap_or (option_and_then (λ bytes. result_ok (rows_of bytes)) o) [])
  there None = none
  there (Some bytes) = read bytes (rows_of bytes) refl

  at : (o : Option (List ℕ)) → P (unwrap_or (rows_at s.world o) [])
  at None = none
  at (Some path) = there (get s.world path)

apart_from : (w : World) (sequence : ℕ) (row : Row) (bytes : List ℕ) (xs : List NewManifest)
    → get w row.path ≡ Some bytes → AllByRecursion (λ (x : NewManifest). get w x.path ≡ None) xs
    → AllByRecursion (IsOther row) (map (row_of sequence) xs)
unfolding new_row
apart_from w sequence row bytes [] here new = tt
apart_from w sequence row bytes (x ∷ xs) here new = (
  λ same. let no : Some bytes ≡ None = sym here ∙ (ap (get w) same ∙ new.0) in absurd cc,
  apart_from w sequence row
      bytes xs here new.1,
)

all_apart_from : (s : State) (sequence : ℕ) (rows : List Row) (xs : List NewManifest)
    → AllByRecursion (λ row. is_none (entries_at s row) ≡ false) rows
    → AllByRecursion (λ (x : NewManifest). get s.world x.path ≡ None) xs
    → AllByRecursion (λ row. AllByRecursion (IsOther row) (map (row_of sequence) xs)) rows
all_apart_from s sequence [] xs found new = tt
all_apart_from s sequence (row ∷ rows) xs found new =
    let entries = is_there (entries_at s row) found.0 in
    let file = file_of_found s row entries.0 entries.1 in
    (apart_from s.world sequence row file.0 xs file.1 new, all_apart_from s sequence rows xs found.1 new)

-- ---- the commit

module _ (s : State) (c : Commit) (none : refusal s c ≡ None) (said : table_of s.metadata.json ≡ Ok s.metadata.table)
    (new : IsNewTo s c)
    (back : AllByRecursion IsReadBack (new_manifests s c))
    (rows_back : AreReadBack (rows_after s c) c.ids) where
  few : 0 + length (groups c.change) ≤ 65536
  few = let all = few_rows s c none in omega (arith, all)

  paths_new : AllByRecursion (λ (x : NewManifest). get s.world x.path ≡ None) (new_manifests s c)
  unfolding added
  paths_new =
      let xs = new_manifests s c in
      let P : List ℕ × List ℕ → Type 0 = λ f. get s.world f.0 ≡ None in
      all_of_map P file_of xs (all_split P (map file_of xs) (list_file (base_rows s.world s.metadata.table) s.metadata
      c.ids xs ∷ []) new).0

  base_found : AllByRecursion (λ row. is_none (entries_at s row) ≡ false) (base_rows s.world s.metadata.table)
  base_found =
      let t = s.metadata.table in
      let stands = none_stand s c none in
      at (current_rows s.world t) (unmapped fault.BaseBad _ stands.1.1.1.1.1.1.1.0) where
        at : (o : Option (List Row)) → bad_path (current_list s.metadata.table) (entries_at s) o ≡ None
            → AllByRecursion (λ row. is_none (entries_at s row) ≡ false) (unwrap_or o [])
        at None e = tt
        at (Some rows) e = found_none (λ row. is_none (entries_at s row)) rows (none_mapped (λ (row : Row). row.path)
            (find (λ row. is_none (entries_at s row)) rows) e)

  -- the list
  rows_read : rows_of (list_bytes (rows_after s c) c.ids.uuid) ≡ Ok (rows_after s c)
  rows_read =
      let m = s.metadata in
      let gs = groups c.change in
      let seq = next_sequence m.table in
      let rows = base_rows s.world m.table in
      let news = map (row_of seq) (new_manifests s c) in
      let small = short_location m said in
      let can_read = all_append IsReadable rows news (of_base s (AllByRecursion IsReadable) tt read_again)
      (all_readable m c.ids seq 0 gs small few (can_write s c none said)) in
      let strict = rise rows news (of_base s (IsStrictlySortedBy path_order) no_rows rising) (rows_differ m c.ids seq 0
      gs few) (all_apart_from s seq rows (new_manifests s c) base_found paths_new) in
      let a = length_sorted path_before (rows ++ news) in
      let b = length-append rows news in
      let d = length-map (new_manifests s c) (row_of seq) in
      let e = length_manifests m c.ids 0 gs in
      let all = few_rows s c none in
      rows_back (all_sorted IsReadable path_before (rows ++ news) can_read) strict (omega (arith, a, b, d, e, all))

  listed : current_list (next s c).metadata.table ≡ Some (list_path s.metadata.table c.ids)
  unfolding next list_of
  listed = rw (new_is_there s.metadata.table (snapshot_of s.metadata.table c) (can_follow s c none)) refl

  list_there : get (next s c).world (list_path s.metadata.table c.ids) ≡ Some (list_bytes (rows_after s c) c.ids.uuid)
  unfolding next added
  list_there = put_last s.world (map file_of (new_manifests s c)) (list_file (base_rows s.world s.metadata.table)
      s.metadata c.ids (new_manifests s c))

  has_rows : listed_rows (next s c) ≡ Some (rows_after s c)
  has_rows =
      ap (rows_at (next s c).world) listed
      ∙ (ap (option_and_then (λ bytes. result_ok (rows_of bytes))) list_there ∙ ap result_ok rows_read)

  -- the manifests
  manifests_there : AllByRecursion (λ (x : NewManifest). get (next s c).world x.path ≡ Some (bytes_of x))
      (new_manifests s c)
  unfolding next added
  manifests_there =
      let xs = new_manifests s c in
      let list = list_file (base_rows s.world s.metadata.table) s.metadata c.ids xs in
      let P : List ℕ × List ℕ → Type 0 = λ f. get (with_files s.world (map file_of xs ++ list ∷ [])) f.0 ≡ Some f.1 in
      all_of_map P file_of xs (all_split P (map file_of xs) (list ∷ []) (all_there s.world (map file_of xs ++ list ∷ [])
      (files_apart s.metadata c.ids 0 (groups c.change) list refl few))).0

  base_stays : (rows : List Row) → AllByRecursion (λ row. is_none (entries_at s row) ≡ false) rows
      → AllByRecursion (λ row. entries_at (next s c) row ≡ entries_at s row) rows
  base_stays [] found = tt
  base_stays (row ∷ rows) found =
      let entries = is_there (entries_at s row) found.0 in
      let stay : entries_at (next s c) row ≡ Some entries.0 = ap (λ (specs : List Spec). manifest_at (next s c).world
      specs row) (specs_stay s c) ∙ entries_stay s c new (table_specs s.metadata.table) row entries.0 entries.1 in
      (stay ∙ sym entries.1, base_stays rows found.1)

  entries_there : AllByRecursion (λ (x : NewManifest). entries_at (next s c) (added_row s x) ≡ Some (added_entries s x))
      (new_manifests s c)
  entries_there =
      subst (λ (specs : List Spec). AllByRecursion (λ (x : NewManifest). manifest_at (next s c).world specs
      (added_row s x) ≡ Some (added_entries s x)) (new_manifests s c)) (sym (specs_stay s c))
      (all_entries s (next s c).world c 0 (groups c.change) (can_write s c none said) back manifests_there)

  pub adds : HasBaseAndChange s c (next s c)
  adds = record {
    rows = has_rows;
    base = base_stays (base_rows s.world s.metadata.table) base_found;
    added = entries_there;
    numbers = numbers s (new_manifests s c);
  }

-- so it is of the history that leaves this state
pub adds_to_base : (h : History) (s : State) (is : state_of h ≡ Some s) (c : Commit) → refusal s c ≡ None
    → table_of s.metadata.json ≡ Ok s.metadata.table → AllByRecursion IsReadBack (new_manifests s c)
    → AreReadBack (rows_after s c) c.ids → AddsToBase h c
adds_to_base h s is c none said back rows_back r t left steps new =
    let same : s ≡ r = cc in
    let P : State → Type 0 = λ q. IsNewTo q c → step (Some q) c ≡ Some t → HasBaseAndChange q c t in
    let here : P s = λ new steps. subst (HasBaseAndChange s c) (stepped s t c steps) (adds s c none said new back
    rows_back) in
    subst P same here new steps
