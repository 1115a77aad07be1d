-- What each reason finds is the least of its kind.
use Rattle.std.proofs.Common.{◌≡◌, ◌⊎◌, inl, inr, ◌<◌, ◌≤◌, ◌+◌, ℕ, zero, suc, ℤ, negsuc, Bool, true, false, cond, not}
use Rattle.std.proofs.Common.{◌&&◌, ◌||◌, List, [], ◌∷◌, ◌++◌, length, map, filter, find, refl, sym, ap, ◌∙◌, subst}
use Rattle.std.proofs.Common.{arith, length-append}
use Rattle.std.specs.Prelude.{Option, None, Some, is_none, is_some, option_map, slice_get, nat_lt, ◌<ℤ◌, ◌≢◌, unwrap_or}
use Rattle.std.specs.Cmp.{IsEquivalence, decided, int_cmp_is, int_ranks}
use Rattle.std.specs.List.{Contains}
use Rattle.std.specs.List.Sorted.{IsStrictlySortedBy}
use Rattle.std.specs.Ordering.{MatchOrdering, int_cmp, int_eq, is_lt}
use Rattle.std.specs.Str.{bytes_eq}
use Rattle.std.specs.declared.cmp.Ordering.{Ordering}
use Rattle.std.specs.declared.cmp.Ordering.TheVariants.{Less, Equal, Greater}
use Rattle.std.proofs.lemmas.Bool.{ltb-true, ltb-false}
use Rattle.std.proofs.lemmas.Bool.Decides.{Decides-int_eq}
use Rattle.std.proofs.lemmas.List.{length-map}
use Rattle.std.proofs.lemmas.List.Elements.{Contains-append_left, Contains-append_right, Contains-append_cases}
use Rattle.std.proofs.lemmas.Map.Views.{Contains-from_any, list_any-from_Contains}
use Rattle.std.proofs.lemmas.Slice.Eq.{bytes_eq-Decides}
use Rattle.contract_words.proofs.Sorted.{irreflexive, sorted_rises}
use Rattle.ice_value.specs.declared.cell.Cell.{Cell}
use Rattle.ice_meta.specs.declared.snapshot.Snapshot.{Snapshot}
use Rattle.ice_meta.specs.declared.spec.PartitionField.{PartitionField}
use Rattle.ice_meta.specs.declared.spec.Spec.{Spec}
use Rattle.ice_meta.specs.declared.table.Table.{Table}
use Rattle.ice_meta.specs.Targets.{snapshot_with}
use Rattle.ice_manifest_reading.specs.declared.entry.Entry.{Entry}
use Rattle.ice_manifest_reading.specs.declared.row.ManifestContent.{ManifestContent}
use Rattle.ice_manifest_reading.specs.declared.row.ManifestContent.TheVariants.{Data, Deletes}
use Rattle.ice_manifest_reading.specs.declared.row.Row.{Row}
use Rattle.ice_manifest_reading.specs.Lists.{path_before as row_before, path_order}
use Rattle.ice_manifest.specs.declared.new_file.NewFile.{NewFile}
use Rattle.ice_manifest_reading.proofs.Rising.{order}
use Rattle.ice_manifest_reading.proofs.Sets.{cases_of, in_sorted, nowhere, to_sorted}
use Rattle.ice_state.proofs.Elements.{all_at, filtered, refiltered}
use Rattle.ice_catalog_changes.specs.declared.change.Change.{Change}
use Rattle.ice_catalog_changes.specs.declared.change.Commit.{Commit}
use Rattle.ice_catalog_changes.specs.declared.fault.PrepareFault.{PrepareFault}
use Rattle.ice_catalog_changes.specs.declared.fault.PrepareFault.TheVariants as fault
use Rattle.ice_catalog_versions.specs.Adding.{next_sequence, row_of}
use Rattle.ice_catalog_versions.specs.Bases.{base_rows, current_list, live_entries, spec_in}
use Rattle.ice_catalog_versions.specs.Groups.{groups}
use Rattle.ice_catalog_versions.specs.LeastFaults.{Fit, IsBad, IsBadList, IsBadManifest, IsEarlier, IsNamedUnknown}
use Rattle.ice_catalog_versions.specs.LeastFaults.{IsSnapshotTaken, IsTaken, IsTwice, IsUnknown, IsWrong, OneIs}
use Rattle.ice_catalog_versions.specs.Live.{entries_at, listed_rows, new_manifests, rows_after}
use Rattle.ice_catalog_versions.specs.Refusals.{all_files, bad_path, empty, first_twice, is_among, is_bad, is_good}
use Rattle.ice_catalog_versions.specs.Refusals.{is_unknown}
use Rattle.ice_catalog_versions.specs.Refusals.{is_wrong, least_id, least_path, live_among, out_of_order, path_before}
use Rattle.ice_catalog_versions.specs.Refusals.{path_of}
use Rattle.ice_catalog_versions.specs.Refusals.{paths_where, sequence_end, snapshot_taken, sorted_paths, spec_id_of}
use Rattle.ice_catalog_versions.specs.Refusals.{too_many}
use Rattle.ice_catalog_versions.specs.Refusals.{unreadable}
use Rattle.ice_catalog_versions.specs.States.{State}
use Rattle.ice_catalog_versions.specs.Tuples.{allowed_of, allows, fit, fits_spec}
use Rattle.ice_catalog_versions.proofs.Accepting.{if_none, is_none_of, or_false, unless_none}
use Rattle.ice_catalog_versions.proofs.Doubles.{count_sorted, from_places, least_double, no_double, to_places}
use Rattle.ice_catalog_versions.proofs.FirstFound.{first_found, found_among, found_first, none_found}
use Rattle.ice_catalog_versions.proofs.Leasts.{no_id, no_path}
use Rattle.ice_catalog_versions.proofs.Live.{length_manifests, length_sorted, no_rows, of_base}
use Rattle.ice_catalog_versions.proofs.LiveAfter.{in_map, some_is, to_map}
use Rattle.ice_catalog_versions.proofs.Minima.{is_least_id, is_least_path, path_ranks}
use Rattle.ice_catalog_versions.proofs.Readable.{rising}

-- ---- what is found

-- Where nothing is found nothing is so. What is found is so, and nothing less is.
abbrev pub Finds : {X : Type 0} → (X → X → Type 0) → (X → Type 0) → Option X → Type 0
Finds {X} IsLess IsSo found = (found ≡ None → (x : X) → IsSo x → ⊥)
    × ((x : X) → found ≡ Some x → IsSo x × ((y : X) → IsSo y → IsLess y x → ⊥))

abbrev pub IsPathBefore : List ℕ → List ℕ → Type 0
IsPathBefore path other = path_before path other ≡ true

least_finds : (paths : List (List ℕ)) (IsSo : List ℕ → Type 0) → ((p : List ℕ) → IsSo p → Contains paths p)
    → ((p : List ℕ) → Contains paths p → IsSo p) → Finds IsPathBefore IsSo (least_path paths)
least_finds paths IsSo to from = (
  λ e p so. nowhere p (subst (λ (ps : List (List ℕ)). Contains ps p) (no_path paths e) (to p so)),
  λ p e.
      let r = is_least_path paths p e in
      (from p r.0, λ q so less. let no : true ≡ false = sym less ∙ r.1 q (to q so) in cc),
)

-- ---- tests

not_true : (b : Bool) → not b ≡ true → b ≡ false
not_true true h = absurd cc
not_true false h = refl

none_is : {A : Type 0} (o : Option A) → is_none o ≡ true → o ≡ None
none_is None h = refl
none_is (Some x) h = absurd cc

some_of : {A : Type 0} (o : Option A) → is_some o ≡ true → (x : A) × (o ≡ Some x)
some_of None h = absurd cc
some_of (Some x) h = (x, refl)

or_true : (a b : Bool) → (a || b) ≡ true → (a ≡ true) ⊎ (b ≡ true)
or_true true b h = inl refl
or_true false b h = inr h

both : (a b : Bool) → (a && b) ≡ true → (a ≡ true) × (b ≡ true)
both true b h = (refl, h)
both false b h = absurd cc

and_true : (a b : Bool) → a ≡ true → b ≡ true → (a && b) ≡ true
and_true a b h k = ap (λ v. v && b) h ∙ k

if_some : (b : Bool) (f g : PrepareFault) → cond b (Some f) None ≡ Some g → (b ≡ true) × (g ≡ f)
if_some true f g e = (refl, sym (some_is f g e))
if_some false f g e = absurd cc

unless_some : (b : Bool) (f g : PrepareFault) → cond b None (Some f) ≡ Some g → (b ≡ false) × (g ≡ f)
unless_some true f g e = absurd cc
unless_some false f g e = (refl, sym (some_is f g e))

not_equal : (a b : ℤ) → a ≢ b → int_eq a b ≡ false
not_equal a b h = at (int_eq a b) refl where
  at : (v : Bool) → int_eq a b ≡ v → int_eq a b ≡ false
  at true e = absurd (h ((Decides-int_eq a b).0 e))
  at false e = e

not_same : (a b : ℤ) → int_eq a b ≡ false → a ≢ b
not_same a b h e = let no : true ≡ false = sym ((Decides-int_eq a b).1 e) ∙ h in cc

lesser : (a b : ℤ) → is_lt (int_cmp a b) ≡ true → a <ℤ b
lesser a b h = at (int_cmp a b) (int_ranks a b) h where
  at : (o : Ordering) → MatchOrdering o (a <ℤ b) (a ≡ b) (b <ℤ a) → is_lt o ≡ true → a <ℤ b
  at Less m h = m
  at Equal m h = absurd cc
  at Greater m h = absurd cc

is_less : (a b : ℤ) → a <ℤ b → is_lt (int_cmp a b) ≡ true
is_less a b h = ap is_lt (sym (int_cmp_is a b Less h))

-- ---- the commit by itself

pub none_empty : (files deletes : List NewFile) → empty files deletes ≡ None → files ++ deletes ≡ [] → ⊥
none_empty [] [] e h = absurd cc
none_empty [] (d ∷ ds) e h = absurd cc
none_empty (f ∷ fs) ds e h = absurd cc

pub some_empty : (files deletes : List NewFile) (g : PrepareFault) → empty files deletes ≡ Some g
    → (g ≡ fault.Empty) × (files ++ deletes ≡ [])
some_empty [] [] g e = (sym (some_is fault.Empty g e), refl)
some_empty [] (d ∷ ds) g e = absurd cc
some_empty (f ∷ fs) ds g e = absurd cc

pub no_snapshot : (t : Table) (id : ℤ) → snapshot_taken t id ≡ None → IsSnapshotTaken t id → ⊥
no_snapshot t id e is =
    let free = or_false (int_eq id (negsuc 0)) (is_some (snapshot_with id t)) (if_none _ fault.SnapshotTaken e) in
    elim is as (λ _. ⊥) [
      | inl one ↦ not_same id (negsuc 0) free.0 one
      | inr there ↦ not_same there.0.id id (none_found (λ (x : Snapshot). int_eq x.id id) t.snapshots
          (is_none_of (snapshot_with id t) free.1) there.0 there.1) there.2
    ]

pub a_snapshot : (t : Table) (id : ℤ) (g : PrepareFault) → snapshot_taken t id ≡ Some g
    → (g ≡ fault.SnapshotTaken) × IsSnapshotTaken t id
a_snapshot t id g e =
    let is = if_some (int_eq id (negsuc 0) || is_some (snapshot_with id t)) fault.SnapshotTaken g e in (
      is.1,
      elim (or_true (int_eq id (negsuc 0)) (is_some (snapshot_with id t)) is.0) as (λ _. IsSnapshotTaken t id) [
        | inl one ↦ inl ((Decides-int_eq id (negsuc 0)).0 one)
        | inr there ↦
            let x = some_of (snapshot_with id t) there in
            let r = found_among (λ (x : Snapshot). int_eq x.id id) t.snapshots x.0 x.1 in
            inr (x.0, r.0, (Decides-int_eq x.0.id id).0 r.1)
      ],
    )

pub no_end : (t : Table) → sequence_end t ≡ None → 0x7fff_ffff_ffff_ffff ≤ t.last_sequence_number → ⊥
no_end t e h =
    let below = ltb-true t.last_sequence_number 0x7fff_ffff_ffff_ffff (unless_none _ fault.SequenceEnd e) in
    omega (arith, below, h)

pub an_end : (t : Table) (g : PrepareFault) → sequence_end t ≡ Some g
    → (g ≡ fault.SequenceEnd) × (0x7fff_ffff_ffff_ffff ≤ t.last_sequence_number)
an_end t g e =
    let is = unless_some (nat_lt t.last_sequence_number 0x7fff_ffff_ffff_ffff) fault.SequenceEnd g e in
    (is.1, ltb-false t.last_sequence_number 0x7fff_ffff_ffff_ffff is.0)

-- ---- the files by themselves

pub double_finds : (c : Change) → Finds IsPathBefore (IsTwice c) (first_twice (sorted_paths c))
double_finds c =
    let files = all_files c in
    let paths = map path_of files in
    let rises = sorted_rises path_before path_ranks paths in (
      λ e p two.
          let one = no_double (sorted_paths c) rises e p in
          let same = count_sorted p paths in
          let all = from_places files p two.0 two.1 two.2 two.3 two.4 in
          omega (arith, one, same, all),
      λ p e.
          let r = least_double (sorted_paths c) p rises e in
          let same = count_sorted p paths in
          let there = r.0 in (
            to_places files p (omega (arith, same, there)),
            λ q two less.
                let as_here = count_sorted q paths in
                let all = from_places files q two.0 two.1 two.2 two.3 two.4 in
                r.1 q (omega (arith, as_here, all)) less,
          ),
    )

weaker : (P Q : NewFile → Type 0) (files : List NewFile) (path : List ℕ) → ((f : NewFile) → P f → Q f)
    → OneIs P files path → OneIs Q files path
weaker P Q files path h one = (one.0, one.1, h one.0 one.2, one.3)

abbrev Passes : (NewFile → Bool) → NewFile → Type 0
Passes so file = so file ≡ true

in_where : (so : NewFile → Bool) (files : List NewFile) (path : List ℕ) → Contains (paths_where so files) path
    → OneIs (Passes so) files path
in_where so files path h =
    let r = in_map path_of (filter so files) path h in
    let k = filtered so files r.0 r.1 in
    (r.0, k.0, k.1, r.2)

to_where : (so : NewFile → Bool) (files : List NewFile) (path : List ℕ) → OneIs (Passes so) files path
    → Contains (paths_where so files) path
to_where so files path one = subst (λ (p : List ℕ). Contains (paths_where so files) p) one.3
    (to_map path_of (filter so files) one.0 (refiltered so files one.0 one.1 one.2))

abbrev IsOutside : ManifestContent → NewFile → Type 0
IsOutside content file = is_good content file ≡ false

abbrev bad_files : Change → List (List ℕ)
bad_files c = paths_where (is_bad Data) c.files

abbrev bad_deletes : Change → List (List ℕ)
bad_deletes c = paths_where (is_bad Deletes) c.deletes

bad : (content : ManifestContent) (file : NewFile) → IsOutside content file → Passes (is_bad content) file
bad content file h = ap not h

outside : (content : ManifestContent) (file : NewFile) → Passes (is_bad content) file → IsOutside content file
outside content file h = not_true (is_good content file) h

pub bad_finds : (c : Change) → Finds IsPathBefore (IsBad c) (least_path (bad_files c ++ bad_deletes c))
bad_finds c = least_finds (bad_files c ++ bad_deletes c) (IsBad c) to from where
  to : (p : List ℕ) → IsBad c p → Contains (bad_files c ++ bad_deletes c) p
  to p (inl one) = Contains-append_left (bad_files c) (bad_deletes c) p (to_where (is_bad Data) c.files p
      (weaker (IsOutside Data) (Passes (is_bad Data)) c.files p (bad Data) one))
  to p (inr one) = Contains-append_right (bad_files c) (bad_deletes c) p (to_where (is_bad Deletes) c.deletes p
      (weaker (IsOutside Deletes) (Passes (is_bad Deletes)) c.deletes p (bad Deletes) one))

  from : (p : List ℕ) → Contains (bad_files c ++ bad_deletes c) p → IsBad c p
  from p h = elim (Contains-append_cases (bad_files c) (bad_deletes c) p h) as (λ _. IsBad c p) [
    | inl one ↦ inl (weaker (Passes (is_bad Data)) (IsOutside Data) c.files p (outside Data)
        (in_where (is_bad Data) c.files p one))
    | inr one ↦ inr (weaker (Passes (is_bad Deletes)) (IsOutside Deletes) c.deletes p (outside Deletes)
        (in_where (is_bad Deletes) c.deletes p one))
  ]

-- ---- the files by the table's partition specs

abbrev has_id : ℤ → Spec → Bool
has_id id spec = int_eq spec.id id

unknown_is : (specs : List Spec) (id : ℤ) → is_unknown specs id ≡ true → IsUnknown specs id
unknown_is specs id h spec i = not_same spec.id id (none_found (has_id id) specs (none_is (spec_in specs id) h) spec i)

unknown_from : (specs : List Spec) (id : ℤ) → IsUnknown specs id → is_unknown specs id ≡ true
unknown_from specs id h = at (spec_in specs id) refl where
  at : (o : Option Spec) → spec_in specs id ≡ o → is_none o ≡ true
  at None e = refl
  at (Some spec) e = let r = found_among (has_id id) specs spec e in
      absurd (h spec r.0 ((Decides-int_eq spec.id id).0 r.1))

abbrev named_ids : Change → List ℤ
named_ids c = map spec_id_of (all_files c)

abbrev unknown_ids : List Spec → Change → List ℤ
unknown_ids specs c = filter (is_unknown specs) (named_ids c)

pub unknown_finds : (specs : List Spec) (c : Change) → Finds (λ (a : ℤ) (b : ℤ). a <ℤ b) (IsNamedUnknown specs c)
    (least_id (unknown_ids specs c))
unknown_finds specs c = (
  λ e id so. nowhere id (subst (λ (ids : List ℤ). Contains ids id) (no_id (unknown_ids specs c) e) (to id so)),
  λ id e.
      let r = is_least_id (unknown_ids specs c) id e in (
        from id r.0,
        λ other so less. let no : true ≡ false = sym (is_less other id less) ∙ r.1 other (to other so) in cc,
      ),
) where
  to : (id : ℤ) → IsNamedUnknown specs c id → Contains (unknown_ids specs c) id
  to id so = refiltered (is_unknown specs) (named_ids c) id
      (subst (λ (i : ℤ). Contains (named_ids c) i) so.2 (to_map spec_id_of (all_files c) so.0 so.1))
      (unknown_from specs id so.3)

  from : (id : ℤ) → Contains (unknown_ids specs c) id → IsNamedUnknown specs c id
  from id h =
      let k = filtered (is_unknown specs) (named_ids c) id h in
      let r = in_map spec_id_of (all_files c) id k.0 in
      (r.0, r.1, r.2, unknown_is specs id k.1)

each_allowed : (f : PartitionField) (c : Cell) (fs : List PartitionField) (cs : List Cell)
    → allows (allowed_of f) c ≡ true
    → ((place : ℕ) (field : PartitionField) (cell : Cell) → slice_get fs place ≡ Some field
    → slice_get cs place ≡ Some cell → allows (allowed_of field) cell ≡ true)
    → (place : ℕ) (field : PartitionField) (cell : Cell) → slice_get (f ∷ fs) place ≡ Some field
    → slice_get (c ∷ cs) place ≡ Some cell → allows (allowed_of field) cell ≡ true
each_allowed f c fs cs h rest zero field cell at there =
    ap (λ (x : PartitionField). allows (allowed_of x) cell) (sym (some_is f field at))
    ∙ (ap (allows (allowed_of f)) (sym (some_is c cell there)) ∙ h)
each_allowed f c fs cs h rest (suc place) field cell at there = rest place field cell at there

fit_is : (fields : List PartitionField) (tuple : List Cell) → fit (map allowed_of fields) tuple ≡ true
    → Fit fields tuple
fit_is [] [] h = (refl, λ place field cell at there. absurd cc)
fit_is [] (c ∷ cs) h = absurd cc
fit_is (f ∷ fs) [] h = absurd cc
fit_is (f ∷ fs) (c ∷ cs) h =
    let parts = both (allows (allowed_of f) c) (fit (map allowed_of fs) cs) h in
    let rest = fit_is fs cs parts.1 in
    (ap suc rest.0, each_allowed f c fs cs parts.0 rest.1)

fit_from : (fields : List PartitionField) (tuple : List Cell) → Fit fields tuple
    → fit (map allowed_of fields) tuple ≡ true
fit_from [] [] h = refl
fit_from [] (c ∷ cs) h = let same = h.0 in absurd (omega (arith, same))
fit_from (f ∷ fs) [] h = let same = h.0 in absurd (omega (arith, same))
fit_from (f ∷ fs) (c ∷ cs) h =
    let same = h.0 in
    let rest : length fs ≡ length cs = omega (arith, same) in
    and_true (allows (allowed_of f) c) (fit (map allowed_of fs) cs) (h.1 0 f c refl refl) (fit_from fs cs (
      rest,
      λ place field cell at there. h.1 (suc place) field cell at there,
    ))

wrong_is : (specs : List Spec) (file : NewFile) → is_wrong specs file ≡ true → IsWrong specs file
wrong_is specs file h spec is fits =
    let found : spec_in specs file.spec_id ≡ Some spec = found_first (has_id file.spec_id) specs is.0 spec is.1
    ((Decides-int_eq spec.id file.spec_id).1 is.2) (λ before other lt at. not_equal other.id file.spec_id
    (is.3 before other lt at)) in
    let right : fits_spec (spec_in specs file.spec_id) file.tuple ≡ true = ap (λ o. fits_spec o file.tuple) found
    ∙ fit_from spec.fields file.tuple fits in
    let no : true ≡ false = sym right ∙ not_true (fits_spec (spec_in specs file.spec_id) file.tuple) h in cc

wrong_from : (specs : List Spec) (file : NewFile) → IsWrong specs file → is_wrong specs file ≡ true
wrong_from specs file h = at (spec_in specs file.spec_id) refl where
  fits : (spec : Spec) → spec_in specs file.spec_id ≡ Some spec → (b : Bool)
      → fit (map allowed_of spec.fields) file.tuple ≡ b → not b ≡ true
  fits spec e true right =
      let r = first_found (has_id file.spec_id) specs spec e in
      absurd (h spec (
        r.0,
        r.1,
        (Decides-int_eq spec.id file.spec_id).0 r.2,
        λ before other lt at. not_same other.id file.spec_id (r.3 before other lt at),
      ) (fit_is spec.fields file.tuple right))
  fits spec e false right = refl

  at : (o : Option Spec) → spec_in specs file.spec_id ≡ o → not (fits_spec o file.tuple) ≡ true
  at None e = refl
  at (Some spec) e = fits spec e (fit (map allowed_of spec.fields) file.tuple) refl

pub wrong_finds : (specs : List Spec) (c : Change) → Finds IsPathBefore (OneIs (IsWrong specs) (all_files c))
    (least_path (paths_where (is_wrong specs) (all_files c)))
wrong_finds specs c =
    let files = all_files c in
    least_finds (paths_where (is_wrong specs) files) (OneIs (IsWrong specs) files)
    (λ p one. to_where (is_wrong specs) files p (weaker (IsWrong specs) (Passes (is_wrong specs)) files p
    (wrong_from specs) one))
    (λ p i. weaker (Passes (is_wrong specs)) (IsWrong specs) files p (wrong_is specs)
    (in_where (is_wrong specs) files p i))

-- ---- the base

-- of rows in the order of their paths the first that passes has the least path
first_row : (test : Row → Bool) (row : Row) (rows : List Row) → IsStrictlySortedBy path_order rows
    → find test rows ≡ Some row → (other : Row) → Contains rows other → test other ≡ true
    → row_before other row ≡ false
unfolding IsStrictlySortedBy
first_row test row [] up e other i is = absurd cc
first_row test row (r ∷ rows) up e other i is = at (test r) refl e
    (λ found j. first_row test row rows up.1 found other j is) where
      behind : r ≡ row → row_before other r ≡ false → row_before other row ≡ false
      behind same h = subst (λ (x : Row). row_before other x ≡ false) same h

      at : (b : Bool) → test r ≡ b → cond b (Some r) (find test rows) ≡ Some row
          → (find test rows ≡ Some row → Contains rows other → row_before other row ≡ false)
          → row_before other row ≡ false
      at true passes found rest = behind (some_is r row found) (elim (cases_of r rows other i) as
          (λ _. row_before other r ≡ false) [
            | inl same ↦ subst (λ (x : Row). row_before x r ≡ false) same (irreflexive row_before order r)
            | inr j ↦ order.one_way r other (ap is_lt (all_at (λ (x : Row). path_order r x ≡ Less) rows other up.0 j))
          ])
      at false passes found rest = elim (cases_of r rows other i) as (λ _. row_before other row ≡ false) [
        | inl same ↦ let no : true ≡ false = sym is ∙ (ap test (sym same) ∙ passes) in absurd cc
        | inr j ↦ rest found j
      ]

abbrev IsBadBase : State → List ℕ → Type 0
IsBadBase s path = IsBadList s path ⊎ IsBadManifest s path

abbrev cannot_read : State → Row → Bool
cannot_read s row = is_none (entries_at s row)

bad_list : (s : State) → listed_rows s ≡ None → Finds IsPathBefore (IsBadBase s) (current_list s.metadata.table)
bad_list s none = (
  λ e p so. elim so as (λ _. ⊥) [
    | inl list ↦ let no : None ≡ Some p = sym e ∙ list.0 in absurd cc
    | inr manifest ↦ let no : None ≡ Some manifest.0 = sym none ∙ manifest.2 in absurd cc
  ],
  λ p e. (
    inl (e, none),
    λ q so less. elim so as (λ _. ⊥) [
      | inl list ↦
          let same : q ≡ p = some_is q p (sym list.0 ∙ e) in
          let no : true ≡ false = sym less ∙ (ap (λ (x : List ℕ). path_before x p) same ∙ irreflexive path_before
          path_ranks p) in
          absurd cc
      | inr manifest ↦ let no : None ≡ Some manifest.0 = sym none ∙ manifest.2 in absurd cc
    ],
  ),
)

is_none_from : {A : Type 0} (o : Option A) → o ≡ None → is_none o ≡ true
is_none_from o h = ap is_none h

bad_manifests : (s : State) (rows : List Row) → listed_rows s ≡ Some rows → IsStrictlySortedBy path_order rows
    → Finds IsPathBefore (IsBadBase s) (unreadable (entries_at s) rows)
bad_manifests s rows some up = at (find (cannot_read s) rows) refl where
  of_rows : (x : List Row) → listed_rows s ≡ Some x → x ≡ rows
  of_rows x e = some_is x rows (sym e ∙ some)

  at : (o : Option Row) → find (cannot_read s) rows ≡ o
      → Finds IsPathBefore (IsBadBase s) (unreadable (entries_at s) rows)
  at None e = (
    λ h p so. elim so as (λ _. ⊥) [
      | inl list ↦ let no : None ≡ Some rows = sym list.1 ∙ some in absurd cc
      | inr manifest ↦
          let among : Contains rows manifest.1 = subst (λ (x : List Row). Contains x manifest.1)
          (of_rows manifest.0 manifest.2) manifest.3 in
          let no : true ≡ false = sym (is_none_from (entries_at s manifest.1) manifest.4) ∙ none_found (cannot_read s)
          rows e manifest.1 among in
          absurd cc
    ],
    λ p h. let no : None ≡ Some p = sym (ap (option_map (λ (row : Row). row.path)) e) ∙ h in absurd cc,
  )
  at (Some row) e = (
    λ h. let no : Some row.path ≡ None = sym (ap (option_map (λ (row : Row). row.path)) e) ∙ h in absurd cc,
    λ p h.
        let is : row.path ≡ p = some_is row.path p (sym (ap (option_map (λ (row : Row). row.path)) e) ∙ h) in
        let r = found_among (cannot_read s) rows row e in (
          inr (rows, row, some, r.0, none_is (entries_at s row) r.1, is),
          λ q so less. elim so as (λ _. ⊥) [
            | inl list ↦ let no : None ≡ Some rows = sym list.1 ∙ some in absurd cc
            | inr manifest ↦
                let among : Contains rows manifest.1 = subst (λ (x : List Row). Contains x manifest.1)
                (of_rows manifest.0 manifest.2) manifest.3 in
                let first = first_row (cannot_read s) row rows up e manifest.1 among
                (is_none_from (entries_at s manifest.1) manifest.4) in
                let no : true ≡ false = sym less ∙ (ap (λ (x : List ℕ). path_before x p) (sym manifest.5)
                ∙ (ap (path_before manifest.1.path) (sym is) ∙ first)) in
                absurd cc
          ],
        ),
  )

pub base_finds : (s : State) → Finds IsPathBefore (IsBadBase s) (bad_path (current_list s.metadata.table)
    (entries_at s) (listed_rows s))
base_finds s = at (listed_rows s) refl where
  at : (o : Option (List Row)) → listed_rows s ≡ o → Finds IsPathBefore (IsBadBase s)
      (bad_path (current_list s.metadata.table) (entries_at s) o)
  at None e = bad_list s e
  at (Some rows) e = bad_manifests s rows e (subst (IsStrictlySortedBy path_order)
      (ap (λ (o : Option (List Row)). unwrap_or o []) e) (of_base s (IsStrictlySortedBy path_order) no_rows rising))

same_bytes : IsEquivalence bytes_eq
same_bytes = decided bytes_eq bytes_eq-Decides

abbrev live_path : Entry → List ℕ
live_path entry = entry.file.path

abbrev live : State → List Entry
live s = live_entries s.world s.metadata.table

pub taken_finds : (s : State) (c : Change) → Finds IsPathBefore (IsTaken s c)
    (least_path (live_among (sorted_paths c) (live s)))
taken_finds s c = least_finds (live_among (sorted_paths c) (live s)) (IsTaken s c) to from where
  to : (p : List ℕ) → IsTaken s c p → Contains (live_among (sorted_paths c) (live s)) p
  to p so =
      let own = subst (λ (x : List ℕ). Contains (map path_of (all_files c)) x) so.3
      (to_map path_of (all_files c) so.0 so.2) in
      let theirs = subst (λ (x : List ℕ). Contains (map live_path (live s)) x) so.5
      (to_map live_path (live s) so.1 so.4) in
      refiltered (is_among (sorted_paths c)) (map live_path (live s)) p theirs
      (list_any-from_Contains same_bytes p (sorted_paths c) (to_sorted path_before (map path_of (all_files c)) p own))

  from : (p : List ℕ) → Contains (live_among (sorted_paths c) (live s)) p → IsTaken s c p
  from p h =
      let k = filtered (is_among (sorted_paths c)) (map live_path (live s)) p h in
      let theirs = in_map live_path (live s) p k.0 in
      let own = in_map path_of (all_files c) p (in_sorted path_before (map path_of (all_files c)) p
      (Contains-from_any (λ x y. (bytes_eq-Decides x y).0) p (sorted_paths c) k.1)) in
      (own.0, theirs.0, own.1, own.2, theirs.1, theirs.2)

-- ---- the sizes, and the order in time

-- the next list has a row for each of the base and of the new manifests
length_after : (s : State) (c : Commit)
    → length (rows_after s c) ≡ length (base_rows s.world s.metadata.table) + length (groups c.change)
length_after s c =
    let rows = base_rows s.world s.metadata.table in
    let sequence = next_sequence s.metadata.table in
    let news = map (row_of sequence) (new_manifests s c) in
    let a = length_sorted row_before (rows ++ news) in
    let b = length-append rows news in
    let d = length-map (new_manifests s c) (row_of sequence) in
    let e = length_manifests s.metadata c.ids 0 (groups c.change) in
    omega (arith, a, b, d, e)

abbrev IsTooLong : State → Commit → Type 0
IsTooLong s c = (65_536 < length (rows_after s c)) ⊎ (1_000_000 < length (all_files c.change))

module _ (s : State) (c : Commit) where
  abbrev row_count : ℕ
  row_count = length (base_rows s.world s.metadata.table) + length (groups c.change)

  pub few : too_many row_count (length (all_files c.change)) ≡ None → IsTooLong s c → ⊥
  few e so =
      let is = or_false (nat_lt 65_536 row_count) (nat_lt 1_000_000 (length (all_files c.change)))
      (if_none _ fault.TooManyRows e) in
      let after = length_after s c in
      elim so as (λ _. ⊥) [
        | inl rows ↦ let most = ltb-false 65_536 row_count is.0 in omega (arith, rows, most, after)
        | inr files ↦
            let most = ltb-false 1_000_000 (length (all_files c.change)) is.1 in
            omega (arith, files, most)
      ]

  pub many : (g : PrepareFault) → too_many row_count (length (all_files c.change)) ≡ Some g
      → (g ≡ fault.TooManyRows) × IsTooLong s c
  many g e =
      let is = if_some (nat_lt 65_536 row_count || nat_lt 1_000_000 (length (all_files c.change))) fault.TooManyRows g e
      in
      let after = length_after s c in (
        is.1,
        elim (or_true (nat_lt 65_536 row_count) (nat_lt 1_000_000 (length (all_files c.change))) is.0) as
            (λ _. IsTooLong s c) [
              | inl rows ↦ let most = ltb-true 65_536 row_count rows in inl (omega (arith, most, after))
              | inr files ↦ inr (ltb-true 1_000_000 (length (all_files c.change)) files)
            ],
      )

pub not_earlier : (o : Option ℤ) (now : ℤ) → out_of_order o now ≡ None → IsEarlier o now → ⊥
not_earlier None now e so = let no = so.1 in absurd cc
not_earlier (Some newest) now e so =
    let same = some_is newest so.0 so.1 in
    let no : true ≡ false = sym (is_less now so.0 so.2) ∙ (ap (λ (time : ℤ). is_lt (int_cmp now time)) (sym same)
    ∙ if_none (is_lt (int_cmp now newest)) fault.OutOfOrder e) in
    cc

pub earlier : (o : Option ℤ) (now : ℤ) (g : PrepareFault) → out_of_order o now ≡ Some g
    → (g ≡ fault.OutOfOrder) × IsEarlier o now
earlier None now g e = absurd cc
earlier (Some newest) now g e =
    let is = if_some (is_lt (int_cmp now newest)) fault.OutOfOrder g e in
    (is.1, (newest, refl, lesser now newest is.0))
