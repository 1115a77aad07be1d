-- What is live after a commit, entry by entry.
use Rattle.std.proofs.Common.{◌≡◌, ◌⊎◌, ◌+◌, inl, inr, ℕ, zero, suc, ℤ, Bool, List, [], ◌∷◌, ◌++◌, map, filter, arith}
use Rattle.std.proofs.Common.{refl, sym, ap, subst, ◌∙◌}
use Rattle.std.specs.Prelude.{Option, None, Some, slice_get}
use Rattle.std.specs.Cmp.{IsEquivalence, decided}
use Rattle.std.specs.List.{Contains, flat_map}
use Rattle.std.specs.Option.{unwrap_or}
use Rattle.std.specs.Ordering.{int_eq}
use Rattle.std.proofs.lemmas.Bool.Decides.{Decides-int_eq}
use Rattle.std.proofs.lemmas.List.Concat.{flat_map-cons}
use Rattle.std.proofs.lemmas.List.Elements.{Contains-append_left, Contains-append_right, Contains-append_cases}
use Rattle.std.proofs.lemmas.List.Kept.{Contains-dedup}
use Rattle.contract_words.specs.Sorting.{sorted}
use Rattle.ice_meta.specs.Partitioning.{is_unpartitioned}
use Rattle.ice_meta.specs.Targets.{Described}
use Rattle.ice_meta.specs.declared.spec.Spec.{Spec}
use Rattle.ice_manifest_reading.specs.declared.data_file.DataFile.{DataFile}
use Rattle.ice_manifest_reading.specs.declared.entry.Entry.{Entry}
use Rattle.ice_manifest.specs.declared.heading.Heading.{Heading}
use Rattle.ice_manifest.specs.declared.new_file.NewFile.{NewFile}
use Rattle.ice_manifest_reading.specs.declared.row.ManifestContent.{ManifestContent}
use Rattle.ice_manifest_reading.specs.declared.row.ManifestContent.TheVariants.{Data, Deletes}
use Rattle.ice_manifest_reading.specs.declared.row.Row.{Row}
use Rattle.ice_manifest_reading.specs.Lists.{path_before}
use Rattle.ice_manifest.specs.NewRows as row
use Rattle.ice_manifest.specs.Writing.{new_entries, new_entry}
use Rattle.ice_manifest_reading.proofs.Sets.{here, later, nowhere, cases_of, in_sorted, to_sorted}
use Rattle.ice_state.proofs.Elements.{all_at, filtered, refiltered}
use Rattle.ice_catalog_changes.specs.declared.change.Change.{Change}
use Rattle.ice_catalog_changes.specs.declared.change.Commit.{Commit}
use Rattle.ice_catalog_changes.specs.declared.change.Ids.{Ids}
use Rattle.ice_catalog_versions.specs.Adding.{NewManifest, group_spec, heading_of, manifest_of, manifests_from}
use Rattle.ice_catalog_versions.specs.Adding.{spec_or_none}
use Rattle.ice_catalog_versions.specs.Bases.{base_rows, live_at, spec_in, table_specs}
use Rattle.ice_catalog_versions.specs.Groups.{Group, group_of, groups, groups_of, id_before, is_of_spec, spec_ids}
use Rattle.ice_catalog_versions.specs.Live.{HasBaseAndChange, added_entries, added_row, entries_at, new_manifests}
use Rattle.ice_catalog_versions.specs.Live.{rows_after}
use Rattle.ice_catalog_versions.specs.LiveAfter.{AddsItsFiles, EachIsLive, IsEntryOf, IsLive, IsOfChange, JoinsFiles}
use Rattle.ice_catalog_versions.specs.LiveAfter.{JoinsManifests, StandsAt, new_live}
use Rattle.ice_catalog_versions.specs.Refusals.{all_files}
use Rattle.ice_catalog_versions.specs.States.{State}
use Rattle.ice_catalog_versions.proofs.Live.{found_id}

-- ---- elements of lists that are made of others

pub in_map : {X Y : Type 0} (f : X → Y) (xs : List X) (y : Y) → Contains (map f xs) y
    → (x : X) × Contains xs x × (f x ≡ y)
in_map f [] y h = absurd (nowhere y h)
in_map {X} {Y} f (x ∷ xs) y h =
    elim (cases_of (f x) (map f xs) y h) as (λ _. (z : X) × Contains (x ∷ xs) z × (f z ≡ y)) [
      | inl e ↦ (x, here x xs x refl, e)
      | inr m ↦ let r = in_map f xs y m in (r.0, later x xs r.0 r.1, r.2)
    ]

pub to_map : {X Y : Type 0} (f : X → Y) (xs : List X) (x : X) → Contains xs x → Contains (map f xs) (f x)
to_map f [] x h = absurd (nowhere x h)
to_map f (z ∷ zs) x h =
    elim (cases_of z zs x h) as (λ _. Contains (map f (z ∷ zs)) (f x)) [
      | inl e ↦ here (f z) (map f zs) (f x) (ap f e)
      | inr m ↦ later (f z) (map f zs) (f x) (to_map f zs x m)
    ]

in_flat : {X Y : Type 0} (f : X → List Y) (xs : List X) (y : Y) → Contains (flat_map f xs) y
    → (x : X) × Contains xs x × Contains (f x) y
in_flat f [] y h = absurd (nowhere y h)
in_flat {X} {Y} f (x ∷ xs) y h =
    let P : List Y → Type 0 = λ ys. Contains ys y in
    elim (Contains-append_cases (f x) (flat_map f xs) y (subst P (flat_map-cons f x xs) h)) as (λ _. (z : X) × Contains
    (x ∷ xs) z × Contains (f z) y) [
      | inl a ↦ (x, here x xs x refl, a)
      | inr b ↦ let r = in_flat f xs y b in (r.0, later x xs r.0 r.1, r.2)
    ]

to_flat : {X Y : Type 0} (f : X → List Y) (xs : List X) (x : X) (y : Y) → Contains xs x → Contains (f x) y
    → Contains (flat_map f xs) y
to_flat f [] x y h k = absurd (nowhere x h)
to_flat {X} {Y} f (z ∷ zs) x y h k =
    let P : List Y → Type 0 = λ ys. Contains ys y in
    let Q : X → Type 0 = λ v. Contains (f v) y in
    subst P (sym (flat_map-cons f z zs))
    (elim (cases_of z zs x h) as (λ _. Contains (f z ++ flat_map f zs) y) [
      | inl e ↦ Contains-append_left (f z) (flat_map f zs) y (subst Q (sym e) k)
      | inr m ↦ Contains-append_right (f z) (flat_map f zs) y (to_flat f zs x y m k)
    ])

-- ---- what was live, and the entries of the new manifests

module _ (s t : State) (c : Commit) (has : HasBaseAndChange s c t) where
  abbrev base : List Row
  base = base_rows s.world s.metadata.table

  rows_are : base_rows t.world t.metadata.table ≡ rows_after s c
  rows_are = ap (λ o. unwrap_or o []) has.rows

  old_row : (row : Row) → Contains base row → entries_at t row ≡ entries_at s row
  old_row row i = all_at (λ row. entries_at t row ≡ entries_at s row) base row has.base i

  new_row : (x : _) → Contains (new_manifests s c) x → entries_at t (added_row s x) ≡ Some (added_entries s x)
  new_row x i = all_at (λ x. entries_at t (added_row s x) ≡ Some (added_entries s x)) (new_manifests s c) x has.added i

  -- a row of the next state is one of the base or that of a new manifest
  was : (e : Entry) → IsLive t e → IsLive s e ⊎ Contains (new_live s c) e
  was e h =
      let live_in_t = live_at t.world (table_specs t.metadata.table) in
      let live_in_s = live_at s.world (table_specs s.metadata.table) in
      let news = map (added_row s) (new_manifests s c) in
      let r = in_flat live_in_t (base_rows t.world t.metadata.table) e h in
      let among : List Row → Type 0 = λ rows. Contains rows r.0 in
      let holds : Option (List Entry) → Type 0 = λ o. Contains (unwrap_or o []) e in
      elim (Contains-append_cases base news r.0 (in_sorted path_before (base ++ news) r.0 (subst among rows_are r.1)))
      as (λ _. IsLive s e ⊎ Contains (new_live s c) e) [
        | inl b ↦ inl (to_flat live_in_s base r.0 e b (subst holds (old_row r.0 b) r.2))
        | inr m ↦
            let k = in_map (added_row s) (new_manifests s c) r.0 m in
            let P : Row → Type 0 = λ row. entries_at t row ≡ Some (added_entries s k.0) in
            inr (to_flat (added_entries s) (new_manifests s c) k.0 e k.1 (subst holds (subst P k.2 (new_row k.0 k.1))
            r.2))
      ]

  at_row : (row : Row) (e : Entry) → Contains (base ++ map (added_row s) (new_manifests s c)) row
      → Contains (unwrap_or (entries_at t row) []) e → IsLive t e
  at_row row e i h =
      let P : List Row → Type 0 = λ rows. Contains rows row in
      to_flat (live_at t.world (table_specs t.metadata.table)) (base_rows t.world t.metadata.table) row e
      (subst P (sym rows_are) (to_sorted path_before (base ++ map (added_row s) (new_manifests s c)) row i)) h

  stays : (e : Entry) → IsLive s e → IsLive t e
  stays e h =
      let r = in_flat (live_at s.world (table_specs s.metadata.table)) base e h in
      let holds : Option (List Entry) → Type 0 = λ o. Contains (unwrap_or o []) e in
      at_row r.0 e (Contains-append_left base (map (added_row s) (new_manifests s c)) r.0 r.1)
      (subst holds (sym (old_row r.0 r.1)) r.2)

  comes : (e : Entry) → Contains (new_live s c) e → IsLive t e
  comes e h =
      let r = in_flat (added_entries s) (new_manifests s c) e h in
      let holds : Option (List Entry) → Type 0 = λ o. Contains (unwrap_or o []) e in
      at_row (added_row s r.0) e (Contains-append_right base (map (added_row s) (new_manifests s c)) (added_row s r.0)
      (to_map (added_row s) (new_manifests s c) r.0 r.1))
      (subst holds (sym (new_row r.0 r.1)) r.2)

-- ---- places in lists

pub some_is : {X : Type 0} (x y : X) → Some x ≡ Some y → x ≡ y
some_is x y h = cc

pub contained : {X : Type 0} (xs : List X) (k : ℕ) (x : X) → slice_get xs k ≡ Some x → Contains xs x
contained [] k x h = absurd cc
contained (y ∷ ys) zero x h = here y ys x (some_is y x h)
contained (y ∷ ys) (suc k) x h = later y ys x (contained ys k x h)

place_of : {X : Type 0} (xs : List X) (x : X) → Contains xs x → (k : ℕ) × (slice_get xs k ≡ Some x)
place_of [] x h = absurd (nowhere x h)
place_of (y ∷ ys) x h = elim (cases_of y ys x h) as (λ _. (k : ℕ) × (slice_get (y ∷ ys) k ≡ Some x))
    [ inl e ↦ (0, ap Some e) | inr m ↦ let r = place_of ys x m in (suc r.0, r.1) ]

-- ---- the entries of a manifest and its files

in_entries : (row : Row) (h : Heading) (position : ℕ) (fs : List NewFile) (e : Entry)
    → Contains (new_entries row h position fs) e
    → (f : NewFile) × (k : ℕ) × (slice_get fs k ≡ Some f) × (new_entry row h (k + position) f ≡ e)
in_entries row h position [] e i = absurd (nowhere e i)
in_entries row h position (f ∷ fs) e i =
    elim (cases_of (new_entry row h position f) (new_entries row h (suc position) fs) e i) as
    (λ _. (g : NewFile) × (k : ℕ) × (slice_get (f ∷ fs) k ≡ Some g) × (new_entry row h (k + position) g ≡ e)) [
      | inl is ↦
          let none : 0 + position ≡ position = omega arith in
          (f, 0, refl, ap (λ n. new_entry row h n f) none ∙ is)
      | inr m ↦
          let r = in_entries row h (suc position) fs e m in
          let next : suc r.1 + position ≡ r.1 + suc position = omega arith in
          (r.0, suc r.1, r.2, ap (λ n. new_entry row h n r.0) next ∙ r.3)
    ]

to_entries : (row : Row) (h : Heading) (position : ℕ) (fs : List NewFile) (k : ℕ) (f : NewFile)
    → slice_get fs k ≡ Some f → Contains (new_entries row h position fs) (new_entry row h (k + position) f)
to_entries row h position [] k f is = absurd cc
to_entries row h position (g ∷ gs) zero f is =
    let none : position ≡ 0 + position = omega arith in
    here (new_entry row h position g) (new_entries row h (suc position) gs) (new_entry row h (0 + position) f)
    (ap (new_entry row h position) (some_is g f is) ∙ ap (λ n. new_entry row h n f) none)
to_entries row h position (g ∷ gs) (suc k) f is =
    let rest = new_entries row h (suc position) gs in
    let next : k + suc position ≡ suc k + position = omega arith in
    let P : ℕ → Type 0 = λ n. Contains rest (new_entry row h n f) in
    later (new_entry row h position g) rest (new_entry row h (suc k + position) f)
    (subst P next (to_entries row h (suc position) gs k f is))

-- ---- the manifests of groups

in_manifests : (m : Described) (ids : Ids) (n : ℕ) (gs : List Group) (x : NewManifest)
    → Contains (manifests_from m ids n gs) x
    → (g : Group) × Contains gs g × (k : ℕ) × (manifest_of m ids k g ≡ x)
in_manifests m ids n [] x i = absurd (nowhere x i)
in_manifests m ids n (g ∷ gs) x i =
    elim (cases_of (manifest_of m ids n g) (manifests_from m ids (n + 1) gs) x i) as (λ _. (d : Group) × Contains
    (g ∷ gs) d × (k : ℕ) × (manifest_of m ids k d ≡ x)) [
      | inl is ↦ (g, here g gs g refl, n, is)
      | inr j ↦ let r = in_manifests m ids (n + 1) gs x j in (r.0, later g gs r.0 r.1, r.2, r.3)
    ]

to_manifests : (m : Described) (ids : Ids) (n : ℕ) (gs : List Group) (g : Group) → Contains gs g
    → (k : ℕ) × Contains (manifests_from m ids n gs) (manifest_of m ids k g)
to_manifests m ids n [] g i = absurd (nowhere g i)
to_manifests m ids n (d ∷ gs) g i =
    let first = manifest_of m ids n d in
    let rest = manifests_from m ids (n + 1) gs in
    elim (cases_of d gs g i) as (λ _. (k : ℕ) × Contains (first ∷ rest) (manifest_of m ids k g)) [
      | inl is ↦ (n, here first rest (manifest_of m ids n g) (ap (manifest_of m ids n) is))
      | inr j ↦ let r = to_manifests m ids (n + 1) gs g j in (r.0, later first rest (manifest_of m ids r.0 g) r.1)
    ]

-- ---- the groups of files

-- at its place among the files of its spec
abbrev IsAt : List NewFile → NewFile → ℕ → Type 0
IsAt files f k = slice_get (filter (is_of_spec f.spec_id) files) k ≡ Some f

in_group : (content : ManifestContent) (files : List NewFile) (g : Group) (k : ℕ) (f : NewFile)
    → Contains (groups_of content files) g → slice_get g.files k ≡ Some f
    → (f.spec_id ≡ g.spec_id) × IsAt files f k
in_group content files g k f i at =
    let r = in_map (group_of content files) (spec_ids files) g i in
    let P : Group → Type 0 = λ d. slice_get d.files k ≡ Some f → (f.spec_id ≡ d.spec_id) × IsAt files f k in
    let of_id : P (group_of content files r.0) =
    λ there.
    let same : f.spec_id ≡ r.0 = (Decides-int_eq f.spec_id r.0).0 (filtered (is_of_spec r.0) files f
    (contained (filter (is_of_spec r.0) files) k f there)).1 in
    (same, ap (λ id. slice_get (filter (is_of_spec id) files) k) same ∙ there) in
    subst P r.2 of_id at

same_ids : IsEquivalence int_eq
same_ids = decided int_eq Decides-int_eq

among : (files : List NewFile) (k : ℕ) (f : NewFile) → IsAt files f k → Contains files f
among files k f at = (filtered (is_of_spec f.spec_id) files f (contained (filter (is_of_spec f.spec_id) files) k f
    at)).0

-- there is a group for the spec of each file
to_group : (content : ManifestContent) (files : List NewFile) (f : NewFile) → Contains files f
    → Contains (groups_of content files) (group_of content files f.spec_id)
to_group content files f i =
    let all = map (λ (file : NewFile). file.spec_id) files in
    let ids = sorted id_before all in
    to_map (group_of content files) (spec_ids files) f.spec_id
    (Contains-dedup same_ids (λ x y. (Decides-int_eq x y).0) ids f.spec_id (to_sorted id_before all f.spec_id
    (to_map (λ (file : NewFile). file.spec_id) files f i)))

own_place : (files : List NewFile) (f : NewFile) → Contains files f → (k : ℕ) × IsAt files f k
own_place files f i = place_of (filter (is_of_spec f.spec_id) files) f (refiltered (is_of_spec f.spec_id) files f i
    ((Decides-int_eq f.spec_id f.spec_id).1 refl))

in_groups : (change : Change) (g : Group) (k : ℕ) (f : NewFile) → Contains (groups change) g
    → slice_get g.files k ≡ Some f → (f.spec_id ≡ g.spec_id) × StandsAt change f k
in_groups change g k f i at =
    elim (Contains-append_cases (groups_of Data change.files) (groups_of Deletes change.deletes) g i) as
    (λ _. (f.spec_id ≡ g.spec_id) × StandsAt change f k) [
      | inl a ↦ let h = in_group Data change.files g k f a at in (h.0, inl h.1)
      | inr b ↦ let h = in_group Deletes change.deletes g k f b at in (h.0, inr h.1)
    ]

to_groups : (change : Change) (f : NewFile) (k : ℕ) → StandsAt change f k
    → (g : Group) × Contains (groups change) g × (slice_get g.files k ≡ Some f)
to_groups change f k at =
    elim at as (λ _. (g : Group) × Contains (groups change) g × (slice_get g.files k ≡ Some f)) [
      | inl a ↦
          let g = group_of Data change.files f.spec_id in (
            g,
            Contains-append_left (groups_of Data change.files) (groups_of Deletes change.deletes) g
                (to_group Data change.files f (among change.files k f a)),
            a,
          )
      | inr b ↦
          let g = group_of Deletes change.deletes f.spec_id in (
            g,
            Contains-append_right (groups_of Data change.files) (groups_of Deletes change.deletes) g
                (to_group Deletes change.deletes f (among change.deletes k f b)),
            b,
          )
    ]

is_of_change : (change : Change) (f : NewFile) (k : ℕ) → StandsAt change f k → Contains (all_files change) f
is_of_change change f k at = elim at as (λ _. Contains (all_files change) f) [
  | inl a ↦ Contains-append_left change.files change.deletes f (among change.files k f a)
  | inr b ↦ Contains-append_right change.files change.deletes f (among change.deletes k f b)
]

stands : (change : Change) (f : NewFile) → Contains (all_files change) f → (k : ℕ) × StandsAt change f k
stands change f i = elim (Contains-append_cases change.files change.deletes f i)
    as (λ _. (k : ℕ) × StandsAt change f k) [
      | inl a ↦ let r = own_place change.files f a in (r.0, inl r.1)
      | inr b ↦ let r = own_place change.deletes f b in (r.0, inr r.1)
    ]

-- ---- entries of files

spec_id_is : (m : Described) (g : Group) → (group_spec m g).id ≡ g.spec_id
spec_id_is m g = at (spec_in (table_specs m.table) g.spec_id) refl where
  at : (o : Option Spec) → spec_in (table_specs m.table) g.spec_id ≡ o → (spec_or_none g.spec_id o).id ≡ g.spec_id
  at None is = refl
  at (Some spec) is = found_id (table_specs m.table) g.spec_id spec is

-- the entry of a file in the manifest of its group
is_entry : (s : State) (c : Commit) (n : ℕ) (g : Group) (k : ℕ) (f : NewFile)
    → (f.spec_id ≡ g.spec_id) × StandsAt c.change f k
    → IsEntryOf s c f (new_entry (added_row s (manifest_of s.metadata c.ids n g)) (manifest_of s.metadata c.ids n
    g).heading k f)
unfolding heading_of row.new_row
is_entry s c n g k f (same, at) =
    let specs = table_specs s.metadata.table in
    record {
      file = refl;
      position = at;
      spec = spec_id_is s.metadata g ∙ sym same;
      unpartitioned = ap (λ id. is_unpartitioned (spec_or_none id (spec_in specs id))) (sym same);
      snapshot = refl;
      number = refl;
      file_number = refl;
    }

-- a file has one entry at a place
entry_made : ℕ → ℤ → Bool → ℤ → ℕ → Option ℕ → DataFile → Entry
entry_made position spec fields snapshot number file_number file =
    record {
      position = position;
      spec_id = spec;
      unpartitioned = fields;
      snapshot_id = snapshot;
      sequence_number = number;
      file_sequence_number = file_number;
      file = file;
    }

entry_is : (e : Entry) → e ≡ entry_made e.position e.spec_id e.unpartitioned e.snapshot_id e.sequence_number
    e.file_sequence_number e.file
unfolding entry_made
entry_is e = refl

one_entry : (s : State) (c : Commit) (f : NewFile) (a b : Entry) → IsEntryOf s c f a → IsEntryOf s c f b
    → a.position ≡ b.position → a ≡ b
one_entry s c f a b of_a of_b position =
    let spec : a.spec_id ≡ b.spec_id = of_a.spec ∙ sym of_b.spec in
    let fields : a.unpartitioned ≡ b.unpartitioned = of_a.unpartitioned ∙ sym of_b.unpartitioned in
    let snapshot : a.snapshot_id ≡ b.snapshot_id = of_a.snapshot ∙ sym of_b.snapshot in
    let number : a.sequence_number ≡ b.sequence_number = of_a.number ∙ sym of_b.number in
    let file_number : a.file_sequence_number ≡ b.file_sequence_number = of_a.file_number ∙ sym of_b.file_number in
    let file : a.file ≡ b.file = of_a.file ∙ sym of_b.file in
    entry_is a ∙ rw (position, spec, fields, snapshot, number, file_number, file) refl ∙ sym (entry_is b)

module _ (s : State) (c : Commit) where
  -- the entry of a group's file is there
  entry_in : (n k : ℕ) (g : Group) (f : NewFile) → Contains (new_manifests s c) (manifest_of s.metadata c.ids n g)
      → slice_get g.files k ≡ Some f
      → Contains (new_live s c) (new_entry (added_row s (manifest_of s.metadata c.ids n g))
      (manifest_of s.metadata c.ids n g).heading k f)
  entry_in n k g f i at =
      let made = manifest_of s.metadata c.ids n g in
      let none : k + 0 ≡ k = omega arith in
      let P : ℕ → Type 0 = λ p. Contains (added_entries s made) (new_entry (added_row s made) made.heading p f) in
      to_flat (added_entries s) (new_manifests s c) made (new_entry (added_row s made) made.heading k f) i
      (subst P none (to_entries (added_row s made) made.heading 0 g.files k f at))

  of_files : (e : Entry) → Contains (new_live s c) e → IsOfChange s c e
  of_files e i =
      let x = in_flat (added_entries s) (new_manifests s c) e i in
      let g = in_manifests s.metadata c.ids 0 (groups c.change) x.0 x.1 in
      let P : NewManifest → Type 0 = λ x. Contains (added_entries s x) e in
      let made = manifest_of s.metadata c.ids g.2 g.0 in
      let r = in_entries (added_row s made) made.heading 0 g.0.files e (subst P (sym g.3) x.2) in
      let h = in_groups c.change g.0 r.1 r.0 g.1 r.2 in
      let none : r.1 ≡ r.1 + 0 = omega arith in
      let is : new_entry (added_row s made) made.heading r.1 r.0 ≡ e = ap (λ n. new_entry (added_row s made)
      made.heading n r.0) none ∙ r.3 in
      (r.0, is_of_change c.change r.0 r.1 h.1, subst (IsEntryOf s c r.0) is (is_entry s c g.2 g.0 r.1 r.0 h))

  -- a file has its entry wherever it stands
  placed : (f : NewFile) (k : ℕ) → StandsAt c.change f k → (e : Entry) × Contains (new_live s c) e × IsEntryOf s c f e ×
      (e.position ≡ k)
  placed f k at =
      let g = to_groups c.change f k at in
      let n = to_manifests s.metadata c.ids 0 (groups c.change) g.0 g.1 in
      let made = manifest_of s.metadata c.ids n.0 g.0 in (
        new_entry (added_row s made) made.heading k f,
        entry_in n.0 k g.0 f n.1 g.2,
        is_entry s c n.0 g.0 k f
            (in_groups c.change g.0 k f g.1 g.2),
        refl,
      )

  has_entry : (e : Entry) → IsOfChange s c e → Contains (new_live s c) e
  has_entry e (f, i, is) =
      let r = placed f e.position is.position in
      subst (Contains (new_live s c)) (one_entry s c f r.0 e r.2 is r.3) r.1

pub adds_its_files : AddsItsFiles
adds_its_files s c e = (of_files s c e, has_entry s c e)

-- ---- both

pub joins_manifests : JoinsManifests
joins_manifests s t c e has = (
  was s t c has e,
  λ h. elim h as (λ _. IsLive t e) [ inl old ↦ stays s t c has e old | inr new ↦ comes s t c has e new ],
)

pub joins_files : JoinsFiles
joins_files s t c e has = (
  λ h. elim (was s t c has e h) as (λ _. IsLive s e ⊎ IsOfChange s c e) [
    | inl old ↦ inl old
    | inr new ↦ inr
        (of_files s c e new)
  ],
  λ h. elim h as (λ _. IsLive t e) [
    | inl old ↦ stays s t c has e old
    | inr new ↦ comes s t c has e (has_entry s c e new)
  ],
)

pub each_is_live : EachIsLive
each_is_live s t c f has i =
    let k = stands c.change f i in
    let r = placed s c f k.0 k.1 in
    (r.0, comes s t c has r.0 r.1, r.2)
