-- What the files of entries hold fits their row, and entries are of its spec.
use Rattle.std.proofs.Common.{◌≡◌, ◌⊎◌, inl, inr, ℕ, suc, ℤ, pos, ◌+◌, cond, List, [], ◌∷◌, length, map, Option, Some}
use Rattle.std.proofs.Common.{None, Ok, Err, refl, sym, ap, subst, ◌∙◌}
use Rattle.std.specs.Ordering.{int_eq}
use Rattle.std.specs.List.{Contains, AllByRecursion}
use Rattle.avro_schema.specs.Tree.{Fields}
use Rattle.avro_file.specs.Value.{Value}
use Rattle.avro_file.specs.Picking.{Typed}
use Rattle.ice_meta.specs.declared.spec.Spec.{Spec}
use Rattle.ice_value.specs.declared.file_content.FileContent.{FileContent}
use Rattle.ice_value.specs.declared.file_content.FileContent.TheVariants as holds
use Rattle.ice_manifest_fields.specs.declared.fault.FieldFault.TheVariants.{BadContent}
use Rattle.ice_manifest_reading.specs.declared.row.Row.{Row}
use Rattle.ice_manifest_reading.specs.declared.row.ManifestContent.{ManifestContent}
use Rattle.ice_manifest_reading.specs.declared.row.ManifestContent.TheVariants.{Data, Deletes}
use Rattle.ice_manifest_reading.specs.declared.entry.Live.{Live}
use Rattle.ice_value.specs.declared.cell.Cell.{Cell}
use Rattle.ice_meta.specs.declared.spec.PartitionField.{PartitionField}
use Rattle.ice_manifest_fields.specs.Fields.{int_or_zero, record_at}
use Rattle.ice_manifest_reading.specs.Partitions.{cell_at, cells_of, tuple_at}
use Rattle.ice_manifest_reading.specs.Manifests.{content_of, content_at, referenced_at, kept, live_of, entries}
use Rattle.ice_manifest_reading.specs.Manifests.{entries_of}
use Rattle.ice_manifest_reading.specs.Laws.{SayEntries, MayHold, FitsItsRow, IsOfSpec, AreOfTheirSpec, HasACellForEach}
use Rattle.ice_manifest_reading.specs.Laws.{IsOfDeletesWhereReferenced}
use Rattle.ice_manifest_reading.proofs.Guards.{passed, ok_is, either, went_on}
use Rattle.ice_manifest_reading.proofs.Sets.{nowhere, cases_of}
use Rattle.ice_manifest_reading.proofs.Whole.{reads_entries_exactly}

content_fits : (of_row : ManifestContent) (z : ℤ) (c : FileContent) → content_of of_row z ≡ Ok c → MayHold of_row c
content_fits Data z c h =
    let p = passed (int_eq z (pos 0)) BadContent (Ok holds.Data) c h in
    let is : holds.Data ≡ c = ok_is holds.Data c p.1 in
    sym is
content_fits Deletes z c h =
    let G : Type 0 = (c ≡ holds.PositionDeletes) ⊎ (c ≡ holds.EqualityDeletes) in
    elim (either (int_eq z (pos 1)) (Ok holds.PositionDeletes) (cond (int_eq z (pos 2)) (Ok holds.EqualityDeletes)
    (Err BadContent)) (Ok c) h) as (λ _. G) [
      | inl a ↦ let is : holds.PositionDeletes ≡ c = ok_is holds.PositionDeletes c a.1 in inl (sym is)
      | inr b ↦
          let p = passed (int_eq z (pos 2)) BadContent (Ok holds.EqualityDeletes) c b.1 in
          let is : holds.EqualityDeletes ≡ c = ok_is holds.EqualityDeletes c p.1 in
          inr (sym is)
    ]

said_fits : (of_row : ManifestContent) (x : Typed) (c : FileContent) → content_at of_row x ≡ Ok c → MayHold of_row c
unfolding content_at
said_fits of_row x c h = let code = went_on (int_or_zero (pos 134) x) _ c h in content_fits of_row code.0 c code.2

entries_fit : (row : Row) (spec : Spec) (fs : Fields) (k : ℕ) (vs : List Value) (read : List (Option Live))
    → SayEntries row spec fs k vs read → (l : Live) → Contains (kept read) l → MayHold row.content l.entry.file.content
entries_fit row spec fs k [] [] said l i = absurd (nowhere l i)
entries_fit row spec fs k [] (e ∷ read) said l i = absurd said
entries_fit row spec fs k (v ∷ vs) [] said l i = absurd said
entries_fit row spec fs k (v ∷ vs) (None ∷ read) said l i = entries_fit row spec fs (k + 1) vs read said.1 l i
entries_fit row spec fs k (v ∷ vs) (Some m ∷ read) said l i =
    let P : Live → Type 0 = λ n. MayHold row.content n.entry.file.content in
    elim (cases_of m (kept read) l i) as (λ _. MayHold row.content l.entry.file.content) [
      | inl e ↦ subst P e (said_fits row.content said.0.inner m.entry.file.content said.0.file.content)
      | inr j ↦ entries_fit row spec fs (k + 1) vs read said.1 l j
    ]

pub fits_its_row : FitsItsRow
fits_its_row row spec bytes found l h i =
    let g = (reads_entries_exactly row spec bytes found).0 h in
    let P : List Live → Type 0 = λ ls. Contains ls l in
    entries_fit row spec g.0 0 g.1 g.2 g.4 l (subst P g.5 i)

-- ---- what position deletes are about

no_path : (path : List ℕ) → None ≡ Some path → ⊥
no_path path h = cc

only_positions : (c : FileContent) (x : Typed) (r : Option (List ℕ)) (path : List ℕ) → referenced_at c x ≡ Ok r
    → r ≡ Some path → c ≡ holds.PositionDeletes
unfolding referenced_at
only_positions holds.Data x r path h some = absurd (no_path path (ok_is None r h ∙ some))
only_positions holds.PositionDeletes x r path h some = refl
only_positions holds.EqualityDeletes x r path h some = absurd (no_path path (ok_is None r h ∙ some))

entries_referring : (row : Row) (spec : Spec) (fs : Fields) (k : ℕ) (vs : List Value) (read : List (Option Live))
    → SayEntries row spec fs k vs read → (l : Live) (path : List ℕ) → Contains (kept read) l
    → l.entry.file.referenced ≡ Some path → l.entry.file.content ≡ holds.PositionDeletes
entries_referring row spec fs k [] [] said l path i = absurd (nowhere l i)
entries_referring row spec fs k [] (e ∷ read) said l path i = absurd said
entries_referring row spec fs k (v ∷ vs) [] said l path i = absurd said
entries_referring row spec fs k (v ∷ vs) (None ∷ read) said l path i =
    entries_referring row spec fs (k + 1) vs read said.1 l path i
entries_referring row spec fs k (v ∷ vs) (Some m ∷ read) said l path i =
    let P : Live → Type 0 = λ n. n.entry.file.referenced ≡ Some path → n.entry.file.content ≡ holds.PositionDeletes in
    elim (cases_of m (kept read) l i) as (λ _. P l) [
      | inl e ↦ subst P e (only_positions m.entry.file.content said.0.inner m.entry.file.referenced path
          said.0.file.referenced)
      | inr j ↦ entries_referring row spec fs (k + 1) vs read said.1 l path j
    ]

pub is_of_deletes_where_referenced : IsOfDeletesWhereReferenced
is_of_deletes_where_referenced row spec bytes found l path h i =
    let g = (reads_entries_exactly row spec bytes found).0 h in
    let P : List Live → Type 0 = λ ls. Contains ls l in
    entries_referring row spec g.0 0 g.1 g.2 g.4 l path (subst P g.5 i)

-- ---- the spec of entries

all_of_spec : (row : Row) (spec : Spec) (fs : Fields) (k : ℕ) (vs : List Value) (read : List (Option Live))
    → SayEntries row spec fs k vs read → AllByRecursion (IsOfSpec row spec) (entries (kept read))
all_of_spec row spec fs k [] [] said = tt
all_of_spec row spec fs k [] (e ∷ read) said = absurd said
all_of_spec row spec fs k (v ∷ vs) [] said = absurd said
all_of_spec row spec fs k (v ∷ vs) (None ∷ read) said = all_of_spec row spec fs (k + 1) vs read said.1
all_of_spec row spec fs k (v ∷ vs) (Some m ∷ read) said = (
  (said.0.spec_id, said.0.partitions_nothing),
  all_of_spec row
      spec fs (k + 1) vs read said.1,
)

pub are_of_their_spec : AreOfTheirSpec
unfolding entries_of
are_of_their_spec row spec bytes found h =
    let l = went_on (live_of row spec bytes) _ found h in
    let g = (reads_entries_exactly row spec bytes l.0).0 l.1 in
    let is : entries l.0 ≡ found = ok_is (entries l.0) found l.2 in
    let P : List Live → Type 0 = λ ls. AllByRecursion (IsOfSpec row spec) (entries ls) in
    subst (AllByRecursion (IsOfSpec row spec)) is (subst P (sym g.5) (all_of_spec row spec g.0 0 g.1 g.2 g.4))

-- ---- a cell for each partition field

length_map : {A B : Type 0} (f : A → B) (xs : List A) → length (map f xs) ≡ length xs
length_map {A} {B} f [] = refl
length_map {A} {B} f (x ∷ xs) = ap suc (length_map f xs)

tuple_length : (ps : List PartitionField) (x : Typed) (cells : List Cell) → tuple_at ps x ≡ Ok cells
    → length cells ≡ length ps
unfolding tuple_at
tuple_length [] x cells h = let is : [] ≡ cells = ok_is [] cells h in rw (sym is) refl
tuple_length (p ∷ ps) x cells h =
    let inner = went_on (record_at (pos 102) x) (λ y. Ok (cells_of (p ∷ ps) y)) cells h in
    let is : cells_of (p ∷ ps) inner.0 ≡ cells = ok_is (cells_of (p ∷ ps) inner.0) cells inner.2 in
    rw (sym is) (length_map (λ (q : PartitionField). cell_at q.field_id inner.0) (p ∷ ps))

entries_celled : (row : Row) (spec : Spec) (fs : Fields) (k : ℕ) (vs : List Value) (read : List (Option Live))
    → SayEntries row spec fs k vs read → (l : Live) → Contains (kept read) l
    → length l.entry.file.tuple ≡ length spec.fields
entries_celled row spec fs k [] [] said l i = absurd (nowhere l i)
entries_celled row spec fs k [] (e ∷ read) said l i = absurd said
entries_celled row spec fs k (v ∷ vs) [] said l i = absurd said
entries_celled row spec fs k (v ∷ vs) (None ∷ read) said l i = entries_celled row spec fs (k + 1) vs read said.1 l i
entries_celled row spec fs k (v ∷ vs) (Some m ∷ read) said l i =
    let P : Live → Type 0 = λ n. length n.entry.file.tuple ≡ length spec.fields in
    elim (cases_of m (kept read) l i) as (λ _. length l.entry.file.tuple ≡ length spec.fields) [
      | inl e ↦ subst P e (tuple_length spec.fields said.0.inner m.entry.file.tuple said.0.file.tuple)
      | inr j ↦ entries_celled row spec fs (k + 1) vs read said.1 l j
    ]

pub has_a_cell_for_each : HasACellForEach
has_a_cell_for_each row spec bytes found l h i =
    let g = (reads_entries_exactly row spec bytes found).0 h in
    let P : List Live → Type 0 = λ ls. Contains ls l in
    entries_celled row spec g.0 0 g.1 g.2 g.4 l (subst P g.5 i)
