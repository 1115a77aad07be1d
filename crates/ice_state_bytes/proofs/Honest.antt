-- What manifests give is of the scan.
use Rattle.std.proofs.Common.{◌≡◌, ◌≤◌, ◌++◌, ◌∙◌, ◌-◌, ◌+◌, ℕ, suc, ℤ, pos, Bool, true, false}
use Rattle.std.proofs.Common.{List, [], ◌∷◌, Option, Some, None, Ok, Err, refl, sym, ap, subst, arith, length}
use Rattle.std.proofs.Common.{length-append}
use Rattle.std.proofs.Common.{filter, cond, map, nat_lt, slice_get, inl, inr}
use Rattle.std.specs.List.{AllByRecursion}
use Rattle.std.specs.Ordering.{int_eq}
use Rattle.std.proofs.Math.Bool.{beq}
use Rattle.std.proofs.lemmas.Bool.Decides.{Decides-eqb, Decides-int_eq, nat_tests}
use Rattle.avro_schema.specs.Tree.{structure, Fields}
use Rattle.avro_file.specs.Value.{Value}
use Rattle.avro_file.specs.Picking.{Typed}
use Rattle.avro_file.proofs.Opened.{file_held}
use Rattle.ice_meta.specs.declared.spec.PartitionField.{PartitionField}
use Rattle.ice_meta.specs.declared.spec.Spec.{Spec}
use Rattle.ice_meta.specs.Partitioning.{is_unpartitioned}
use Rattle.ice_value.specs.declared.cell.Cell.{Cell}
use Rattle.ice_value.specs.declared.file_bounds.FileBounds.{FileBounds}
use Rattle.ice_value.specs.declared.file_content.FileContent.{FileContent}
use Rattle.ice_value.specs.declared.file_content.FileContent.TheVariants as holds
use Rattle.ice_manifest_fields.specs.declared.fault.FieldFault.TheVariants.{BadContent}
use Rattle.ice_manifest_fields.specs.Fields.{int_or_zero, record_at}
use Rattle.ice_manifest_reading.specs.declared.row.Row.{Row}
use Rattle.ice_manifest_reading.specs.declared.row.ManifestContent.{ManifestContent}
use Rattle.ice_manifest_reading.specs.declared.row.ManifestContent.TheVariants.{Data, Deletes}
use Rattle.ice_manifest_reading.specs.declared.data_file.DataFile.{DataFile}
use Rattle.ice_manifest_reading.specs.declared.entry.Entry.{Entry}
use Rattle.ice_manifest_reading.specs.declared.entry.Live.{Live}
use Rattle.ice_manifest_reading.specs.Laws.{SayEntries, SaysFile, SaysLive}
use Rattle.ice_manifest_reading.specs.Manifests.{content_at, content_of, entries, kept, live_of, referenced_at}
use Rattle.ice_manifest_reading.specs.Partitions.{cell_at, cells_of, tuple_at}
use Rattle.ice_manifest_reading.proofs.Guards.{either, ok_is, passed, went_on}
use Rattle.ice_manifest_reading.proofs.Whole.{reads_entries_exactly}
use Rattle.ice_state_sections.specs.Entries.{AreOfRow, are_behind, content_fits, file_fits, fits, is_behind, known}
use Rattle.ice_state_sections.specs.Entries.{known_from, reference_fits}
use Rattle.ice_state_bytes.proofs.Texts.{HasTexts, held, optional_path_good, path_at_good, record_at_good}

-- ---- one entry

content_good : (of_row : ManifestContent) (z : ℤ) (c : FileContent) → content_of of_row z ≡ Ok c
    → content_fits of_row c ≡ true
content_good Data z c h =
    let p = passed (int_eq z (pos 0)) BadContent (Ok holds.Data) c h in
    let is : holds.Data ≡ c = ok_is holds.Data c p.1 in
    subst (λ (d : FileContent). content_fits Data d ≡ true) is refl
content_good Deletes z c h =
    let P : FileContent → Type 0 = λ d. content_fits Deletes d ≡ true in
    elim (either (int_eq z (pos 1)) (Ok holds.PositionDeletes) (cond (int_eq z (pos 2)) (Ok holds.EqualityDeletes)
    (Err BadContent)) (Ok c) h) as (λ _. P c) [
      | inl a ↦ subst P (ok_is holds.PositionDeletes c a.1) refl
      | inr b ↦
          let p = passed (int_eq z (pos 2)) BadContent (Ok holds.EqualityDeletes) c b.1 in
          subst P (ok_is holds.EqualityDeletes c p.1) refl
    ]

content_at_good : (of_row : ManifestContent) (x : Typed) (c : FileContent) → content_at of_row x ≡ Ok c
    → content_fits of_row c ≡ true
unfolding content_at
content_at_good of_row x c h =
    let code = went_on (int_or_zero (pos 134) x) _ c h in content_good of_row code.0 c code.2

length_map : {A B : Type 0} (f : A → B) (xs : List A) → length (map f xs) ≡ length xs
length_map {A} {B} f [] = refl
length_map {A} {B} f (x ∷ xs) = ap suc (length_map f xs)

tuple_good : (ps : List PartitionField) (x : Typed) (cells : List Cell) → tuple_at ps x ≡ Ok cells
    → length cells ≡ length ps
unfolding tuple_at
tuple_good [] x cells h = let is : [] ≡ cells = ok_is [] cells h in ap length (sym is)
tuple_good (p ∷ ps) x cells h =
    let inner = went_on (record_at (pos 102) x) (λ y. Ok (cells_of (p ∷ ps) y)) cells h in
    let is : cells_of (p ∷ ps) inner.0 ≡ cells = ok_is (cells_of (p ∷ ps) inner.0) cells inner.2 in
    ap length (sym is) ∙ length_map (λ (q : PartitionField). cell_at q.field_id inner.0) (p ∷ ps)

reference_good : (c : FileContent) (x : Typed) (r : Option (List ℕ)) → HasTexts x.1 → referenced_at c x ≡ Ok r
    → reference_fits c r ≡ true
unfolding referenced_at
reference_good holds.PositionDeletes x None is h = refl
reference_good holds.PositionDeletes x (Some p) is h = optional_path_good (pos 143) x (Some p) is h
reference_good holds.Data x None is h = refl
reference_good holds.Data x (Some p) is h = let none : None ≡ Some p = ok_is None (Some p) h in absurd cc
reference_good holds.EqualityDeletes x None is h = refl
reference_good holds.EqualityDeletes x (Some p) is h = let none : None ≡ Some p = ok_is None (Some p) h in absurd cc

file_good : (of_row : ManifestContent) (ps : List PartitionField) (x : Typed) (d : DataFile) (b : FileBounds)
    → HasTexts x.1 → SaysFile of_row ps x d b → file_fits of_row (length ps) d ≡ true
file_good of_row ps x d b is said =
    rw (
      content_at_good of_row x d.content said.content,
      path_at_good (pos 100) x d.path is said.path,
      (Decides-eqb (length d.tuple) (length ps)).1 (tuple_good ps x d.tuple said.tuple),
      reference_good d.content x d.referenced is said.referenced,
    ) refl

-- what holds of each entry of a row
pub record IsAllowed (row : Row) (spec : Spec) (e : Entry) : Type 0 where
  pub spec_id : e.spec_id ≡ row.spec_id
  pub unpartitioned : e.unpartitioned ≡ is_unpartitioned spec
  pub file : file_fits row.content (length spec.fields) e.file ≡ true

live_good : (row : Row) (spec : Spec) (fs : Fields) (k : ℕ) (v : Value) (l : Live) → HasTexts v
    → SaysLive row spec k (structure fs, v) l → IsAllowed row spec l.entry
live_good row spec fs k v l is said =
    let inner = record_at_good (pos 2) (structure fs, v) said.inner is said.inner_is in
    record {
      spec_id = said.spec_id;
      unpartitioned = said.partitions_nothing;
      file = file_good row.content spec.fields said.inner l.entry.file l.bounds inner said.file;
    }

-- ---- entries whose positions rise

abbrev pub Rising : Row → Spec → ℕ → List Entry → Type 0
Rising row spec least [] = Unit {0}
Rising row spec least (e ∷ es) =
    (least ≤ e.position) × IsAllowed row spec e × Rising row spec (suc e.position) es

lower : (row : Row) (spec : Spec) (least less : ℕ) (es : List Entry) → less ≤ least → Rising row spec least es
    → Rising row spec less es
lower row spec least less [] low rise = tt
lower row spec least less (e ∷ es) low rise = (omega (arith, rise.0), rise.1, rise.2)

rising : (row : Row) (spec : Spec) (fs : Fields) (k : ℕ) (vs : List Value) (read : List (Option Live))
    → AllByRecursion HasTexts vs → SayEntries row spec fs k vs read → Rising row spec k (entries (kept read))
rising row spec fs k [] [] all said = tt
rising row spec fs k [] (e ∷ read) all said = absurd said
rising row spec fs k (v ∷ vs) [] all said = absurd said
rising row spec fs k (v ∷ vs) (None ∷ read) all said =
    lower row spec (k + 1) k (entries (kept read)) (omega arith) (rising row spec fs (k + 1) vs read all.1 said.1)
rising row spec fs k (v ∷ vs) (Some l ∷ read) all said =
    let at : l.entry.position ≡ k = said.0.position in
    let rest = rising row spec fs (k + 1) vs read all.1 said.1 in (
      omega arith,
      live_good row spec fs k v l all.0 said.0,
      lower row spec (k + 1) (suc l.entry.position) (entries (kept read)) (omega arith) rest,
    )

-- what is left out leaves the others rising
one_filtered : (row : Row) (spec : Spec) (least : ℕ) (l : Live) (b : Bool) (ls : List Live) → least ≤ l.entry.position
    → IsAllowed row spec l.entry → Rising row spec (suc l.entry.position) (entries ls)
    → Rising row spec least (entries (cond b (l ∷ ls) ls))
one_filtered row spec least l true ls low is rest = (low, is, rest)
one_filtered row spec least l false ls low is rest =
    lower row spec (suc l.entry.position) least (entries ls) (omega (arith, low)) rest

filtered : (row : Row) (spec : Spec) (least : ℕ) (keeps : Live → Bool) (ls : List Live)
    → Rising row spec least (entries ls) → Rising row spec least (entries (filter keeps ls))
filtered row spec least keeps [] rise = tt
filtered row spec least keeps (l ∷ ls) rise =
    one_filtered row spec least l (keeps l) (filter keeps ls) rise.0 rise.1
    (filtered row spec (suc l.entry.position) keeps ls rise.2)

-- ---- each is one that the manifest may have at its place

-- whatever stands from the least on may stand behind the front
abbrev IsBelow : Row → List Entry → ℕ → Type 0
IsBelow row front least = (m : ℕ) → least ≤ m → is_behind (known row front).position m ≡ true

last_is : (front : List Entry) (e : Entry) → slice_get (front ++ e ∷ []) (length front) ≡ Some e
last_is [] e = refl
last_is (x ∷ front) e = last_is front e

last_place : (front : List Entry) (e : Entry) → length (front ++ e ∷ []) - 1 ≡ length front
last_place front e = omega (arith, length-append front (e ∷ []))

below_last : (row : Row) (front : List Entry) (e : Entry) → IsBelow row (front ++ e ∷ []) (suc e.position)
unfolding known
below_last row front e = λ m low.
    let at : slice_get (front ++ e ∷ []) (length (front ++ e ∷ []) - 1) ≡ Some e =
    ap (slice_get (front ++ e ∷ [])) (last_place front e) ∙ last_is front e in
    ap (λ (o : Option Entry). is_behind (known_from row o).position m) at ∙ below e.position m low
  where
    below : (k m : ℕ) → suc k ≤ m → nat_lt k m ≡ true
    below k m low = grind (arith, nat_tests)

same_flags : (a b : Bool) → a ≡ b → beq a b ≡ true
same_flags true true is = refl
same_flags true false is = absurd cc
same_flags false true is = absurd cc
same_flags false false is = refl

one_fits : (row : Row) (spec : Spec) (front : List Entry) (e : Entry)
    → is_behind (known row front).position e.position ≡ true
    → IsAllowed row spec e → fits row spec (known row front) e ≡ true
unfolding fits
one_fits row spec front e behind one =
    rw (
      behind,
      (Decides-int_eq e.spec_id row.spec_id).1 one.spec_id,
      same_flags e.unpartitioned (is_unpartitioned spec) one.unpartitioned,
      one.file,
    ) refl

all_behind : (row : Row) (spec : Spec) (front es : List Entry) (least : ℕ) → IsBelow row front least
    → Rising row spec least es → are_behind row spec front es ≡ true
unfolding are_behind
all_behind row spec front [] least below rise = refl
all_behind row spec front (e ∷ es) least below rise =
    rw (
      one_fits row spec front e (below e.position rise.0) rise.1,
      all_behind row spec (front ++ e ∷ []) es (suc e.position) (below_last row front e) rise.2,
    ) refl

pub of_row : (row : Row) (spec : Spec) (least : ℕ) (es : List Entry) → Rising row spec least es → AreOfRow row spec es
unfolding known
of_row row spec least es rise = all_behind row spec [] es least (λ m low. refl) rise

-- ---- a manifest

found_rises : (row : Row) (spec : Spec) (bytes : List ℕ) (found : List Live) → live_of row spec bytes ≡ Ok found
    → Rising row spec 0 (entries found)
found_rises row spec bytes found h =
    let g = (reads_entries_exactly row spec bytes found).0 h in
    let file = file_held bytes _ g.1 g.3.1 refl in
    let all = held g.3.0 file.0.3 file.0.10.0 g.1 file.0.4 file.0.10.1 in
    subst (λ (ls : List Live). Rising row spec 0 (entries ls)) (sym g.5) (rising row spec g.0 0 g.1 g.2 all g.4)

pub kept_of_row : (row : Row) (spec : Spec) (bytes : List ℕ) (keeps : Live → Bool) (found : List Live)
    → live_of row spec bytes ≡ Ok found → AreOfRow row spec (entries (filter keeps found))
kept_of_row row spec bytes keeps found h =
    of_row row spec 0 (entries (filter keeps found)) (filtered row spec 0 keeps found (found_rises row spec bytes
    found h))
