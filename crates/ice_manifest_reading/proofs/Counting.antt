-- Entries of a manifest that are counted one after the other.
use Rattle.std.proofs.Common.{◌≡◌, ℕ, ◌+◌, ℤ, pos, true, List, [], ◌∷◌, map, filter, length, Option, Some, None, Ok}
use Rattle.std.proofs.Common.{w64, refl, sym, ap, subst, ◌∙◌, arith}
use Rattle.std.specs.Prelude.{◌+ℤ◌, unwrap_or}
use Rattle.std.proofs.Math.IntN.{+ℤ_assoc}
use Rattle.std.proofs.lemmas.Int.{ints}
use mir.Val.{SFits}
use Rattle.avro_schema.specs.Tree.{Tree, structure, Fields}
use Rattle.avro_schema.specs.View.{tree}
use Rattle.avro_file.specs.declared.object.Object.{Object}
use Rattle.avro_file.specs.Value.{Value}
use Rattle.avro_file.specs.Ahead.{Ahead, running, refusing}
use Rattle.avro_file.specs.Files.{Next, Shows}
use Rattle.avro_file.specs.Picking.{Typed}
use Rattle.avro_file_picked.specs.Finding.{is_structure}
use Rattle.ice_meta.specs.declared.spec.PartitionField.{PartitionField}
use Rattle.ice_value.specs.declared.file_bounds.FileBounds.{FileBounds}
use Rattle.ice_manifest_fields.specs.Schemas.{fields_in}
use Rattle.ice_manifest_fields.specs.Fields.{asked, optional_long}
use Rattle.ice_manifest_layouts.specs.declared.entry.FoundEntry.{FoundEntry}
use Rattle.ice_manifest_layouts.specs.declared.file.FoundFile.{FoundFile}
use Rattle.ice_manifest_layouts.specs.Seen.{entry_seen, record_met, file_of, file_seen, IsFile}
use Rattle.ice_manifest_reading.specs.declared.data_file.DataFile.{DataFile}
use Rattle.ice_manifest_reading.specs.declared.row.ManifestContent.{ManifestContent}
use Rattle.ice_manifest_reading.specs.declared.status.Status.{Status}
use Rattle.ice_manifest_reading.specs.declared.status.Status.TheVariants.{Existing, Added, Deleted}
use Rattle.ice_manifest_reading.specs.declared.tally.Counted.{Counted}
use Rattle.ice_manifest_reading.specs.declared.tally.Tallies.{Tallies}
use Rattle.ice_manifest_reading.specs.declared.tally.Tally.{Tally}
use Rattle.ice_manifest_reading.specs.Manifests.{status_at, file_of as said_file}
use Rattle.ice_manifest_reading.specs.Tallying.{rows_of, file_rows, tally_of, tallies_in, has_status, objects_ahead}
use Rattle.ice_manifest_reading.specs.Counted.{IsCountedOf, with_file, with_status, with_entry, IsWithin, AreWithin}
use Rattle.ice_manifest_reading.proofs.Found.{seen_is, value_is}
use Rattle.ice_manifest_reading.proofs.Reading.{Is}
use Rattle.ice_manifest_reading.proofs.Said.{count_read}

-- ---- the entries so far and those to come

abbrev pub tally : ℕ → ℤ → Tally
tally files rows = record { files = files; rows = rows }

abbrev pub with_tally : Tally → Tally → Tally
with_tally t u = tally (t.files + u.files) (t.rows +ℤ u.rows)

abbrev pub with_tallies : Tallies → Tallies → Tallies
with_tallies t u = record {
  added = with_tally t.added u.added;
  existing = with_tally t.existing u.existing;
  deleted = with_tally t.deleted u.deleted;
}

one_file : (t : Tally) (x : Typed) (rows : ℤ) (xs : List Typed) → rows ≡ rows_of x
    → with_tally t (tally_of (x ∷ xs)) ≡ with_tally (with_file rows t) (tally_of xs)
one_file t x rows xs h =
    let us = tally_of xs in
    let files : t.files + length (x ∷ xs) ≡ (t.files + 1) + us.files = omega arith in
    let sums : t.rows +ℤ (rows_of x +ℤ us.rows) ≡ (t.rows +ℤ rows) +ℤ us.rows =
    ap (λ (z : ℤ). t.rows +ℤ (z +ℤ us.rows)) (sym h) ∙ sym (+ℤ_assoc t.rows rows us.rows) in
    ap (λ (n : ℕ). tally n (t.rows +ℤ (rows_of x +ℤ us.rows))) files ∙ ap (tally ((t.files + 1) + us.files)) sums

one_of : (t : Tallies) (x : Typed) (status : Status) (rows : ℤ) (xs : List Typed) → status_at x ≡ Ok status
    → rows ≡ rows_of x
    → with_tallies t (tallies_in (x ∷ xs)) ≡ with_tallies (with_status status rows t) (tallies_in xs)
one_of t x Added rows xs s h = rw s (ap (λ (a : Tally). record {
  added = a;
  existing = with_tally t.existing (tally_of (filter (has_status Existing) xs));
  deleted = with_tally t.deleted (tally_of (filter (has_status Deleted) xs));
}) (one_file t.added x rows (filter (has_status Added) xs) h))
one_of t x Existing rows xs s h = rw s (ap (λ (a : Tally). record {
  added = with_tally t.added (tally_of (filter (has_status Added) xs));
  existing = a;
  deleted = with_tally t.deleted (tally_of (filter (has_status Deleted) xs));
}) (one_file t.existing x rows (filter (has_status Existing) xs) h))
one_of t x Deleted rows xs s h = rw s (ap (λ (a : Tally). record {
  added = with_tally t.added (tally_of (filter (has_status Added) xs));
  existing = with_tally t.existing (tally_of (filter (has_status Existing) xs));
  deleted = a;
}) (one_file t.deleted x rows (filter (has_status Deleted) xs) h))

next_tallied : (fs : Fields) (t : Tallies) (counted : Counted) (now new : Ahead) (o : Object) (v : Value)
    → Next Shows now (Ok (Some o)) new → Is o v → IsCountedOf (structure fs, v) counted
    → with_tallies t (tallies_in (objects_ahead fs now))
    ≡ with_tallies (with_entry counted t) (tallies_in (objects_ahead fs new))
next_tallied fs t counted (running vs ending) new o v h shown is = rw (h.3, h.4, sym (shown h.0 h.2)) (one_of t
    (structure fs, v) counted.status counted.rows (map (λ w. (structure fs, w)) h.1) is.status is.rows)
next_tallied fs t counted (refusing f) new o v h shown is = absurd (cc (h.0))

-- one more
pub entry_tallied : (s : Tree) (t : Tallies) (counted : Counted) (now new : Ahead) (e : FoundEntry)
    → Next Shows now (Ok (Some e.object)) new → tree e.object.schema.now ≡ s → is_structure s ≡ true
    → IsCountedOf (entry_seen e) counted
    → with_tallies t (tallies_in (objects_ahead (fields_in s) now))
    ≡ with_tallies (with_entry counted t) (tallies_in (objects_ahead (fields_in s) new))
entry_tallied s t counted now new e next same record_is is =
    next_tallied (fields_in s) t counted now new e.object (entry_seen e).1 next (value_is e)
    (subst (λ (x : Typed). IsCountedOf x counted) (seen_is e s same record_is) is)

no_more : (t : Tally) → with_tally t (tally_of []) ≡ t
no_more t =
    let files : t.files + 0 ≡ t.files = omega arith in
    let rows : t.rows +ℤ pos 0 ≡ t.rows = omega (arith, ints) in
    ap (λ (n : ℕ). tally n (t.rows +ℤ pos 0)) files ∙ ap (tally t.files) rows

-- none any more
pub none_tallied : (fs : Fields) (t : Tallies) (now new : Ahead) (x : Option Object) → Next Shows now (Ok x) new
    → ((o : Object) → x ≡ Some o → ⊥) → with_tallies t (tallies_in (objects_ahead fs now)) ≡ t
none_tallied fs t (running vs ending) new None h none = rw (
  h.0,
  no_more t.added,
  no_more t.existing,
  no_more t.deleted,
) refl
none_tallied fs t (running vs ending) new (Some o) h none = absurd (none o refl)
none_tallied fs t (refusing f) new x h none = absurd (cc (h.0))

from_none : (u : Tally) → with_tally (tally_of []) u ≡ u
from_none u =
    let files : 0 + u.files ≡ u.files = omega arith in
    let rows : pos 0 +ℤ u.rows ≡ u.rows = omega (arith, ints) in
    ap (λ (n : ℕ). tally n (pos 0 +ℤ u.rows)) files ∙ ap (tally u.files) rows

-- none so far
pub all_to_come : (u : Tallies) → with_tallies (tallies_in []) u ≡ u
all_to_come u = rw (from_none u.added, from_none u.existing, from_none u.deleted) refl

-- ---- how many there can be

none_within : IsWithin 0 (tally_of [])
none_within = record { files = omega arith; low = omega (arith, ints); high = omega (arith, ints) }

pub none_are_within : AreWithin 0 (tallies_in [])
none_are_within = record { added = none_within; existing = none_within; deleted = none_within }

stays_within : (n : ℕ) (t : Tally) → IsWithin n t → IsWithin (n + 1) t
stays_within n t h =
    let files = h.files in
    let low = h.low in
    let high = h.high in
    record { files = omega arith; low = omega (arith, ints); high = omega (arith, ints) }

more_within : (n : ℕ) (rows : ℤ) (t : Tally) → SFits w64 rows → IsWithin n t → IsWithin (n + 1) (with_file rows t)
more_within n rows t fits h =
    let files = h.files in
    let low = h.low in
    let high = h.high in
    record { files = omega arith; low = omega (arith, ints); high = omega (arith, ints) }

status_within : (n : ℕ) (status : Status) (rows : ℤ) (t : Tallies) → SFits w64 rows → AreWithin n t
    → AreWithin (n + 1) (with_status status rows t)
status_within n Added rows t fits h = record {
  added = more_within n rows t.added fits h.added;
  existing = stays_within n t.existing h.existing;
  deleted = stays_within n t.deleted h.deleted;
}
status_within n Existing rows t fits h = record {
  added = stays_within n t.added h.added;
  existing = more_within n rows t.existing fits h.existing;
  deleted = stays_within n t.deleted h.deleted;
}
status_within n Deleted rows t fits h = record {
  added = stays_within n t.added h.added;
  existing = stays_within n t.existing h.existing;
  deleted = more_within n rows t.deleted fits h.deleted;
}

pub more_are_within : (n : ℕ) (counted : Counted) (t : Tallies) → SFits w64 counted.rows → AreWithin n t
    → AreWithin (n + 1) (with_entry counted t)
more_are_within n counted t fits h = status_within n counted.status counted.rows t fits h

-- ---- the rows of a live entry's file

asked_is : (id : ℤ) (o : Option ℤ) (z : ℤ) → asked id o ≡ Ok z → z ≡ unwrap_or o (pos 0)
asked_is id (Some y) z h = sym (cc)
asked_is id None z h = absurd cc

-- the rows are those that the file's record says
pub rows_found : (e : FoundEntry) (f : FoundFile) → IsFile f → f.entry.now ≡ e
    → rows_of (entry_seen e) ≡ unwrap_or (optional_long (pos 103) (file_seen f)) (pos 0)
unfolding file_seen rows_of
rows_found e f is same =
    let here = ap file_of (sym same) ∙ is.1.1 in
    ap file_rows here
    ∙ sym (ap (λ (o : Option Typed). unwrap_or (optional_long (pos 103) (record_met o)) (pos 0)) is.1.1)

pub rows_read : (of_row : ManifestContent) (ps : List PartitionField) (e : FoundEntry) (f : FoundFile) (d : DataFile)
    (b : FileBounds) → IsFile f → f.entry.now ≡ e → said_file of_row ps (file_seen f) ≡ Ok (d, b)
    → d.record_count ≡ rows_of (entry_seen e)
rows_read of_row ps e f d b is same h =
    asked_is (pos 103) (optional_long (pos 103) (file_seen f)) d.record_count
    (count_read of_row ps (file_seen f) d b h)
    ∙ sym (rows_found e f is same)
