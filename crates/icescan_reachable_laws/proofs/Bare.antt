-- A manifest that can be read under its spec can be read under one without partition fields, and has the same files.
use Rattle.std.proofs.Common.{◌≡◌, ℕ, ◌+◌, pos, true, List, [], ◌∷◌, Option, Some, None, map, refl, sym, ap, ◌∙◌}
use Rattle.std.proofs.Common.{Ok}
use Rattle.std.specs.Prelude.{option_map}
use Rattle.avro_schema.specs.Tree.{Branches, Fields, Tree, branch, no_branches, structure}
use Rattle.avro_file.specs.Value.{Value}
use Rattle.avro_file.specs.Picking.{Typed}
use Rattle.ice_value.specs.declared.file_bounds.FileBounds.{FileBounds}
use Rattle.ice_meta.specs.declared.spec.PartitionField.{PartitionField}
use Rattle.ice_meta.specs.declared.spec.Spec.{Spec}
use Rattle.ice_meta.specs.Partitioning.{without_fields}
use Rattle.ice_manifest_fields.specs.Schemas.{branches_in, column_fields, each_branch, ids_fit, optional, required}
use Rattle.ice_manifest_fields.specs.Types.{is_record, is_text, is_whole}
use Rattle.ice_manifest_reading.specs.declared.data_file.DataFile.{DataFile}
use Rattle.ice_manifest_reading.specs.declared.entry.Live.{Live}
use Rattle.ice_manifest_reading.specs.declared.row.ManifestContent.{ManifestContent}
use Rattle.ice_manifest_reading.specs.declared.row.Row.{Row}
use Rattle.ice_manifest_reading.specs.Laws.{SayEntries, SaysEntry, SaysFile, SaysLive}
use Rattle.ice_manifest_reading.specs.ManifestSchemas.{entry_fields, file_fields, is_file, tuple_in}
use Rattle.ice_manifest_reading.specs.Manifests.{kept, live_of}
use Rattle.ice_manifest_reading.specs.Partitions.{tuple_at}
use Rattle.ice_manifest_reading.proofs.Guards.{went_on}
use Rattle.ice_manifest_reading.proofs.Whole.{reads_entries_exactly}

-- ---- the schema

fields_fit : (ps : List PartitionField) (fs : Fields) → file_fields ps fs ≡ Ok tt → file_fields [] fs ≡ Ok tt
unfolding file_fields tuple_in
fields_fit ps fs h =
    let content = went_on (optional is_whole (pos 134) fs) _ tt h in
    let path = went_on (required is_text (pos 100) fs) _ tt content.2 in
    let tuple = went_on (tuple_in ps fs) _ tt path.2 in
    let count = went_on (required is_whole (pos 103) fs) _ tt tuple.2 in
    let size = went_on (required is_whole (pos 104) fs) _ tt count.2 in
    let columns = went_on (column_fields fs) _ tt size.2 in
    let ids = went_on (ids_fit fs) _ tt columns.2 in
    let referenced = went_on (optional is_text (pos 143) fs) _ tt ids.2 in
    rw (content.1, path.1, count.1, size.1, columns.1, ids.1, referenced.1) refl

file_fits : (ps : List PartitionField) (t : Tree) → is_file ps t ≡ Ok tt → is_file [] t ≡ Ok tt
file_fits ps (structure fs) h = fields_fit ps fs h
file_fits ps t h = refl

branches_fit : (ps : List PartitionField) (ts : Branches) → each_branch (is_file ps) ts ≡ Ok tt
    → each_branch (is_file []) ts ≡ Ok tt
unfolding each_branch
branches_fit ps no_branches h = refl
branches_fit ps (branch t ts) h =
    let first = went_on (is_file ps t) _ tt h in
    rw (file_fits ps t first.1) (branches_fit ps ts first.2)

entries_fit : (row : Row) (spec : Spec) (fs : Fields) → entry_fields spec fs ≡ Ok tt
    → entry_fields (without_fields row.spec_id) fs ≡ Ok tt
unfolding entry_fields
entries_fit row spec fs h =
    let status = went_on (required is_whole (pos 0) fs) _ tt h in
    let snapshot = went_on (optional is_whole (pos 1) fs) _ tt status.2 in
    let sequence = went_on (optional is_whole (pos 3) fs) _ tt snapshot.2 in
    let file_sequence = went_on (optional is_whole (pos 4) fs) _ tt sequence.2 in
    let file = went_on (required is_record (pos 2) fs) _ tt file_sequence.2 in
    rw (status.1, snapshot.1, sequence.1, file_sequence.1, file.1)
    (branches_fit spec.fields (branches_in file.0) file.2)

-- ---- entries

abbrev bare_file : DataFile → DataFile
bare_file d = record {
  content = d.content;
  format = d.format;
  path = d.path;
  tuple = [];
  record_count = d.record_count;
  file_size = d.file_size;
  equality_ids = d.equality_ids;
  referenced = d.referenced;
}

-- a live entry, of whose file the partition values are not told
abbrev pub bare : Live → Live
bare l = record {
  entry = record {
    position = l.entry.position;
    spec_id = l.entry.spec_id;
    unpartitioned = true;
    snapshot_id = l.entry.snapshot_id;
    sequence_number = l.entry.sequence_number;
    file_sequence_number = l.entry.file_sequence_number;
    file = bare_file l.entry.file;
  };
  bounds = l.bounds;
}

says_file : (of_row : ManifestContent) (ps : List PartitionField) (x : Typed) (d : DataFile) (b : FileBounds)
    → SaysFile of_row ps x d b → SaysFile of_row [] x (bare_file d) b
unfolding tuple_at
says_file of_row ps x d b m = record {
  content = m.content;
  format = m.format;
  path = m.path;
  tuple = refl;
  record_count = m.record_count;
  file_size = m.file_size;
  value_counts = m.value_counts;
  null_counts = m.null_counts;
  lower_bounds = m.lower_bounds;
  upper_bounds = m.upper_bounds;
  equality_ids = m.equality_ids;
  referenced = m.referenced;
}

says_live : (row : Row) (spec : Spec) (k : ℕ) (x : Typed) (l : Live) → SaysLive row spec k x l
    → SaysLive row (without_fields row.spec_id) k x (bare l)
says_live row spec k x l m = record {
  status = m.status;
  inner = m.inner;
  status_is = m.status_is;
  lives = m.lives;
  position = m.position;
  spec_id = m.spec_id;
  partitions_nothing = refl;
  snapshot_id = m.snapshot_id;
  sequence_number = m.sequence_number;
  file_sequence_number = m.file_sequence_number;
  inner_is = m.inner_is;
  file = says_file row.content spec.fields m.inner l.entry.file l.bounds m.file;
}

says_entry : (row : Row) (spec : Spec) (k : ℕ) (x : Typed) (e : Option Live) → SaysEntry row spec k x e
    → SaysEntry row (without_fields row.spec_id) k x (option_map bare e)
says_entry row spec k x None h = h
says_entry row spec k x (Some l) h = says_live row spec k x l h

say_entries : (row : Row) (spec : Spec) (fs : Fields) (k : ℕ) (vs : List Value) (read : List (Option Live))
    → SayEntries row spec fs k vs read
    → SayEntries row (without_fields row.spec_id) fs k vs (map (option_map bare) read)
say_entries row spec fs k [] [] h = tt
say_entries row spec fs k [] (e ∷ read) h = absurd h
say_entries row spec fs k (v ∷ vs) [] h = absurd h
say_entries row spec fs k (v ∷ vs) (e ∷ read) h =
    (says_entry row spec k (structure fs, v) e h.0, say_entries row spec fs (k + 1) vs read h.1)

kept_bare : (read : List (Option Live)) → kept (map (option_map bare) read) ≡ map bare (kept read)
kept_bare [] = refl
kept_bare (None ∷ read) = kept_bare read
kept_bare (Some l ∷ read) = ap (λ (ls : List Live). bare l ∷ ls) (kept_bare read)

pub live_bare : (row : Row) (spec : Spec) (bytes : List ℕ) (found : List Live) → live_of row spec bytes ≡ Ok found
    → live_of row (without_fields row.spec_id) bytes ≡ Ok (map bare found)
live_bare row spec bytes found h =
    let (fs, vs, read, manifest, say, is) = (reads_entries_exactly row spec bytes found).0 h in
    (reads_entries_exactly row (without_fields row.spec_id) bytes (map bare found)).1 (
      fs,
      vs,
      map (option_map bare) read,
      (manifest.0, manifest.1, manifest.2, entries_fit row spec fs manifest.3),
      say_entries row spec fs 0 vs read say,
      ap (λ (ls : List Live). map bare ls) is ∙ sym (kept_bare read),
    )
