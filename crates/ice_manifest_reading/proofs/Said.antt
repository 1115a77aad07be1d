-- What objects say, and that reading them gives this and nothing else.
use Rattle.std.proofs.Common.{◌≡◌, ◌⊎◌, inl, inr, ℕ, ℤ, pos, ◌+◌, Bool, List, [], ◌∷◌, Option, Some, None, Result}
use Rattle.std.proofs.Common.{Ok, Err, refl, sym, ap, subst, ◌∙◌}
use Rattle.std.proofs.lemmas.Bool.{ne_eqb}
use Rattle.std.specs.Prelude.{unwrap_or}
use Rattle.std.specs.List.{enumerate_from}
use Rattle.contract_words.specs.Outcome.{◌>>=◌}
use Rattle.avro_schema.specs.Tree.{structure, Fields}
use Rattle.avro_file.specs.Value.{Value}
use Rattle.avro_file.specs.Picking.{Typed}
use Rattle.ice_value.specs.declared.file_bounds.Summary.{Summary}
use Rattle.ice_value.specs.declared.cell.Cell.{Cell}
use Rattle.ice_value.specs.Columns.{ColumnCount, ColumnBound}
use Rattle.ice_value.specs.declared.file_bounds.FileBounds.{FileBounds}
use Rattle.ice_meta.specs.declared.spec.PartitionField.{PartitionField}
use Rattle.ice_meta.specs.Partitioning.{is_unpartitioned}
use Rattle.ice_value.specs.declared.file_content.FileContent.{FileContent}
use Rattle.ice_value.specs.declared.file_format.FileFormat.{FileFormat}
use Rattle.ice_meta.specs.declared.spec.Spec.{Spec}
use Rattle.ice_manifest_fields.specs.declared.fault.ManifestFault.{ManifestFault}
use Rattle.ice_manifest_reading.specs.declared.counts.Counts.{Counts}
use Rattle.ice_manifest_reading.specs.declared.row.Row.{Row}
use Rattle.ice_manifest_reading.specs.declared.row.ManifestContent.{ManifestContent}
use Rattle.ice_manifest_reading.specs.declared.data_file.DataFile.{DataFile}
use Rattle.ice_manifest_reading.specs.declared.entry.Live.{Live}
use Rattle.ice_manifest_reading.specs.declared.status.Status.{Status}
use Rattle.ice_manifest_reading.specs.declared.status.Status.TheVariants.{Existing, Added, Deleted}
use Rattle.ice_manifest_fields.specs.Each.{each}
use Rattle.ice_manifest_fields.specs.Naming.{in_list, in_manifest, told}
use Rattle.ice_manifest_fields.specs.Fields.{at, there, long_at, int_at, number_or_zero, path_at, record_at, ints_at}
use Rattle.ice_manifest_reading.specs.Partitions.{tuple_at}
use Rattle.ice_manifest_fields.specs.ColumnMaps.{value_counts, null_value_counts, lower_bounds, upper_bounds}
use Rattle.ice_manifest_fields.specs.Maps as Maps
use Rattle.ice_manifest_fields.specs.Maps.{bounds_at, columns_of}
use Rattle.ice_manifest_reading.specs.Lists as Lists
use Rattle.ice_manifest_reading.specs.Lists.{row_of, counts_at, summaries_in, says_row}
use Rattle.ice_manifest_reading.specs.Manifests.{content_at, file_of, status_at, snapshot_at}
use Rattle.ice_manifest_reading.specs.Manifests.{sequence_at, file_sequence_at, live_at, unless_deleted, entry_of}
use Rattle.ice_manifest_reading.specs.Manifests.{format_at, referenced_at, says_entry}
use Rattle.ice_manifest_reading.specs.Laws.{SaysRow, SaysFile, SaysLive, SaysEntry, SayRows, SayEntries, KeepsItsNumber}
use Rattle.ice_manifest_reading.specs.Laws.{InheritsTheRows, NeedsItsOwn, HasZeroUnderZero, KeepsItsFileNumber}
use Rattle.ice_manifest_reading.specs.Laws.{InheritsTheRowsForItsFile, HasNoFileNumber, HasZeroForItsFile}
use Rattle.ice_manifest_reading.specs.Laws.{KeepsItsSnapshot, InheritsItsSnapshot}
use Rattle.ice_manifest_reading.proofs.Guards.{ok_is, went_on}
use Rattle.ice_manifest_fields.proofs.Joining.{told_ok}

-- ---- a row

abbrev row_made : List ℕ → ℤ → ℤ → ManifestContent → ℕ → ℕ → ℤ → Counts → Option (List Summary) → Row
row_made path length spec content sequence least snapshot counts partitions =
    record {
      path = path;
      length = length;
      spec_id = spec;
      content = content;
      sequence_number = sequence;
      min_sequence_number = least;
      added_snapshot_id = snapshot;
      counts = counts;
      partitions = partitions;
    }

pub row_said : (x : Typed) (r : Row) → row_of x ≡ Ok r → SaysRow x r
unfolding row_of
row_said x r h =
    let path = went_on (path_at (pos 500) x) _ r h in
    let length = went_on (long_at (pos 501) x) _ r path.2 in
    let spec = went_on (int_at (pos 502) x) _ r length.2 in
    let content = went_on (Lists.content_at x) _ r spec.2 in
    let sequence = went_on (number_or_zero (pos 515) x) _ r content.2 in
    let least = went_on (number_or_zero (pos 516) x) _ r sequence.2 in
    let snapshot = went_on (long_at (pos 503) x) _ r least.2 in
    let counts = went_on (counts_at x) _ r snapshot.2 in
    let partitions = went_on (summaries_in (there (at (pos 507) x))) _ r counts.2 in
    let is : row_made path.0 length.0 spec.0 content.0 sequence.0 least.0 snapshot.0 counts.0 partitions.0 ≡ r =
    ok_is _ r partitions.2 in
    record {
      path = path.1 ∙ ap (λ (s : Row). Ok s.path) is;
      length = length.1 ∙ ap (λ (s : Row). Ok s.length) is;
      spec_id = spec.1 ∙ ap (λ (s : Row). Ok s.spec_id) is;
      content = content.1 ∙ ap (λ (s : Row). Ok s.content) is;
      sequence_number = sequence.1 ∙ ap (λ (s : Row). Ok s.sequence_number) is;
      min_sequence_number = least.1 ∙ ap (λ (s : Row). Ok s.min_sequence_number) is;
      added_snapshot_id = snapshot.1 ∙ ap (λ (s : Row). Ok s.added_snapshot_id) is;
      counts = counts.1 ∙ ap (λ (s : Row). Ok s.counts) is;
      partitions = partitions.1 ∙ ap (λ (s : Row). Ok s.partitions) is;
    }

pub row_by : (x : Typed) (r : Row) → SaysRow x r → row_of x ≡ Ok r
unfolding row_of
row_by x r m = rw (
  m.path,
  m.length,
  m.spec_id,
  m.content,
  m.sequence_number,
  m.min_sequence_number,
  m.added_snapshot_id,
  m.counts,
  m.partitions,
) refl

-- ---- a data file

abbrev columns_made : List ColumnCount → List ColumnCount → List ColumnBound → List ColumnBound → FileBounds
columns_made values nulls lower upper = record {
  value_counts = values;
  null_counts = nulls;
  lower_bounds = lower;
  upper_bounds = upper;
}

-- what is said of the columns, map by map
record SaysColumns (x : Typed) (b : FileBounds) : Type 0 where
  value_counts : Maps.counts_at value_counts x ≡ Ok b.value_counts
  null_counts : Maps.counts_at null_value_counts x ≡ Ok b.null_counts
  lower_bounds : bounds_at lower_bounds x ≡ Ok b.lower_bounds
  upper_bounds : bounds_at upper_bounds x ≡ Ok b.upper_bounds

columns_said : (x : Typed) (b : FileBounds) → columns_of x ≡ Ok b → SaysColumns x b
unfolding columns_of
columns_said x b h =
    let values = went_on (Maps.counts_at value_counts x) _ b h in
    let nulls = went_on (Maps.counts_at null_value_counts x) _ b values.2 in
    let lower = went_on (bounds_at lower_bounds x) _ b nulls.2 in
    let upper = went_on (bounds_at upper_bounds x) _ b lower.2 in
    let is : columns_made values.0 nulls.0 lower.0 upper.0 ≡ b = ok_is _ b upper.2 in
    record {
      value_counts = values.1 ∙ ap (λ (f : FileBounds). Ok f.value_counts) is;
      null_counts = nulls.1 ∙ ap (λ (f : FileBounds). Ok f.null_counts) is;
      lower_bounds = lower.1 ∙ ap (λ (f : FileBounds). Ok f.lower_bounds) is;
      upper_bounds = upper.1 ∙ ap (λ (f : FileBounds). Ok f.upper_bounds) is;
    }

abbrev Said : Type 0
Said = DataFile × FileBounds

abbrev file_made :
    FileContent → Option FileFormat → List ℕ → List Cell → ℤ → ℤ → List ℤ → Option (List ℕ) → FileBounds → Said
file_made content format path tuple count size ids referenced columns = (
  record {
    content = content;
    format = format;
    path = path;
    tuple = tuple;
    record_count = count;
    file_size = size;
    equality_ids = ids;
    referenced = referenced;
  },
  columns,
)

file_said : (of_row : ManifestContent) (ps : List PartitionField) (x : Typed) (d : Said) → file_of of_row ps x ≡ Ok d
    → SaysFile of_row ps x d.0 d.1
unfolding file_of
file_said of_row ps x d h =
    let content = went_on (content_at of_row x) _ d h in
    let path = went_on (path_at (pos 100) x) _ d content.2 in
    let tuple = went_on (tuple_at ps x) _ d path.2 in
    let count = went_on (long_at (pos 103) x) _ d tuple.2 in
    let size = went_on (long_at (pos 104) x) _ d count.2 in
    let columns = went_on (columns_of x) _ d size.2 in
    let ids = went_on (ints_at (pos 135) (pos 136) x) _ d columns.2 in
    let referenced = went_on (referenced_at content.0 x) _ d ids.2 in
    let is : file_made content.0 (format_at x) path.0 tuple.0 count.0 size.0 ids.0 referenced.0 columns.0 ≡ d =
    ok_is _ d referenced.2 in
    let same : content.0 ≡ d.0.content = ap (λ (f : Said). f.0.content) is in
    let said = columns_said x d.1 (columns.1 ∙ ap (λ (f : Said). Ok f.1) is) in
    record {
      content = content.1 ∙ ap (λ (f : Said). Ok f.0.content) is;
      format = ap (λ (f : Said). f.0.format) is;
      path = path.1 ∙ ap (λ (f : Said). Ok f.0.path) is;
      tuple = tuple.1 ∙ ap (λ (f : Said). Ok f.0.tuple) is;
      record_count = count.1 ∙ ap (λ (f : Said). Ok f.0.record_count) is;
      file_size = size.1 ∙ ap (λ (f : Said). Ok f.0.file_size) is;
      value_counts = said.value_counts;
      null_counts = said.null_counts;
      lower_bounds = said.lower_bounds;
      upper_bounds = said.upper_bounds;
      equality_ids = ids.1 ∙ ap (λ (f : Said). Ok f.0.equality_ids) is;
      referenced = sym (ap (λ (c : FileContent). referenced_at c x) same) ∙ referenced.1 ∙ ap
          (λ (f : Said). Ok f.0.referenced) is;
    }

columns_by : (of_row : ManifestContent) (ps : List PartitionField) (x : Typed) (d : DataFile) (b : FileBounds)
    → SaysFile of_row ps x d b → columns_of x ≡ Ok b
unfolding columns_of
columns_by of_row ps x d b m = rw (m.value_counts, m.null_counts, m.lower_bounds, m.upper_bounds) refl

file_by : (of_row : ManifestContent) (ps : List PartitionField) (x : Typed) (d : DataFile) (b : FileBounds)
    → SaysFile of_row ps x d b → file_of of_row ps x ≡ Ok (d, b)
unfolding file_of
file_by of_row ps x d b m = rw (
  m.content,
  m.format,
  m.path,
  m.tuple,
  m.record_count,
  m.file_size,
  columns_by of_row ps x d b m,
  m.equality_ids,
  m.referenced,
) refl

-- what is said of the columns of a file that was read
pub columns_read : (of_row : ManifestContent) (ps : List PartitionField) (x : Typed) (d : DataFile) (b : FileBounds)
    → file_of of_row ps x ≡ Ok (d, b) → columns_of x ≡ Ok b
columns_read of_row ps x d b h = columns_by of_row ps x d b (file_said of_row ps x (d, b) h)

-- the number of its rows
pub count_read : (of_row : ManifestContent) (ps : List PartitionField) (x : Typed) (d : DataFile) (b : FileBounds)
    → file_of of_row ps x ≡ Ok (d, b) → long_at (pos 103) x ≡ Ok d.record_count
count_read of_row ps x d b h = (file_said of_row ps x (d, b) h).record_count

-- ---- an entry

abbrev pub live_made : Row → Spec → ℕ → Typed → ℕ → Option ℕ → DataFile × FileBounds → Live
live_made row spec k x sequence file_sequence said = record {
  entry = record {
    position = k;
    spec_id = row.spec_id;
    unpartitioned = is_unpartitioned spec;
    snapshot_id = snapshot_at row x;
    sequence_number = sequence;
    file_sequence_number = file_sequence;
    file = said.0;
  };
  bounds = said.1;
}

abbrev file_in : Live → Said
file_in l = (l.entry.file, l.bounds)

live_said : (row : Row) (spec : Spec) (k : ℕ) (status : Status) (x : Typed) (l : Live) → status_at x ≡ Ok status
    → (status ≡ Existing) ⊎ (status ≡ Added) → live_at row spec k status x ≡ Ok l → SaysLive row spec k x l
unfolding live_at
live_said row spec k status x l said lives h =
    let sequence = went_on (sequence_at row status x) _ l h in
    let file_sequence = went_on (told in_manifest (file_sequence_at row status x)) _ l sequence.2 in
    let inner = went_on (told in_manifest (record_at (pos 2) x)) _ l file_sequence.2 in
    let file = went_on (told in_manifest (file_of row.content spec.fields inner.0)) _ l inner.2 in
    let is : live_made row spec k x sequence.0 file_sequence.0 file.0 ≡ l = ok_is _ l file.2 in
    let file_is : file_of row.content spec.fields inner.0 ≡ Ok (file_in l) = told_ok in_manifest
    (file_of row.content spec.fields inner.0) file.0 file.1 ∙ ap (λ (m : Live). Ok (file_in m)) is in
    record {
      status = status;
      inner = inner.0;
      status_is = said;
      lives = lives;
      position = sym (ap (λ (m : Live). m.entry.position) is);
      spec_id = sym (ap (λ (m : Live). m.entry.spec_id) is);
      partitions_nothing = sym (ap (λ (m : Live). m.entry.unpartitioned) is);
      snapshot_id = sym (ap (λ (m : Live). m.entry.snapshot_id) is);
      sequence_number = sequence.1 ∙ ap (λ (m : Live). Ok m.entry.sequence_number) is;
      file_sequence_number = told_ok in_manifest (file_sequence_at row status x) file_sequence.0 file_sequence.1 ∙ ap
          (λ (m : Live). Ok m.entry.file_sequence_number) is;
      inner_is = told_ok in_manifest (record_at (pos 2) x) inner.0 inner.1;
      file = file_said row.content spec.fields inner.0 (file_in l) file_is;
    }

abbrev live_of_parts : ℕ → ℤ → Bool → ℤ → ℕ → Option ℕ → DataFile → FileBounds → Live
live_of_parts k spec unpartitioned snapshot sequence file_sequence file bounds = record {
  entry = record {
    position = k;
    spec_id = spec;
    unpartitioned = unpartitioned;
    snapshot_id = snapshot;
    sequence_number = sequence;
    file_sequence_number = file_sequence;
    file = file;
  };
  bounds = bounds;
}

same_parts : (row : Row) (spec : Spec) (k : ℕ) (x : Typed) (l : Live) → SaysLive row spec k x l
    → live_made row spec k x l.entry.sequence_number l.entry.file_sequence_number (file_in l) ≡ l
same_parts row spec k x l m =
    let one : k ≡ l.entry.position = sym m.position in
    let two : row.spec_id ≡ l.entry.spec_id = sym m.spec_id in
    let three : is_unpartitioned spec ≡ l.entry.unpartitioned = sym m.partitions_nothing in
    let four : snapshot_at row x ≡ l.entry.snapshot_id = sym m.snapshot_id in
    ap (λ (n : ℕ). live_of_parts n row.spec_id (is_unpartitioned spec) (snapshot_at row x) l.entry.sequence_number
    l.entry.file_sequence_number l.entry.file l.bounds) one
    ∙ ap (λ (n : ℤ). live_of_parts l.entry.position n (is_unpartitioned spec) (snapshot_at row x)
    l.entry.sequence_number l.entry.file_sequence_number l.entry.file l.bounds) two
    ∙ ap (λ (n : Bool). live_of_parts l.entry.position l.entry.spec_id n (snapshot_at row x) l.entry.sequence_number
    l.entry.file_sequence_number l.entry.file l.bounds) three
    ∙ ap (λ (n : ℤ). live_of_parts l.entry.position l.entry.spec_id l.entry.unpartitioned n l.entry.sequence_number
    l.entry.file_sequence_number l.entry.file l.bounds) four

live_by : (row : Row) (spec : Spec) (k : ℕ) (x : Typed) (l : Live) (m : SaysLive row spec k x l)
    → live_at row spec k m.status x ≡ Ok l
unfolding live_at
live_by row spec k x l m = rw (
  m.sequence_number,
  m.file_sequence_number,
  m.inner_is,
  file_by row.content spec.fields
      m.inner l.entry.file l.bounds m.file,
) (ap Ok (same_parts row spec k x l m))

some_live : (r : Result Live ManifestFault) (l : Live) → (r >>= λ m. Ok (Some m)) ≡ Ok (Some l) → r ≡ Ok l
some_live (Ok m) l h = cc
some_live (Err f) l h = absurd cc

none_live : (r : Result Live ManifestFault) → (r >>= λ m. Ok (Some m)) ≡ Ok None → ⊥
none_live (Ok m) h = cc
none_live (Err f) h = cc

said_by : (row : Row) (spec : Spec) (k : ℕ) (x : Typed) (status : Status) (e : Option Live) → status_at x ≡ Ok status
    → unless_deleted status (live_at row spec k status x) ≡ Ok e → SaysEntry row spec k x e
said_by row spec k x Deleted None said h = said
said_by row spec k x Deleted (Some l) said h = absurd cc
said_by row spec k x Existing None said h = absurd (none_live (live_at row spec k Existing x) h)
said_by row spec k x Existing (Some l) said h = live_said row spec k Existing x l said (inl refl)
    (some_live (live_at row spec k Existing x) l h)
said_by row spec k x Added None said h = absurd (none_live (live_at row spec k Added x) h)
said_by row spec k x Added (Some l) said h = live_said row spec k Added x l said (inr refl)
    (some_live (live_at row spec k Added x) l h)

pub entry_said : (row : Row) (spec : Spec) (k : ℕ) (x : Typed) (e : Option Live) → entry_of row spec k x ≡ Ok e
    → SaysEntry row spec k x e
unfolding entry_of
entry_said row spec k x e h =
    let status = went_on (status_at x) _ e h in
    said_by row spec k x status.0 e status.1 status.2

lives_on : (status : Status) (r : Result Live ManifestFault) (l : Live) → (status ≡ Existing) ⊎ (status ≡ Added)
    → r ≡ Ok l → unless_deleted status r ≡ Ok (Some l)
lives_on Existing r l lives is = rw is refl
lives_on Added r l lives is = rw is refl
lives_on Deleted r l (inl q) is = absurd cc
lives_on Deleted r l (inr q) is = absurd cc

pub entry_by : (row : Row) (spec : Spec) (k : ℕ) (x : Typed) (e : Option Live) → SaysEntry row spec k x e
    → entry_of row spec k x ≡ Ok e
unfolding entry_of
entry_by row spec k x None said = rw said refl
entry_by row spec k x (Some l) m = rw (m.status_is) (lives_on m.status (live_at row spec k m.status x) l m.lives
    (live_by row spec k x l m))

-- ---- all objects

pub rows_said : (fs : Fields) (vs : List Value) (rows : List Row) → each (says_row fs) vs ≡ Ok rows → SayRows fs vs rows
unfolding each
rows_said fs [] [] h = tt
rows_said fs [] (r ∷ rows) h = absurd cc
rows_said fs (v ∷ vs) rows h =
    let one = went_on (says_row fs v) _ rows h in
    let more = went_on (each (says_row fs) vs) _ rows one.2 in
    let is : one.0 ∷ more.0 ≡ rows = ok_is (one.0 ∷ more.0) rows more.2 in
    let P : List Row → Type 0 = λ rs. SayRows fs (v ∷ vs) rs in
    subst P is (
      row_said (structure fs, v) one.0 (told_ok in_list (row_of (structure fs, v)) one.0 one.1),
      rows_said fs
          vs more.0 more.1,
    )

pub rows_by : (fs : Fields) (vs : List Value) (rows : List Row) → SayRows fs vs rows → each (says_row fs) vs ≡ Ok rows
unfolding each
rows_by fs [] [] said = refl
rows_by fs [] (r ∷ rows) said = absurd said
rows_by fs (v ∷ vs) [] said = absurd said
rows_by fs (v ∷ vs) (r ∷ rows) said = rw (row_by (structure fs, v) r said.0, rows_by fs vs rows said.1) refl

pub entries_said : (row : Row) (spec : Spec) (fs : Fields) (k : ℕ) (vs : List Value) (read : List (Option Live))
    → each (says_entry row spec fs) (enumerate_from k vs) ≡ Ok read → SayEntries row spec fs k vs read
unfolding each
entries_said row spec fs k [] [] h = tt
entries_said row spec fs k [] (e ∷ read) h = absurd cc
entries_said row spec fs k (v ∷ vs) read h =
    let one = went_on (entry_of row spec k (structure fs, v)) _ read h in
    let more = went_on (each (says_entry row spec fs) (enumerate_from (k + 1) vs)) _ read one.2 in
    let is : one.0 ∷ more.0 ≡ read = ok_is (one.0 ∷ more.0) read more.2 in
    let P : List (Option Live) → Type 0 = λ es. SayEntries row spec fs k (v ∷ vs) es in
    subst P is (entry_said row spec k (structure fs, v) one.0 one.1, entries_said row spec fs (k + 1) vs more.0 more.1)

pub entries_by : (row : Row) (spec : Spec) (fs : Fields) (k : ℕ) (vs : List Value) (read : List (Option Live))
    → SayEntries row spec fs k vs read → each (says_entry row spec fs) (enumerate_from k vs) ≡ Ok read
unfolding each
entries_by row spec fs k [] [] said = refl
entries_by row spec fs k [] (e ∷ read) said = absurd said
entries_by row spec fs k (v ∷ vs) [] said = absurd said
entries_by row spec fs k (v ∷ vs) (e ∷ read) said = rw (
  entry_by row spec k (structure fs, v) e said.0,
  entries_by row
      spec fs (k + 1) vs read said.1,
) refl

-- ---- sequence numbers

pub keeps_its_number : KeepsItsNumber
unfolding sequence_at
keeps_its_number row status x m own = rw own refl

pub inherits_the_rows : InheritsTheRows
unfolding sequence_at
inherits_the_rows row x none = rw none refl

pub needs_its_own : NeedsItsOwn
unfolding sequence_at
needs_its_own row x none other = rw (none, ne_eqb row.sequence_number 0 other) refl

pub has_zero_under_zero : HasZeroUnderZero
unfolding sequence_at
has_zero_under_zero row x none zero = rw (none, zero) refl

pub keeps_its_file_number : KeepsItsFileNumber
unfolding file_sequence_at
keeps_its_file_number row status x m own = rw own refl

pub inherits_the_rows_for_its_file : InheritsTheRowsForItsFile
unfolding file_sequence_at
inherits_the_rows_for_its_file row x none = rw none refl

pub has_no_file_number : HasNoFileNumber
unfolding file_sequence_at
has_no_file_number row x none other = rw (none, ne_eqb row.sequence_number 0 other) refl

pub has_zero_for_its_file : HasZeroForItsFile
unfolding file_sequence_at
has_zero_for_its_file row x none zero = rw (none, zero) refl

-- ---- snapshots

pub keeps_its_snapshot : KeepsItsSnapshot
keeps_its_snapshot row x id own = ap (λ (o : Option ℤ). unwrap_or o row.added_snapshot_id) own

pub inherits_its_snapshot : InheritsItsSnapshot
inherits_its_snapshot row x none = ap (λ (o : Option ℤ). unwrap_or o row.added_snapshot_id) none
