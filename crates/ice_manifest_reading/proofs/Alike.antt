-- Files whose objects say the same in the fields that are read give the same.
use Rattle.std.proofs.Common.{◌≡◌, ℕ, ℤ, pos, ◌+◌, List, [], ◌∷◌, Option, Some, None, Result, Ok, Err, refl, sym, ap}
use Rattle.std.proofs.Common.{◌∙◌, Bool, true, false, cond}
use Rattle.std.specs.Ordering.{int_eq}
use Rattle.std.proofs.lemmas.Bool.Decides.{Decides-int_eq}
use Rattle.std.specs.List.{enumerate_from}
use Rattle.contract_words.specs.Outcome.{◌>>=◌}
use Rattle.avro_schema.specs.Tree.{structure, Fields}
use Rattle.avro_file.specs.Value.{Value}
use Rattle.avro_file.specs.Picking.{Typed, pick}
use Rattle.ice_meta.specs.declared.spec.Spec.{Spec}
use Rattle.ice_meta.specs.declared.spec.PartitionField.{PartitionField}
use Rattle.ice_value.specs.declared.file_bounds.FileBounds.{FileBounds}
use Rattle.ice_value.specs.declared.file_content.FileContent.{FileContent}
use Rattle.ice_value.specs.declared.file_content.FileContent.TheVariants as holds
use Rattle.ice_manifest_fields.specs.declared.fault.FieldFault.{FieldFault}
use Rattle.ice_manifest_fields.specs.declared.fault.FieldFault.TheVariants.{BadContent}
use Rattle.ice_manifest_fields.specs.declared.fault.ManifestFault.{ManifestFault}
use Rattle.ice_manifest_reading.specs.declared.row.Row.{Row}
use Rattle.ice_manifest_reading.specs.declared.row.ManifestContent.{ManifestContent}
use Rattle.ice_manifest_reading.specs.declared.row.ManifestContent.TheVariants.{Data, Deletes}
use Rattle.ice_manifest_reading.specs.declared.data_file.DataFile.{DataFile}
use Rattle.ice_manifest_reading.specs.declared.entry.Live.{Live}
use Rattle.ice_manifest_reading.specs.declared.status.Status.{Status}
use Rattle.ice_manifest_fields.specs.Each.{each}
use Rattle.ice_manifest_fields.specs.Naming.{in_list, in_manifest, told, ended}
use Rattle.ice_manifest_fields.specs.Fields.{at, there, asked, record_of, items_of, int_at, path_at}
use Rattle.ice_manifest_fields.specs.Fields.{ints_at, int_or_zero, optional_int, optional_number, optional_text}
use Rattle.ice_manifest_fields.specs.Fields.{optional_path}
use Rattle.ice_manifest_reading.specs.Partitions.{cells_of, tuple_at}
use Rattle.ice_manifest_fields.specs.declared.columns.ColumnMap.{ColumnMap}
use Rattle.ice_manifest_fields.specs.ColumnMaps.{value_counts, null_value_counts, lower_bounds, upper_bounds}
use Rattle.ice_manifest_fields.specs.Maps as Maps
use Rattle.ice_manifest_fields.specs.Maps.{count_in, count_of, bound_in, bound_of, bounds_at, columns_of}
use Rattle.ice_manifest_reading.specs.Lists as Lists
use Rattle.ice_manifest_reading.specs.Lists.{counts_at, summary_in, summary_of, summaries_in, row_of, says_row, checked}
use Rattle.ice_manifest_reading.specs.Lists.{in_order}
use Rattle.ice_manifest_reading.specs.Manifests.{content_at, file_of, status_at, sequence_at, file_sequence_at, live_at}
use Rattle.ice_manifest_reading.specs.Manifests.{content_of, referenced_at, unless_deleted, entry_of, says_entry, kept}
use Rattle.ice_manifest_reading.specs.Same.{SameFile, SameCells, SameTuple, SameCount, SameBound, SameMap, BothSame}
use Rattle.ice_manifest_reading.specs.Same.{SameEntry, EachSame, SkipsOtherFieldsOfEntries, SameSummary, SameItems}
use Rattle.ice_manifest_reading.specs.Same.{SameList, SameRow, SkipsOtherFieldsOfRows}
use Rattle.ice_manifest_reading.proofs.Guards.{went_on}
use Rattle.ice_manifest_reading.proofs.Said.{live_made}
use Rattle.ice_manifest_reading.proofs.Told.{opened_list, opened_manifest}

-- ---- items of lists

item_alike : {A : Type 0} (Same : Typed → Typed → Type 0) (id : ℤ) (says : Typed → Result A FieldFault)
    → ((x y : Typed) → Same x y → says x ≡ says y) → (a b : Option Typed) → BothSame Same a b
    → (asked id a >>= says) ≡ (asked id b >>= says)
item_alike {A} Same id says alike None None s = refl
item_alike {A} Same id says alike (Some x) (Some y) s = alike x y s
item_alike {A} Same id says alike None (Some y) s = absurd s
item_alike {A} Same id says alike (Some x) None s = absurd s

-- item by item, where a null item lacks the field with this id
items_alike : {A : Type 0} (Same : Typed → Typed → Type 0) (id : ℤ) (says : Typed → Result A FieldFault)
    → ((x y : Typed) → Same x y → says x ≡ says y) → (xs ys : List Typed) → SameItems Same xs ys
    → each (λ y. asked id (record_of (there (pick [] y))) >>= says) xs ≡ each
    (λ y. asked id (record_of (there (pick [] y))) >>= says) ys
unfolding each
items_alike {A} Same id says alike [] [] s = refl
items_alike {A} Same id says alike [] (y ∷ ys) s = absurd s
items_alike {A} Same id says alike (x ∷ xs) [] s = absurd s
items_alike {A} Same id says alike (x ∷ xs) (y ∷ ys) s =
    rw (
      item_alike Same id says alike (record_of (there (pick [] x))) (record_of (there (pick [] y))) s.0,
      items_alike
          Same id says alike xs ys s.1,
    ) refl

-- ---- entries

-- a step that gives the same with what comes behind it
then_alike : {A B E : Type 0} (r : Result A E) (f g : A → Result B E) → ((a : A) → f a ≡ g a) → (r >>= f) ≡ (r >>= g)
then_alike {A} {B} {E} (Ok a) f g h = h a
then_alike {A} {B} {E} (Err e) f g h = refl

count_alike : (m : ColumnMap) (x y : Typed) → SameCount m x y → count_in m x ≡ count_in m y
unfolding count_in int_at
count_alike m x y s = rw (s.0, s.1) refl

counts_alike : (m : ColumnMap) (x y : Typed) → SameMap SameCount m x y → Maps.counts_at m x ≡ Maps.counts_at m y
unfolding Maps.counts_at count_of
counts_alike m x y s = items_alike (SameCount m) m.key (count_in m) (count_alike m) (items_of (there (at m.id x)))
    (items_of (there (at m.id y))) s

bound_alike : (m : ColumnMap) (x y : Typed) → SameBound m x y → bound_in m x ≡ bound_in m y
unfolding bound_in int_at
bound_alike m x y s = rw (s.0, s.1) refl

bounds_alike : (m : ColumnMap) (x y : Typed) → SameMap SameBound m x y → bounds_at m x ≡ bounds_at m y
unfolding bounds_at bound_of
bounds_alike m x y s = items_alike (SameBound m) m.key (bound_in m) (bound_alike m) (items_of (there (at m.id x)))
    (items_of (there (at m.id y))) s

columns_alike : (ps : List PartitionField) (x y : Typed) → SameFile ps x y → columns_of x ≡ columns_of y
unfolding columns_of
columns_alike ps x y s =
    rw (
      counts_alike value_counts x y s.value_counts,
      counts_alike null_value_counts x y s.null_counts,
      bounds_alike
          lower_bounds x y s.lower_bounds,
      bounds_alike upper_bounds x y s.upper_bounds,
    ) refl

-- the same, of what the step gives
then_alike_at : {A B E : Type 0} (r : Result A E) (f g : A → Result B E) → ((a : A) → r ≡ Ok a → f a ≡ g a)
    → (r >>= f) ≡ (r >>= g)
then_alike_at {A} {B} {E} (Ok a) f g h = h a refl
then_alike_at {A} {B} {E} (Err e) f g h = refl

content_alike : (of_row : ManifestContent) (ps : List PartitionField) (x y : Typed) → SameFile ps x y
    → content_at of_row x ≡ content_at of_row y
unfolding content_at
content_alike of_row ps x y s = rw (s.content) refl

abbrev held : FileContent → Result FileContent FieldFault
held c = Ok c

no_positions : (b : Bool) → cond b (held holds.Data) (Err BadContent) ≡ held holds.PositionDeletes → ⊥
no_positions true h = cc
no_positions false h = cc

one_positions : (z : ℤ) (b c : Bool) → int_eq z (pos 1) ≡ b
    → cond b (held holds.PositionDeletes) (cond c (held holds.EqualityDeletes) (Err BadContent))
    ≡ held holds.PositionDeletes → z ≡ pos 1
one_positions z true c one h = (Decides-int_eq z (pos 1)).0 one
one_positions z false true one h = absurd cc
one_positions z false false one h = absurd cc

-- only 1 says position deletes
code_is_one : (of_row : ManifestContent) (z : ℤ) → content_of of_row z ≡ Ok holds.PositionDeletes → z ≡ pos 1
code_is_one Data z h = absurd (no_positions (int_eq z (pos 0)) h)
code_is_one Deletes z h = one_positions z (int_eq z (pos 1)) (int_eq z (pos 2)) refl h

told_positions : (of_row : ManifestContent) (x : Typed) → content_at of_row x ≡ Ok holds.PositionDeletes
    → int_or_zero (pos 134) x ≡ Ok (pos 1)
unfolding content_at
told_positions of_row x h =
    let code = went_on (int_or_zero (pos 134) x) (content_of of_row) holds.PositionDeletes h in
    code.1 ∙ ap Ok (code_is_one of_row code.0 code.2)

referenced_alike : (content : FileContent) (x y : Typed)
    → (content ≡ holds.PositionDeletes → optional_text (pos 143) x ≡ optional_text (pos 143) y)
    → referenced_at content x ≡ referenced_at content y
unfolding referenced_at optional_path
referenced_alike holds.Data x y same = refl
referenced_alike holds.PositionDeletes x y same = rw (same refl) refl
referenced_alike holds.EqualityDeletes x y same = refl

cells_alike : (ps : List PartitionField) (x y : Typed) → SameCells ps x y → cells_of ps x ≡ cells_of ps y
cells_alike [] x y s = refl
cells_alike (p ∷ ps) x y s = rw (s.0, cells_alike ps x y s.1) refl

record_alike : (ps : List PartitionField) (a b : Option Typed) → BothSame (SameCells ps) a b
    → (asked (pos 102) a >>= λ z. Ok (cells_of ps z)) ≡ (asked (pos 102) b >>= λ z. Ok (cells_of ps z))
record_alike ps None None s = refl
record_alike ps (Some x) (Some y) s = ap Ok (cells_alike ps x y s)
record_alike ps None (Some y) s = absurd s
record_alike ps (Some x) None s = absurd s

tuple_alike : (ps : List PartitionField) (x y : Typed) → SameTuple ps x y → tuple_at ps x ≡ tuple_at ps y
unfolding tuple_at
tuple_alike [] x y s = refl
tuple_alike (p ∷ ps) x y s = record_alike (p ∷ ps) (record_of (there (at (pos 102) x)))
    (record_of (there (at (pos 102) y))) s

file_alike : (of_row : ManifestContent) (ps : List PartitionField) (x y : Typed) → SameFile ps x y
    → file_of of_row ps x ≡ file_of of_row ps y
unfolding file_of path_at ints_at
file_alike of_row ps x y s =
    rw (content_alike of_row ps x y s)
    (then_alike_at (content_at of_row y) _ _ (λ content is.
    rw (
      s.format,
      s.path,
      tuple_alike ps x y s.tuple,
      s.record_count,
      s.file_size,
      columns_alike ps x y s,
      s.equality_ids,
      referenced_alike content x y (λ deletes. s.referenced
          (told_positions of_row x (content_alike of_row ps x y s ∙ is ∙ ap Ok deletes))),
    ) refl))

inner_alike : (of_row : ManifestContent) (ps : List PartitionField) (a b : Option Typed) (made : DataFile × FileBounds
    → Live) → BothSame (SameFile ps) a b
    → (told in_manifest (asked (pos 2) a) >>= λ x. told in_manifest (file_of of_row ps x) >>= λ file. Ok (made file))
    ≡ (told in_manifest (asked (pos 2) b) >>= λ x. told in_manifest (file_of of_row ps x) >>= λ file. Ok
    (made file))
inner_alike of_row ps None None made s = refl
inner_alike of_row ps (Some x) (Some y) made s = rw (file_alike of_row ps x y s) refl
inner_alike of_row ps None (Some y) made s = absurd s
inner_alike of_row ps (Some x) None made s = absurd s

sequence_alike : (row : Row) (spec : Spec) (status : Status) (x y : Typed) → SameEntry spec.fields x y
    → sequence_at row status x ≡ sequence_at row status y
unfolding sequence_at optional_number
sequence_alike row spec status x y s = rw (s.sequence_number) refl

file_sequence_alike : (row : Row) (spec : Spec) (status : Status) (x y : Typed) → SameEntry spec.fields x y
    → file_sequence_at row status x ≡ file_sequence_at row status y
unfolding file_sequence_at optional_number
file_sequence_alike row spec status x y s = rw (s.file_sequence_number) refl

live_alike : (row : Row) (spec : Spec) (k : ℕ) (status : Status) (x y : Typed) → SameEntry spec.fields x y
    → live_at row spec k status x ≡ live_at row spec k status y
unfolding live_at
live_alike row spec k status x y s =
    rw (sequence_alike row spec status x y s, file_sequence_alike row spec status x y s, s.snapshot_id)
    (then_alike (sequence_at row status y) _ _
    (λ sequence. then_alike (told in_manifest (file_sequence_at row status y)) _ _ (λ file_sequence.
    inner_alike row.content spec.fields (record_of (there (at (pos 2) x))) (record_of (there (at (pos 2) y)))
    (λ file. live_made row spec k y sequence file_sequence file) s.file)))

status_alike : (spec : Spec) (x y : Typed) → SameEntry spec.fields x y → status_at x ≡ status_at y
unfolding status_at int_at
status_alike spec x y s = rw (s.status) refl

status_then : (row : Row) (spec : Spec) (k : ℕ) (x y : Typed) → SameEntry spec.fields x y
    → (a b : Result Status ManifestFault) → a ≡ b
    → (a >>= λ status. unless_deleted status (live_at row spec k status x)) ≡ (b >>= λ status. unless_deleted status
    (live_at row spec k status y))
status_then row spec k x y s (Ok status) b e = rw (sym e) (ap (unless_deleted status) (live_alike row spec k status x y
    s))
status_then row spec k x y s (Err f) b e = rw (sym e) refl

entry_alike : (row : Row) (spec : Spec) (k : ℕ) (x y : Typed) → SameEntry spec.fields x y
    → entry_of row spec k x ≡ entry_of row spec k y
unfolding entry_of
entry_alike row spec k x y s = status_then row spec k x y s (status_at x) (status_at y) (status_alike spec x y s)

entries_alike : (row : Row) (spec : Spec) (fs gs : Fields) (k : ℕ) (vs ws : List Value)
    → EachSame (SameEntry spec.fields) fs gs vs ws → each (says_entry row spec fs) (enumerate_from k vs) ≡ each
    (says_entry row spec gs) (enumerate_from k ws)
unfolding each
entries_alike row spec fs gs k [] [] s = refl
entries_alike row spec fs gs k [] (w ∷ ws) s = absurd s
entries_alike row spec fs gs k (v ∷ vs) [] s = absurd s
entries_alike row spec fs gs k (v ∷ vs) (w ∷ ws) s = rw (
  entry_alike row spec k (structure fs, v) (structure gs, w) s.0,
  entries_alike row spec fs gs (k + 1) vs ws s.1,
) refl

pub skips_other_fields_of_entries : SkipsOtherFieldsOfEntries
skips_other_fields_of_entries row spec bytes other fs gs vs ws ending a b s =
    opened_manifest row spec bytes fs vs ending a ∙ ap (λ r. r >>= λ read. ended in_manifest ending (kept read))
    (entries_alike row spec fs gs 0 vs ws s) ∙ sym (opened_manifest row spec other gs ws ending b)

-- ---- rows

summary_alike : (x y : Typed) → SameSummary x y → summary_in x ≡ summary_in y
unfolding summary_in
summary_alike x y s = rw (s.contains_null, s.contains_nan, s.lower, s.upper) refl

summaries_alike : (xs ys : List Typed) → SameItems SameSummary xs ys → each summary_of xs ≡ each summary_of ys
unfolding summary_of
summaries_alike xs ys s = items_alike SameSummary (pos 508) summary_in summary_alike xs ys s

partitions_alike : (a b : Option Typed) → BothSame SameList a b → summaries_in a ≡ summaries_in b
partitions_alike None None s = refl
partitions_alike (Some x) (Some y) s = rw (summaries_alike (items_of (Some x)) (items_of (Some y)) s) refl
partitions_alike None (Some y) s = absurd s
partitions_alike (Some x) None s = absurd s

row_alike : (x y : Typed) → SameRow x y → row_of x ≡ row_of y
unfolding row_of path_at int_at Lists.content_at counts_at optional_int
row_alike x y s =
    rw (
      s.path,
      s.length,
      s.spec_id,
      s.content,
      s.sequence_number,
      s.min_sequence_number,
      s.added_snapshot_id,
      s.added_files,
      s.existing_files,
      s.deleted_files,
      s.added_rows,
      s.existing_rows,
      s.deleted_rows,
      partitions_alike (there (at (pos 507) x)) (there (at (pos 507) y)) s.partitions,
    ) refl

rows_alike : (fs gs : Fields) (vs ws : List Value) → EachSame SameRow fs gs vs ws
    → each (says_row fs) vs ≡ each (says_row gs) ws
unfolding each
rows_alike fs gs [] [] s = refl
rows_alike fs gs [] (w ∷ ws) s = absurd s
rows_alike fs gs (v ∷ vs) [] s = absurd s
rows_alike fs gs (v ∷ vs) (w ∷ ws) s = rw (
  row_alike (structure fs, v) (structure gs, w) s.0,
  rows_alike fs gs vs ws
      s.1,
) refl

pub skips_other_fields_of_rows : SkipsOtherFieldsOfRows
skips_other_fields_of_rows bytes other fs gs vs ws ending a b s =
    opened_list bytes fs vs ending a ∙ ap (λ r. (r >>= ended in_list ending) >>= λ rows. checked (in_order rows))
    (rows_alike fs gs vs ws s) ∙ sym (opened_list other gs ws ending b)
