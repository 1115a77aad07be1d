-- What a plan's JSON says of each file, in all its members.
use Rattle.std.proofs.Common.{◌≡◌, ℕ, zero, suc, ◌<◌, ℤ, pos, negsuc, List, [], ◌∷◌, ◌++◌, length, map}
use Rattle.std.proofs.Common.{Option, Some, None, option_map, option_and_then, refl, ap, ◌∙◌, arith, Bool, true, false}
use Rattle.std.specs.Prelude.{codes, if◌then◌else◌, nat_lt}
use Rattle.std.specs.List.{AllByRecursion, enumerate_from}
use Rattle.std.proofs.lemmas.Grind.{flat_map-append}
use Rattle.serde_json.specs.Data.{Data, string, array, object, Members, no_members}
use Rattle.serde_json.specs.Data.{member}
use Rattle.serde_json.specs.Find.{get_item}
use Rattle.serde_json.specs.View.{items_of}
use Rattle.ice_value.specs.declared.cell.Cell.{Cell}
use Rattle.ice_value.specs.declared.cell.Cell.TheVariants.{Null, Bool as Flag, Whole, Text, Bytes}
use Rattle.ice_value.specs.declared.column_type.ColumnType.{ColumnType}
use Rattle.ice_value.specs.declared.column_type.ColumnType.TheVariants as type
use Rattle.ice_value.specs.declared.file_content.FileContent.{FileContent}
use Rattle.ice_value.specs.declared.file_content.FileContent.TheVariants as content
use Rattle.ice_value.specs.declared.file_format.FileFormat.{FileFormat}
use Rattle.ice_value.specs.declared.file_format.FileFormat.TheVariants.{Avro, Orc, Parquet}
use Rattle.ice_value.specs.Formats.{format_named, format_name as name_of_format}
use Rattle.ice_manifest_reading.specs.declared.entry.Entry.{Entry}
use Rattle.ice_state.specs.Lines.{entry_at, entries_at, line_at, lines_at, AreWithin, IsLineWithin}
use Rattle.ice_state.specs.PlaceLists.{LinePlaces}
use Rattle.ice_state.specs.PlacedFiles.{PlanPlaces, ArePlaced, plan_of}
use Rattle.icescan_json.specs.declared.types.SpecTypes.{SpecTypes}
use Rattle.icescan_json.specs.Dates.{time_text}
use Rattle.icescan_json.specs.PlanJson.{content_name, member_if, file_members, format_name, kind_members, delete_json}
use Rattle.icescan_json.specs.PlanJson.{data_json, task_json, tasks_json, plan_json}
use Rattle.icescan_json.specs.Types.{types_of}
use Rattle.icescan_forms.specs.Objects.{count_json, number_json}
use Rattle.icescan_json.specs.Values.{time_json, whole_json, bytes_json, cell_json, cells_json, type_at}
use Rattle.icescan_json.specs.Told.{by_key, items_by_key, each_item}
use Rattle.icescan_json.specs.ToldWhole.{ToldFile, number_in, file_in, delete_in, task_in, told_whole}
use Rattle.icescan_json.specs.ToldWhole.{content_named, file_as, delete_of, task_of}
use Rattle.icescan_json.proofs.Tellings.{deletes_of, numbers_of, within_both, referred, task_file, task_residual}

-- ---- partition values have no objects, so that reading leaves them as they are

time_same : (z : ℤ) → by_key (time_json z) ≡ time_json z
time_same (negsuc n) = refl
time_same (pos n) = go (nat_lt n 86_400_000_000) where
  go : (b : Bool) → by_key (if b then string (time_text n) else number_json (pos n))
      ≡ (if b then string (time_text n) else number_json (pos n))
  go true = refl
  go false = refl

whole_same : (t : Option ColumnType) (z : ℤ) → by_key (whole_json t z) ≡ whole_json t z
whole_same None z = refl
whole_same (Some type.Boolean) z = refl
whole_same (Some type.Int) z = refl
whole_same (Some type.Long) z = refl
whole_same (Some type.Float) z = refl
whole_same (Some type.Double) z = refl
whole_same (Some type.Date) z = refl
whole_same (Some type.Time) z = time_same z
whole_same (Some type.Timestamp) z = refl
whole_same (Some type.Timestamptz) z = refl
whole_same (Some type.String) z = refl
whole_same (Some type.Uuid) z = refl
whole_same (Some (type.Fixed n)) z = refl
whole_same (Some type.Binary) z = refl
whole_same (Some (type.Decimal p s)) z = refl

bytes_same : (t : Option ColumnType) (bytes : List ℕ) → by_key (bytes_json t bytes) ≡ bytes_json t bytes
bytes_same None bytes = refl
bytes_same (Some type.Boolean) bytes = refl
bytes_same (Some type.Int) bytes = refl
bytes_same (Some type.Long) bytes = refl
bytes_same (Some type.Float) bytes = refl
bytes_same (Some type.Double) bytes = refl
bytes_same (Some type.Date) bytes = refl
bytes_same (Some type.Time) bytes = refl
bytes_same (Some type.Timestamp) bytes = refl
bytes_same (Some type.Timestamptz) bytes = refl
bytes_same (Some type.String) bytes = refl
bytes_same (Some type.Uuid) bytes = refl
bytes_same (Some (type.Fixed n)) bytes = refl
bytes_same (Some type.Binary) bytes = refl
bytes_same (Some (type.Decimal p s)) bytes = refl

cell_same : (t : Option ColumnType) (c : Cell) → by_key (cell_json t c) ≡ cell_json t c
unfolding cell_json
cell_same t Null = refl
cell_same t (Flag truth) = refl
cell_same t (Whole z) = whole_same t z
cell_same t (Text text) = refl
cell_same t (Bytes bytes) = bytes_same t bytes

each_same : {X : Type 0} (g : X → Data) → ((x : X) → by_key (g x) ≡ g x) → (xs : List X)
    → items_by_key (items_of (map g xs)) ≡ items_of (map g xs)
each_same g same [] = refl
each_same g same (x ∷ xs) = rw (same x, each_same g same xs) refl

pub cells_same : (types : List (Option ColumnType)) (cells : List Cell)
    → items_by_key (cells_json types cells) ≡ cells_json types cells
cells_same types cells =
    each_same (λ (p : ℕ × Cell). cell_json (type_at types p.0) p.1) (λ p. cell_same (type_at types p.0) p.1)
    (enumerate_from 0 cells)

-- ---- files

number_same : (z : ℤ) → number_in (number_json z) ≡ Some z
number_same (pos n) = refl
number_same (negsuc n) = refl

ids_same : (ids : List ℤ) → each_item number_in (items_by_key (items_of (map number_json ids))) ≡ Some ids
ids_same [] = refl
ids_same (id ∷ ids) = rw (number_same id, ids_same ids) refl

content_same : (c : FileContent) → content_named (content_name c) ≡ Some c
content_same content.Data = refl
content_same content.PositionDeletes = refl
content_same content.EqualityDeletes = refl

format_same : (format : Option FileFormat) → option_and_then format_named (option_map name_of_format format) ≡ format
unfolding format_named
format_same None = refl
format_same (Some Avro) = refl
format_same (Some Orc) = refl
format_same (Some Parquet) = refl

-- a file whose format has this name, if it has one
abbrev file_with : Option (List ℕ) → List SpecTypes → Entry → Members → Members
file_with format types x rest = member (codes "content") (string (content_name x.file.content))
    (member (codes "file-path") (string x.file.path)
    (member_if (codes "file-format") (option_map string format)
    (member (codes "spec-id") (number_json x.spec_id)
    (member (codes "partition") (array (cells_json (types_of types x.spec_id) x.file.tuple))
    (member (codes "file-size-in-bytes") (number_json x.file.file_size)
    (member (codes "record-count") (number_json x.file.record_count)
    (member (codes "sequence-number") (count_json x.sequence_number) rest)))))))

-- what is read of it, where these ids and this name are read of the rest
abbrev read_with : Option (List ℕ) → Option (List ℤ) → Option (List ℕ) → List SpecTypes → Entry → ToldFile
read_with format ids path types x = record {
  content = content_named (content_name x.file.content);
  path = Some x.file.path;
  format = option_and_then format_named format;
  spec_id = number_in (number_json x.spec_id);
  partition = items_by_key (cells_json (types_of types x.spec_id) x.file.tuple);
  file_size = number_in (number_json x.file.file_size);
  record_count = number_in (number_json x.file.record_count);
  sequence_number = Some (pos x.sequence_number);
  equality_ids = ids;
  referenced = path;
}

abbrev Reads : Option (List ℕ) → Option (List ℤ) → Option (List ℕ) → List SpecTypes → Entry → Members → Type 0
Reads format ids path types x rest =
    file_in (by_key (object (file_with format types x rest))) ≡ read_with format ids path types x

data_reads : (types : List SpecTypes) (x : Entry) (format : Option (List ℕ))
    → Reads format (Some []) None types x no_members
data_reads types x None = refl
data_reads types x (Some name) = refl

named_reads : (types : List SpecTypes) (x : Entry) (format path : Option (List ℕ))
    → Reads format (Some []) path types x (member_if (codes "referenced-data-file") (option_map string path) no_members)
named_reads types x None None = refl
named_reads types x None (Some path) = refl
named_reads types x (Some name) None = refl
named_reads types x (Some name) (Some path) = refl

ids_read : (types : List SpecTypes) (x : Entry) (format : Option (List ℕ))
    → Reads format (each_item number_in (items_by_key (items_of (map number_json x.file.equality_ids)))) None types x
    (kind_members x.file content.EqualityDeletes)
ids_read types x None = refl
ids_read types x (Some name) = refl

-- what is read is what the entry has
told_same : (format path : Option (List ℕ)) (ids : Option (List ℤ)) (types : List SpecTypes) (x : Entry)
    → read_with format ids path types x ≡ record {
      content = Some x.file.content;
      path = Some x.file.path;
      format = option_and_then format_named format;
      spec_id = Some x.spec_id;
      partition = cells_json (types_of types x.spec_id) x.file.tuple;
      file_size = Some x.file.file_size;
      record_count = Some x.file.record_count;
      sequence_number = Some (pos x.sequence_number);
      equality_ids = ids;
      referenced = path;
    }
told_same format path ids types x =
    rw (
      content_same x.file.content,
      number_same x.spec_id,
      cells_same (types_of types x.spec_id) x.file.tuple,
      number_same x.file.file_size,
      number_same x.file.record_count,
    ) refl

data_told : (types : List SpecTypes) (x : Entry) → file_in (by_key (data_json types x)) ≡ file_as content.Data types x
unfolding file_members
data_told types x =
    data_reads types x (format_name x) ∙ told_same (format_name x) None (Some []) types x
    ∙ rw (format_same x.file.format) refl

kind_told : (types : List SpecTypes) (x : Entry) (c : FileContent)
    → file_in (by_key (object (file_members types x (kind_members x.file c)))) ≡ file_as c types x
unfolding file_members
kind_told types x content.Data =
    data_reads types x (format_name x) ∙ told_same (format_name x) None (Some []) types x
    ∙ rw (format_same x.file.format) refl
kind_told types x content.EqualityDeletes =
    ids_read types x (format_name x) ∙ told_same (format_name x) None _ types x
    ∙ rw (ids_same x.file.equality_ids, format_same x.file.format) refl
kind_told types x content.PositionDeletes =
    named_reads types x (format_name x) x.file.referenced
    ∙ told_same (format_name x) x.file.referenced (Some []) types x ∙ rw (format_same x.file.format) refl

delete_told : (types : List SpecTypes) (x : Entry) → file_in (by_key (delete_json types x)) ≡ delete_of types x
delete_told types x = kind_told types x x.file.content

-- ---- references and tasks

named : (types : List SpecTypes) (ds : List Entry) (n : ℕ) → n < length ds → (d : Entry) × (entry_at ds n ≡ d ∷ [])
    × (option_map file_in (get_item n (deletes_of types ds)) ≡ Some (delete_of types d))
named types [] n l = absurd (omega arith)
named types (d ∷ ds) zero l = (d, refl, ap Some (delete_told types d))
named types (d ∷ ds) (suc n) l = named types ds n (omega arith)

all_named : (types : List SpecTypes) (ds : List Entry) (ns : List ℕ) → AreWithin (length ds) ns
    → each_item (delete_in (deletes_of types ds)) (numbers_of ns) ≡ Some (map (delete_of types) (entries_at ds ns))
all_named types ds [] h = refl
all_named types ds (n ∷ ns) h =
    let found = named types ds n h.0 in
    rw (found.2, all_named types ds ns h.1, found.1) refl

task_told : (types : List SpecTypes) (residual : Data) (ds : List Entry) (x : Entry) (places : LinePlaces)
    → IsLineWithin (length ds) places → task_in (deletes_of types ds) (by_key (task_json types residual x places))
    ≡ Some (task_of types residual (line_at ds x places))
task_told types residual ds x places within =
    rw (
      task_file types residual x places,
      referred types residual x places,
      task_residual types residual x places,
      data_told types x,
      all_named types ds (places.positions ++ places.equalities)
          (within_both (length ds) places.positions places.equalities within.0 within.1),
      flat_map-append,
    ) refl

tasks_told : (types : List SpecTypes) (residual : Data) (ds : List Entry) (xs : List Entry) (ps : List LinePlaces)
    → AllByRecursion (IsLineWithin (length ds)) ps
    → each_item (task_in (deletes_of types ds)) (items_by_key (items_of (tasks_json types residual xs ps)))
    ≡ Some (map (task_of types residual) (lines_at ds xs ps))
tasks_told types residual ds [] ps within = refl
tasks_told types residual ds (x ∷ xs) [] within = refl
tasks_told types residual ds (x ∷ xs) (p ∷ ps) within =
    rw (task_told types residual ds x p within.0, tasks_told types residual ds xs ps within.1) refl

pub whole_told : (types : List SpecTypes) (residual : Data) (p : PlanPlaces) → ArePlaced p
    → told_whole (by_key (plan_json types residual p)) ≡ Some (map (task_of types residual) (plan_of p))
whole_told types residual p placed = tasks_told types residual p.deletes p.files p.places placed.within
