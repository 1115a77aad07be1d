-- The entries of a manifest that was written are read again.
use Rattle.std.proofs.Common.{◌≡◌, ℕ, suc, ◌^◌, ℤ, pos, negsuc, Bool, true, false, ◌&&◌, List, []}
use Rattle.std.proofs.Common.{◌∷◌, length, map, Option, Some, None, Ok, inl, inr, refl, sym, ap, subst, ◌∙◌, arith}
use Rattle.std.proofs.Common.{add-one}
use Rattle.std.specs.Prelude.{nat_le, nat_lt, IfSome}
use Rattle.std.proofs.lemmas.Bool.{lt-ltb, le-leb}
use Rattle.std.proofs.lemmas.Bool.Decides.{Decides-int_eq}
use Rattle.std.specs.List.{AllByRecursion, IsDistinct}
use Rattle.std.specs.Ordering.{int_eq}
use Rattle.avro_schema.specs.Tree as tree_of
use Rattle.avro_schema.specs.Tree.{Tree, Fields, field, structure}
use Rattle.avro_schema.specs.declared.schema.ArrayKind.TheVariants as stands_for
use Rattle.avro_file.specs.Value.{Value, Values, small, text, fields, value, values_of}
use Rattle.avro_file.specs.Files.{opened_at, reader_of}
use Rattle.avro_file.specs.Picking.{Typed, pick}
use Rattle.ice_value.specs.Formats.{format_named}
use Rattle.ice_value.specs.declared.cell.Cell.{Cell}
use Rattle.ice_value.specs.declared.cell.Cell.TheVariants as cell
use Rattle.ice_value.specs.declared.column_type.ColumnType.{ColumnType}
use Rattle.ice_value.specs.declared.column_type.ColumnType.TheVariants as column
use Rattle.ice_value.specs.declared.file_bounds.FileBounds.{FileBounds}
use Rattle.ice_value.specs.declared.file_content.FileContent.{FileContent}
use Rattle.ice_value.specs.declared.file_content.FileContent.TheVariants as holds
use Rattle.ice_meta.specs.declared.spec.PartitionField.{PartitionField}
use Rattle.ice_manifest_reading.specs.declared.row.Row.{Row}
use Rattle.ice_manifest_reading.specs.declared.row.ManifestContent.{ManifestContent}
use Rattle.ice_manifest_reading.specs.declared.row.ManifestContent.TheVariants.{Data, Deletes}
use Rattle.ice_manifest_reading.specs.declared.entry.Entry.{Entry}
use Rattle.ice_manifest_reading.specs.declared.entry.Live.{Live}
use Rattle.ice_manifest_reading.specs.declared.status.Status.TheVariants.{Added}
use Rattle.ice_manifest.specs.declared.new_file.NewFile.{NewFile}
use Rattle.ice_manifest.specs.declared.heading.Heading.{Heading}
use Rattle.ice_manifest.specs.Adding.{IsId, IsHeading, IsNewFile, MayReference, is_null_or_of, is_tuple_of}
use Rattle.ice_manifest_fields.specs.Each.{each}
use Rattle.ice_manifest_fields.specs.Fields.{there, text_of, items_of, items_as, int_at, int_or_zero, path_at}
use Rattle.ice_manifest_fields.specs.Fields.{optional_number, optional_text, optional_path, int_item, ints_at}
use Rattle.ice_manifest_fields.specs.Fields.{within_32}
use Rattle.ice_manifest.specs.Fitting.{FileFits}
use Rattle.ice_manifest_reading.specs.Laws.{SaysFile, SaysLive, SayEntries, MayHold}
use Rattle.ice_manifest_reading.specs.Manifests.{content_of, content_at, referenced_at, status_at, sequence_at}
use Rattle.ice_manifest_reading.specs.Manifests.{file_sequence_at, entries_ahead, live_of, kept, entries, entries_of}
use Rattle.ice_manifest_fields.specs.Maps.{counts_at, bounds_at}
use Rattle.ice_manifest_reading.specs.Partitions.{cell_of, cells_of, tuple_at}
use Rattle.ice_manifest_fields.specs.Schemas as schemas
use Rattle.ice_manifest_fields.specs.Schemas.{fields_in, type_at, required, optional, each_branch}
use Rattle.ice_manifest_reading.specs.ManifestSchemas.{cells_fit, tuple_in}
use Rattle.ice_manifest_fields.specs.Schemas.{map_fits, pair_fields, ids_fit}
use Rattle.ice_manifest_reading.specs.ManifestSchemas.{file_fields, entry_fields}
use Rattle.ice_manifest_fields.specs.Kinds.{wanted}
use Rattle.ice_manifest_fields.specs.Types.{each_is, some_is, fits}
use Rattle.ice_manifest.specs.WrittenTypes.{null_or, written_tree, written_fields}
use Rattle.ice_manifest.specs.declared.partition_names.Naming.{Naming}
use Rattle.ice_manifest.specs.PartitionNames.{naming_of}
use Rattle.ice_manifest.specs.WrittenSchemas.{value_type, partition_fields, file_type, entry_type}
use Rattle.ice_manifest.specs.Writing.{manifest_type, new_entry, new_entries}
use Rattle.ice_manifest.specs.WrittenValues.{if_some, cell_value, tuple_values, file_content, ids_value, file_value}
use Rattle.ice_manifest.specs.WrittenValues.{entry_value}
use Rattle.ice_manifest_reading.proofs.Said.{entries_by}

both : (a b : Bool) → (a && b) ≡ true → (a ≡ true) × (b ≡ true)
both true true h = (refl, refl)
both true false h = absurd cc
both false b h = absurd cc

same_id : (id : ℤ) → int_eq id id ≡ true
same_id id = (Decides-int_eq id id).1 refl

-- ---- partition values

cell_again : (id : ℤ) (t : ColumnType) (c : Cell) → is_null_or_of t c ≡ true
    → cell_of (there (pick [] (null_or (written_tree (value_type id t)), cell_value t c))) ≡ c
cell_again id t cell.Null h = refl
cell_again id column.Boolean (cell.Bool b) h = refl
cell_again id column.Int (cell.Whole z) h = refl
cell_again id column.Date (cell.Whole z) h = refl
cell_again id column.Long (cell.Whole z) h = refl
cell_again id column.Time (cell.Whole z) h = refl
cell_again id column.Timestamp (cell.Whole z) h = refl
cell_again id column.Timestamptz (cell.Whole z) h = refl
cell_again id column.String (cell.Text s) h = refl
cell_again id column.Uuid (cell.Bytes bs) h = refl
cell_again id (column.Fixed size) (cell.Bytes bs) h = refl
cell_again id column.Binary (cell.Bytes bs) h = refl
cell_again id t c h = absurd cc

-- a field in front whose id is another's is passed over
passed_over : (id : ℤ) (t : Tree) (v : Value) (fs : Fields) (vs : Values) (ps : List PartitionField)
    → AllByRecursion (λ other. int_eq id other ≡ false) (map (λ (p : PartitionField). p.field_id) ps)
    → cells_of ps (structure (field (Some id) t fs), fields (value v vs)) ≡ cells_of ps (structure fs, fields vs)
passed_over id t v fs vs [] apart = refl
passed_over id t v fs vs (p ∷ ps) apart = rw (apart.0, passed_over id t v fs vs ps apart.1) refl

cells_again : (naming : Naming) (ps : List PartitionField) (ts : List ColumnType) (cs : List Cell)
    → length ts ≡ length ps → IsDistinct int_eq (map (λ (p : PartitionField). p.field_id) ps) → is_tuple_of ts cs ≡ true
    → cells_of ps (structure (written_fields (partition_fields naming ps ts)), fields (values_of (tuple_values ts cs)))
    ≡ cs
unfolding IsDistinct
cells_again naming [] [] [] e apart h = refl
cells_again naming [] [] (c ∷ cs) e apart h = absurd cc
cells_again naming [] (t ∷ ts) cs e apart h = absurd (omega (arith, e))
cells_again naming (p ∷ ps) [] cs e apart h = absurd (omega (arith, e))
cells_again naming (p ∷ ps) (t ∷ ts) [] e apart h = absurd cc
cells_again naming (p ∷ ps) (t ∷ ts) (c ∷ cs) e apart h =
    let parts = both (is_null_or_of t c) (is_tuple_of ts cs) h in
    let rest = passed_over p.field_id (null_or (written_tree (value_type p.field_id t))) (cell_value t c)
    (written_fields (partition_fields naming ps ts)) (values_of (tuple_values ts cs)) ps apart.0
    ∙ cells_again naming ps ts cs (omega (arith, e)) apart.1 parts.1 in
    rw (same_id p.field_id, cell_again p.field_id t c parts.0) (ap (λ (ds : List Cell). c ∷ ds) rest)

tuple_again : (naming : Naming) (ps : List PartitionField) (ts : List ColumnType) (f : NewFile) → length ts ≡ length ps
    → IsDistinct int_eq (map (λ (p : PartitionField). p.field_id) ps) → is_tuple_of ts f.tuple ≡ true
    → tuple_at ps (written_tree (file_type (partition_fields naming ps ts)), file_value ts f) ≡ Ok f.tuple
unfolding tuple_at
tuple_again naming [] [] f e apart h = ap Ok (no_cells f.tuple h) where
  no_cells : (cs : List Cell) → is_tuple_of [] cs ≡ true → [] ≡ cs
  no_cells [] h = refl
  no_cells (c ∷ cs) h = absurd cc
tuple_again naming [] (t ∷ ts) f e apart h = absurd (omega (arith, e))
tuple_again naming (p ∷ ps) ts f e apart h = ap Ok (cells_again naming (p ∷ ps) ts f.tuple e apart h)

-- ---- types of partition values

cell_type : (id : ℤ) (t : ColumnType) → schemas.is_cell id (written_tree (value_type id t)) ≡ Ok tt
cell_type id column.Boolean = refl
cell_type id column.Int = refl
cell_type id column.Long = refl
cell_type id column.Float = refl
cell_type id column.Double = refl
cell_type id column.Date = refl
cell_type id column.Time = refl
cell_type id column.Timestamp = refl
cell_type id column.Timestamptz = refl
cell_type id column.String = refl
cell_type id column.Uuid = refl
cell_type id (column.Fixed size) = refl
cell_type id column.Binary = refl
cell_type id (column.Decimal precision scale) = refl

types_over : (id : ℤ) (t : Tree) (fs : Fields) (ps : List PartitionField)
    → AllByRecursion (λ other. int_eq id other ≡ false) (map (λ (p : PartitionField). p.field_id) ps)
    → cells_fit ps (field (Some id) t fs) ≡ cells_fit ps fs
unfolding cells_fit type_at
types_over id t fs [] apart = refl
types_over id t fs (p ∷ ps) apart = rw (apart.0, types_over id t fs ps apart.1) refl

types_fit : (naming : Naming) (ps : List PartitionField) (ts : List ColumnType) → length ts ≡ length ps
    → IsDistinct int_eq (map (λ (p : PartitionField). p.field_id) ps)
    → cells_fit ps (written_fields (partition_fields naming ps ts)) ≡ Ok tt
unfolding cells_fit type_at each_branch IsDistinct
types_fit naming [] ts e apart = refl
types_fit naming (p ∷ ps) [] e apart = absurd (omega (arith, e))
types_fit naming (p ∷ ps) (t ∷ ts) e apart =
    let rest = types_over p.field_id (null_or (written_tree (value_type p.field_id t)))
    (written_fields (partition_fields naming ps ts)) ps apart.0 ∙ types_fit naming ps ts (omega (arith, e)) apart.1 in
    rw (same_id p.field_id, cell_type p.field_id t, rest) refl

file_fits : (naming : Naming) (ps : List PartitionField) (ts : List ColumnType) → length ts ≡ length ps
    → IsDistinct int_eq (map (λ (p : PartitionField). p.field_id) ps)
    → file_fields ps (fields_in (written_tree (file_type (partition_fields naming ps ts)))) ≡ Ok tt
unfolding file_fields tuple_in schemas.column_fields map_fits pair_fields ids_fit required optional type_at each_branch
    each_is some_is fits wanted
file_fits naming [] ts e apart = refl
file_fits naming (p ∷ ps) ts e apart = rw (types_fit naming (p ∷ ps) ts e apart) refl

entry_fits : (h : Heading) → IsHeading h → entry_fields h.spec (fields_in (written_tree (manifest_type h))) ≡ Ok tt
unfolding entry_type entry_fields required optional type_at each_branch each_is some_is fits
entry_fits h is = rw (file_fits (naming_of h.spec.fields) h.spec.fields h.types is.typed is.different) refl

-- ---- a data file

within : (id z : ℤ) → IsId z → within_32 id z ≡ Ok z
within id (pos n) h = let lt : nat_lt n (2 ^ 31) ≡ true = lt-ltb n (2 ^ 31) h in rw lt refl
within id (negsuc n) h = let lt : nat_lt n (2 ^ 31) ≡ true = lt-ltb n (2 ^ 31) h in rw lt refl

content_within : (id : ℤ) (content : FileContent) → within_32 id (file_content content) ≡ Ok (file_content content)
content_within id holds.Data = refl
content_within id holds.PositionDeletes = refl
content_within id holds.EqualityDeletes = refl

content_again : (of_row : ManifestContent) (content : FileContent) → MayHold of_row content
    → content_of of_row (file_content content) ≡ Ok content
content_again Data holds.Data h = refl
content_again Data holds.PositionDeletes h = absurd cc
content_again Data holds.EqualityDeletes h = absurd cc
content_again Deletes holds.Data h = absurd (neither_data h) where
  neither_data : MayHold Deletes holds.Data → ⊥
  neither_data (inl e) = cc
  neither_data (inr e) = cc
content_again Deletes holds.PositionDeletes h = refl
content_again Deletes holds.EqualityDeletes h = refl

each_id : (ids : List ℤ) → AllByRecursion IsId ids
    → each (int_item (pos 136)) (items_as tree_of.int (values_of (map small ids))) ≡ Ok ids
unfolding each int_item
each_id [] all = refl
each_id (id ∷ ids) all = rw (within (pos 136) id all.0, each_id ids all.1) refl

ids_again : (ids : List ℤ) → AllByRecursion IsId ids
    → each (int_item (pos 136)) (items_of (there
    (pick [] (null_or (tree_of.array tree_of.int (Some (pos 136)) stands_for.List), ids_value ids)))) ≡ Ok ids
unfolding each
ids_again [] all = refl
ids_again (id ∷ ids) all = each_id (id ∷ ids) all

text_again : (path : Option (List ℕ)) → text_of (there (pick [] (null_or tree_of.string, if_some text path))) ≡ path
text_again None = refl
text_again (Some s) = refl

positions_alone : (path : List ℕ) → MayReference holds.Data path → ⊥
positions_alone path may = no_data may.0 where
  no_data : holds.Data ≡ holds.PositionDeletes → ⊥
  no_data e = cc

no_equality : (path : List ℕ) → MayReference holds.EqualityDeletes path → ⊥
no_equality path may = no_ids may.0 where
  no_ids : holds.EqualityDeletes ≡ holds.PositionDeletes → ⊥
  no_ids e = cc

referenced_again : (content : FileContent) (x : Typed) (path : Option (List ℕ)) → optional_text (pos 143) x ≡ path
    → IfSome path (MayReference content) → referenced_at content x ≡ Ok path
unfolding referenced_at optional_path
referenced_again holds.PositionDeletes x None said may = rw said refl
referenced_again holds.PositionDeletes x (Some s) said may =
    let short : nat_le (length s) 65535 ≡ true = le-leb (length s) 65535 may.1 in
    rw (said, short) refl
referenced_again holds.Data x None said may = refl
referenced_again holds.Data x (Some s) said may = absurd (positions_alone s may)
referenced_again holds.EqualityDeletes x None said may = refl
referenced_again holds.EqualityDeletes x (Some s) said may = absurd (no_equality s may)

no_bounds : FileBounds
no_bounds = record { value_counts = []; null_counts = []; lower_bounds = []; upper_bounds = [] }

file_says : (of_row : ManifestContent) (h : Heading) (f : NewFile) → of_row ≡ h.content → IsHeading h → IsNewFile h f
    → FileFits f
    → SaysFile of_row h.spec.fields (
      written_tree (file_type (partition_fields (naming_of h.spec.fields) h.spec.fields h.types)),
      file_value
          h.types f,
    ) (record {
      content = f.content;
      format = format_named f.format;
      path = f.path;
      tuple = f.tuple;
      record_count = f.record_count;
      file_size = f.file_size;
      equality_ids = f.equality_ids;
      referenced = f.referenced;
    }) no_bounds
unfolding no_bounds path_at int_or_zero int_at type_at ints_at content_at counts_at bounds_at each
file_says of_row h f same heading new fit =
    let short : nat_le (length f.path) 65535 ≡ true = le-leb (length f.path) 65535 new.path in
    let may : MayHold of_row f.content = subst (λ (c : ManifestContent). MayHold c f.content) (sym same) new.content in
    record {
      content = rw (content_within (pos 134) f.content) (content_again of_row f.content may);
      format = refl;
      path = rw short refl;
      tuple = tuple_again (naming_of h.spec.fields) h.spec.fields h.types f heading.typed heading.different new.tuple;
      record_count = refl;
      file_size = refl;
      value_counts = refl;
      null_counts = refl;
      lower_bounds = refl;
      upper_bounds = refl;
      equality_ids = ids_again f.equality_ids fit.equality_ids;
      referenced = referenced_again f.content _ f.referenced (text_again f.referenced) new.referenced;
    }

-- ---- entries

abbrev new_live : Row → Heading → ℕ → NewFile → Live
new_live row h k f = record { entry = new_entry row h k f; bounds = no_bounds }

abbrev new_lives : Row → Heading → ℕ → List NewFile → List Live
new_lives row h k [] = []
new_lives row h k (f ∷ fs) = new_live row h k f ∷ new_lives row h (suc k) fs

live_says : (row : Row) (h : Heading) (k : ℕ) (f : NewFile) → row.content ≡ h.content → IsHeading h → IsNewFile h f
    → FileFits f → SaysLive row h.spec k (written_tree (manifest_type h), entry_value h f) (new_live row h k f)
unfolding entry_type entry_value status_at int_at sequence_at file_sequence_at optional_number
live_says row h k f same heading new fit = record {
  status = Added;
  inner = (
    written_tree (file_type (partition_fields (naming_of h.spec.fields) h.spec.fields h.types)),
    file_value h.types f,
  );
  status_is = refl;
  lives = inr refl;
  position = refl;
  spec_id = refl;
  partitions_nothing = refl;
  snapshot_id = refl;
  sequence_number = refl;
  file_sequence_number = refl;
  inner_is = refl;
  file = file_says row.content h f same heading new fit;
}

entries_say : (row : Row) (h : Heading) (k : ℕ) (fs : List NewFile) → row.content ≡ h.content → IsHeading h
    → AllByRecursion (IsNewFile h) fs → AllByRecursion FileFits fs
    → SayEntries row h.spec (fields_in (written_tree (manifest_type h))) k (map (entry_value h) fs)
    (map Some (new_lives row h k fs))
unfolding entry_type
entries_say row h k [] same heading new fit = tt
entries_say row h k (f ∷ fs) same heading new fit =
    (live_says row h k f same heading new.0 fit.0, rw add-one (entries_say row h (suc k) fs same heading new.1 fit.1))

all_kept : (ls : List Live) → kept (map Some ls) ≡ ls
all_kept [] = refl
all_kept (l ∷ ls) = ap (λ (ms : List Live). l ∷ ms) (all_kept ls)

their_entries : (row : Row) (h : Heading) (k : ℕ) (fs : List NewFile)
    → entries (new_lives row h k fs) ≡ new_entries row h k fs
their_entries row h k [] = refl
their_entries row h k (f ∷ fs) = ap (λ (es : List Entry). new_entry row h k f ∷ es) (their_entries row h (suc k) fs)

pub entries_again : (row : Row) (h : Heading) (fs : List NewFile) (bytes : List ℕ) → row.content ≡ h.content
    → opened_at bytes ≡ Ok (reader_of (written_tree (manifest_type h)) (map (entry_value h) fs)) → IsHeading h
    → AllByRecursion (IsNewFile h) fs → AllByRecursion FileFits fs
    → entries_of row h.spec bytes ≡ Ok (new_entries row h 0 fs)
unfolding entries_of live_of entries_ahead
entries_again row h fs bytes same opened heading new fit =
    let said = entries_by row h.spec (fields_in (written_tree (manifest_type h))) 0 (map (entry_value h) fs)
    (map Some (new_lives row h 0 fs)) (entries_say row h 0 fs same heading new fit) in
    rw (opened, entry_fits h heading, said, all_kept (new_lives row h 0 fs)) (ap Ok (their_entries row h 0 fs))
