-- An entry that is written has a spelling.
use Rattle.std.proofs.Common.{◌≡◌, ℕ, suc, ◌≤◌, ℤ, pos, Bool, true, false, ◌&&◌, List, [], ◌∷◌}
use Rattle.std.proofs.Common.{length, map, Option, Some, None, refl, ap, arith}
use Rattle.std.specs.List.{AllByRecursion}
use Rattle.std.proofs.lemmas.Bool.{ltb-true, eqb-true}
use Rattle.std.specs.Prelude.{negsuc, IfSome}
use Rattle.avro_schema.specs.Tree as tree_of
use Rattle.avro_schema.specs.declared.schema.BytesKind.TheVariants.{Plain}
use Rattle.avro_schema.specs.declared.schema.ArrayKind.TheVariants as stands_for
use Rattle.avro_file.specs.Value.{small, text, items, values_of}
use Rattle.avro_file.specs.Spelling.{item_count, item_counts}
use Rattle.avro_file.specs.Blocks.{max_items}
use Rattle.avro_file.specs.Holding.{AreWithinLimits}
use Rattle.avro_file.specs.Writers.{AreOf}
use Rattle.avro_file.proofs.Taken.{values_len-values_of}
use Rattle.ice_value.specs.declared.cell.Cell.{Cell}
use Rattle.ice_value.specs.declared.cell.Cell.TheVariants as cell
use Rattle.ice_value.specs.declared.column_type.ColumnType.{ColumnType}
use Rattle.ice_value.specs.declared.column_type.ColumnType.TheVariants as column
use Rattle.ice_value.specs.declared.file_content.FileContent.{FileContent}
use Rattle.ice_value.specs.declared.file_content.FileContent.TheVariants as holds
use Rattle.ice_value.specs.Bounds.{fits_int}
use Rattle.ice_meta.specs.Committing.{IsLong}
use Rattle.ice_meta.specs.declared.spec.PartitionField.{PartitionField}
use Rattle.ice_manifest.specs.declared.new_file.NewFile.{NewFile}
use Rattle.ice_manifest.specs.declared.heading.Heading.{Heading}
use Rattle.ice_manifest.specs.Adding.{IsId, IsHeading, IsNewFile, is_null_or_of, is_tuple_of}
use Rattle.ice_manifest.specs.Fitting.{IsText, CellFits, FileFits}
use Rattle.ice_manifest.specs.WrittenTypes.{null_or, written_tree, written_fields}
use Rattle.ice_manifest.specs.declared.partition_names.Naming.{Naming}
use Rattle.ice_manifest.specs.PartitionNames.{naming_of}
use Rattle.ice_manifest.specs.WrittenSchemas.{value_type, partition_fields, column_fields, file_type}
use Rattle.ice_manifest.specs.WrittenSchemas.{entry_type}
use Rattle.ice_manifest.specs.Writing.{manifest_type}
use Rattle.ice_manifest.specs.WrittenValues.{if_some, cell_value, tuple_values, file_content, ids_value}
use Rattle.ice_manifest.specs.WrittenValues.{column_values, file_value, entry_value}
use Rattle.ice_manifest.proofs.Typed.{HasSpelling, HasSpellings, a_long, an_int, a_truth, a_text, a_run, a_raw, a_null}
use Rattle.ice_manifest.proofs.Typed.{a_some, no_spelling, and_then, a_record, an_array}

both : (a b : Bool) → (a && b) ≡ true → (a ≡ true) × (b ≡ true)
both true true h = (refl, refl)
both true false h = absurd cc
both false b h = absurd cc

-- ---- partition values

small_id : (z : ℤ) → fits_int z ≡ true → IsId z
small_id (pos n) h = ltb-true n 0x8000_0000 h
small_id (negsuc n) h = ltb-true n 0x8000_0000 h

cell_spelled : (id : ℤ) (t : ColumnType) (c : Cell) → is_null_or_of t c ≡ true → CellFits c
    → HasSpelling (null_or (written_tree (value_type id t))) (cell_value t c)
cell_spelled id t cell.Null h fits = a_null _
cell_spelled id column.Boolean (cell.Bool b) h fits = a_some _ _ (a_truth b)
cell_spelled id column.Int (cell.Whole z) h fits = a_some _ _ (an_int z (small_id z h))
cell_spelled id column.Date (cell.Whole z) h fits = a_some _ _ (an_int z (small_id z h))
cell_spelled id column.Long (cell.Whole z) h fits = a_some _ _ (a_long z fits)
cell_spelled id column.Time (cell.Whole z) h fits = a_some _ _ (a_long z fits)
cell_spelled id column.Timestamp (cell.Whole z) h fits = a_some _ _ (a_long z fits)
cell_spelled id column.Timestamptz (cell.Whole z) h fits = a_some _ _ (a_long z fits)
cell_spelled id column.String (cell.Text s) h fits = a_some _ _ (a_text s fits)
cell_spelled id column.Uuid (cell.Bytes bs) h fits = a_some _ _ (a_raw 16 Plain bs (eqb-true _ _ h))
cell_spelled id (column.Fixed size) (cell.Bytes bs) h fits = a_some _ _ (a_raw size Plain bs (eqb-true _ _ h))
cell_spelled id column.Binary (cell.Bytes bs) h fits = a_some _ _ (a_run Plain bs fits)
cell_spelled id t c h fits = absurd cc

tuple_spelled : (naming : Naming) (ps : List PartitionField) (ts : List ColumnType) (cs : List Cell)
    → length ts ≡ length ps → is_tuple_of ts cs ≡ true → AllByRecursion CellFits cs
    → HasSpellings (written_fields (partition_fields naming ps ts)) (tuple_values ts cs)
tuple_spelled naming [] [] cs e h fits = no_spelling
tuple_spelled naming [] (t ∷ ts) cs e h fits = absurd (omega (arith, e))
tuple_spelled naming (p ∷ ps) [] cs e h fits = absurd (omega (arith, e))
tuple_spelled naming (p ∷ ps) (t ∷ ts) [] e h fits = absurd cc
tuple_spelled naming (p ∷ ps) (t ∷ ts) (c ∷ cs) e h fits =
    let parts = both (is_null_or_of t c) (is_tuple_of ts cs) h in
    and_then _ _ _ _ _ (cell_spelled p.field_id t c parts.0 fits.0)
    (tuple_spelled naming ps ts cs (omega (arith, e)) parts.1 fits.1)

-- ---- equality ids

each_id : (ids : List ℤ) → AllByRecursion IsId ids → AllByRecursion (HasSpelling tree_of.int) (map small ids)
each_id [] all = tt
each_id (id ∷ ids) all = (an_int id all.0, each_id ids all.1)

as_many : (ids : List ℤ) → length (map small ids) ≡ length ids
as_many [] = refl
as_many (id ∷ ids) = ap suc (as_many ids)

ids_spelled : (ids : List ℤ) → AllByRecursion IsId ids → length ids ≤ 1000
    → HasSpelling (null_or (tree_of.array tree_of.int (Some (pos 136)) stands_for.List)) (ids_value ids)
ids_spelled [] all few = a_null _
ids_spelled (id ∷ ids) all few =
    a_some _ (items (values_of (map small (id ∷ ids)))) (an_array tree_of.int (Some (pos 136)) stands_for.List
    (map small (id ∷ ids)) (omega (arith, few, as_many (id ∷ ids))) (each_id (id ∷ ids) all))

-- ---- a data file and its entry

path_spelled : (path : Option (List ℕ)) → IfSome path IsText
    → HasSpelling (null_or tree_of.string) (if_some text path)
path_spelled None fits = a_null _
path_spelled (Some s) fits = a_some _ _ (a_text s fits)

columns_spelled : (f : NewFile) → FileFits f → length f.equality_ids ≤ 1000
    → HasSpellings (written_fields column_fields) (column_values f)
columns_spelled f fits few =
    and_then _ _ _ _ _ (a_null _)
    (and_then _ _ _ _ _ (a_null _)
    (and_then _ _ _ _ _ (a_null _)
    (and_then _ _ _ _ _ (a_null _)
    (and_then _ _ _ _ _ (ids_spelled f.equality_ids fits.equality_ids few)
    (and_then _ _ _ _ _ (path_spelled f.referenced fits.referenced) no_spelling)))))

content_id : (content : FileContent) → IsId (file_content content)
content_id holds.Data = omega arith
content_id holds.PositionDeletes = omega arith
content_id holds.EqualityDeletes = omega arith

file_spelled : (h : Heading) (f : NewFile) → IsHeading h → IsNewFile h f → FileFits f
    → HasSpelling (written_tree (file_type (partition_fields (naming_of h.spec.fields) h.spec.fields h.types)))
    (file_value h.types f)
file_spelled h f heading new fits =
    a_record _ _
    (and_then _ _ _ _ _ (an_int (file_content f.content) (content_id f.content))
    (and_then _ _ _ _ _ (a_text f.path fits.path)
    (and_then _ _ _ _ _ (a_text f.format fits.format)
    (and_then _ _ _ _ _ (a_record _ _
    (tuple_spelled (naming_of h.spec.fields) h.spec.fields h.types f.tuple heading.typed new.tuple fits.tuple))
    (and_then _ _ _ _ _ (a_long f.record_count fits.record_count)
    (and_then _ _ _ _ _ (a_long f.file_size fits.file_size) (columns_spelled f fits new.equality_ids)))))))

entry_spelled : (h : Heading) (f : NewFile) → IsHeading h → IsNewFile h f → FileFits f → IsLong h.snapshot_id
    → HasSpelling (written_tree (manifest_type h)) (entry_value h f)
unfolding entry_type entry_value
entry_spelled h f heading new fits snapshot =
    a_record _ _
    (and_then _ _ _ _ _ (an_int (pos 1) (omega arith))
    (and_then _ _ _ _ _ (a_some _ _ (a_long h.snapshot_id snapshot))
    (and_then _ _ _ _ _ (a_null _)
    (and_then _ _ _ _ _ (a_null _)
    (and_then _ _ _ _ _ (file_spelled h f heading new fits) no_spelling)))))

-- ---- how many items it has

cell_items : (t : ColumnType) (c : Cell) → is_null_or_of t c ≡ true → item_count (cell_value t c) ≡ 0
cell_items t cell.Null h = refl
cell_items column.Boolean (cell.Bool b) h = refl
cell_items column.Int (cell.Whole z) h = refl
cell_items column.Date (cell.Whole z) h = refl
cell_items column.Long (cell.Whole z) h = refl
cell_items column.Time (cell.Whole z) h = refl
cell_items column.Timestamp (cell.Whole z) h = refl
cell_items column.Timestamptz (cell.Whole z) h = refl
cell_items column.String (cell.Text s) h = refl
cell_items column.Uuid (cell.Bytes bs) h = refl
cell_items (column.Fixed size) (cell.Bytes bs) h = refl
cell_items column.Binary (cell.Bytes bs) h = refl
cell_items t c h = absurd cc

tuple_items : (ts : List ColumnType) (cs : List Cell) → is_tuple_of ts cs ≡ true
    → item_counts (values_of (tuple_values ts cs)) ≡ 0
tuple_items [] cs h = refl
tuple_items (t ∷ ts) [] h = refl
tuple_items (t ∷ ts) (c ∷ cs) h =
    let parts = both (is_null_or_of t c) (is_tuple_of ts cs) h in
    omega (arith, cell_items t c parts.0, tuple_items ts cs parts.1)

no_inner : (ids : List ℤ) → item_counts (values_of (map small ids)) ≡ 0
no_inner [] = refl
no_inner (id ∷ ids) = omega (arith, no_inner ids)

ids_items : (ids : List ℤ) → length ids ≤ 1000 → item_count (ids_value ids) ≤ max_items
ids_items [] few = omega arith
ids_items (id ∷ ids) few = omega (
  arith,
  few,
  no_inner (id ∷ ids),
  values_len-values_of (map small (id ∷ ids)),
  as_many
      (id ∷ ids),
)

path_items : (path : Option (List ℕ)) → item_count (if_some text path) ≡ 0
path_items None = refl
path_items (Some s) = refl

few_items : (h : Heading) (f : NewFile) → IsNewFile h f → item_count (entry_value h f) ≤ max_items
unfolding entry_value
few_items h f new = omega (
  arith,
  tuple_items h.types f.tuple new.tuple,
  ids_items f.equality_ids new.equality_ids,
  path_items f.referenced,
)

pub entries_are_of : (h : Heading) (fs : List NewFile) → IsHeading h → AllByRecursion (IsNewFile h) fs
    → AllByRecursion FileFits fs → IsLong h.snapshot_id
    → AreOf (written_tree (manifest_type h)) (map (entry_value h) fs)
entries_are_of h [] heading new fits snapshot = tt
entries_are_of h (f ∷ fs) heading new fits snapshot =
    let s = entry_spelled h f heading new.0 fits.0 snapshot in
    ((s.bytes, s.spells), entries_are_of h fs heading new.1 fits.1 snapshot)

pub entries_within_limits : (h : Heading) (fs : List NewFile) → AllByRecursion (IsNewFile h) fs
    → AreWithinLimits (map (entry_value h) fs)
entries_within_limits h [] new = tt
entries_within_limits h (f ∷ fs) new = (few_items h f new.0, entries_within_limits h fs new.1)
