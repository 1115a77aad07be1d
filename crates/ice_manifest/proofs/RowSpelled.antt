-- A row that is written has a spelling.
use Rattle.std.proofs.Common.{◌≡◌, suc, ◌≤◌, ℤ, pos, Bool, List, [], ◌∷◌, length, map, Option, Some}
use Rattle.std.proofs.Common.{None, refl, ap, arith}
use Rattle.std.specs.Prelude.{IfSome}
use Rattle.std.specs.List.{AllByRecursion}
use Rattle.avro_schema.specs.Tree as tree_of
use Rattle.avro_schema.specs.declared.schema.BytesKind.TheVariants.{Plain}
use Rattle.avro_schema.specs.declared.schema.ArrayKind.TheVariants as stands_for
use Rattle.avro_file.specs.Value.{Value, truth, small, whole, run, values_of}
use Rattle.avro_file.specs.Spelling.{item_count, item_counts}
use Rattle.avro_file.specs.Blocks.{max_items}
use Rattle.avro_file.specs.Writers.{IsOf}
use Rattle.ice_value.specs.declared.file_bounds.Summary.{Summary}
use Rattle.ice_meta.specs.Committing.{IsLong}
use Rattle.ice_manifest_reading.specs.declared.row.Row.{Row}
use Rattle.ice_manifest_reading.specs.declared.row.ManifestContent.{ManifestContent}
use Rattle.ice_manifest_reading.specs.declared.row.ManifestContent.TheVariants.{Data, Deletes}
use Rattle.ice_manifest.specs.Adding.{IsId}
use Rattle.ice_manifest.specs.Fitting.{IsShort, SummaryFits, CountsFit, RowFits, IsReadable}
use Rattle.ice_manifest.specs.WrittenTypes.{null_or, written_tree, written_fields}
use Rattle.ice_manifest.specs.WrittenSchemas.{summary_type, count_fields, list_type}
use Rattle.ice_manifest.specs.WrittenValues.{if_some, summary_value, summaries_value, row_content, count_values}
use Rattle.ice_manifest.specs.WrittenValues.{row_value}
use Rattle.ice_manifest.proofs.Typed.{HasSpelling, HasSpellings, a_long, an_int, a_truth, a_text, a_run, a_null, a_some}
use Rattle.ice_manifest.proofs.Typed.{an_option, no_spelling, and_then, a_record, an_array}
use Rattle.avro_file.proofs.Taken.{values_len-values_of}

option_truth : (o : Option Bool) → IfSome o (λ b. Unit {0})
option_truth None = tt
option_truth (Some b) = tt

summary_spelled : (s : Summary) → SummaryFits s → HasSpelling (written_tree summary_type) (summary_value s)
summary_spelled s h =
    a_record _ _
    (and_then _ _ _ _ _ (a_truth s.contains_null)
    (and_then _ _ _ _ _ (an_option tree_of.boolean truth (λ b. Unit {0}) s.contains_nan (λ b k. a_truth b)
    (option_truth s.contains_nan))
    (and_then _ _ _ _ _ (an_option (tree_of.octets Plain) run IsShort s.lower (λ bs k. a_run Plain bs k) h.lower)
    (and_then _ _ _ _ _ (an_option (tree_of.octets Plain) run IsShort s.upper (λ bs k. a_run Plain bs k) h.upper)
    no_spelling))))

summaries_spelled : (ss : List Summary) → AllByRecursion SummaryFits ss
    → AllByRecursion (HasSpelling (written_tree summary_type)) (map summary_value ss)
summaries_spelled [] all = tt
summaries_spelled (s ∷ ss) all = (summary_spelled s all.0, summaries_spelled ss all.1)

as_many : (ss : List Summary) → length (map summary_value ss) ≡ length ss
as_many [] = refl
as_many (s ∷ ss) = ap suc (as_many ss)

partitions_spelled : (o : Option (List Summary)) → IfSome o (AllByRecursion SummaryFits)
    → IfSome o (λ ss. length ss ≤ max_items)
    → HasSpelling (null_or (tree_of.array (written_tree summary_type) (Some (pos 508)) stands_for.List))
    (if_some summaries_value o)
partitions_spelled None fits few = a_null _
partitions_spelled (Some ss) fits few =
    a_some _ (summaries_value ss) (an_array (written_tree summary_type) (Some (pos 508)) stands_for.List
    (map summary_value ss) (omega (arith, few, as_many ss)) (summaries_spelled ss fits))

optional_int : (o : Option ℤ) → IfSome o IsId → HasSpelling (null_or tree_of.int) (if_some small o)
optional_int o h = an_option tree_of.int small IsId o an_int h

optional_long : (o : Option ℤ) → IfSome o IsLong → HasSpelling (null_or tree_of.long) (if_some whole o)
optional_long o h = an_option tree_of.long whole IsLong o a_long h

counts_spelled : (r : Row) → CountsFit r.counts → IfSome r.partitions (AllByRecursion SummaryFits)
    → IfSome r.partitions (λ ss. length ss ≤ max_items) → HasSpellings (written_fields count_fields) (count_values r)
counts_spelled r h fits few =
    and_then _ _ _ _ _ (optional_int r.counts.added_files h.added_files)
    (and_then _ _ _ _ _ (optional_int r.counts.existing_files h.existing_files)
    (and_then _ _ _ _ _ (optional_int r.counts.deleted_files h.deleted_files)
    (and_then _ _ _ _ _ (optional_long r.counts.added_rows h.added_rows)
    (and_then _ _ _ _ _ (optional_long r.counts.existing_rows h.existing_rows)
    (and_then _ _ _ _ _ (optional_long r.counts.deleted_rows h.deleted_rows)
    (and_then _ _ _ _ _ (partitions_spelled r.partitions fits few) no_spelling))))))

content_id : (c : ManifestContent) → IsId (row_content c)
content_id Data = omega arith
content_id Deletes = omega arith

row_spelled : (r : Row) → RowFits r → IsReadable r → HasSpelling (written_tree list_type) (row_value r)
unfolding list_type row_value
row_spelled r h few =
    a_record _ _
    (and_then _ _ _ _ _ (a_text r.path h.path)
    (and_then _ _ _ _ _ (a_long r.length h.length)
    (and_then _ _ _ _ _ (an_int r.spec_id h.spec_id)
    (and_then _ _ _ _ _ (an_int (row_content r.content) (content_id r.content))
    (and_then _ _ _ _ _ (a_long (pos r.sequence_number) h.sequence_number)
    (and_then _ _ _ _ _ (a_long (pos r.min_sequence_number) h.min_sequence_number)
    (and_then _ _ _ _ _ (a_long r.added_snapshot_id h.added_snapshot_id) (counts_spelled r h.counts h.partitions
    few.partitions))))))))

-- ---- how many items it has

no_items : {A : Type 0} (value : A → Value) (o : Option A) → ((x : A) → item_count (value x) ≡ 0)
    → item_count (if_some value o) ≡ 0
no_items value None h = refl
no_items value (Some x) h = h x

summary_items : (s : Summary) → item_count (summary_value s) ≡ 0
summary_items s = omega (
  arith,
  no_items truth s.contains_nan (λ b. refl),
  no_items run s.lower (λ bs. refl),
  no_items
      run s.upper (λ bs. refl),
)

summaries_items : (ss : List Summary) → item_counts (values_of (map summary_value ss)) ≡ 0
summaries_items [] = refl
summaries_items (s ∷ ss) = omega (arith, summary_items s, summaries_items ss)

partitions_items : (o : Option (List Summary)) → IfSome o (λ ss. length ss ≤ max_items)
    → item_count (if_some summaries_value o) ≤ max_items
partitions_items None few = omega arith
partitions_items (Some ss) few = omega (
  arith,
  few,
  summaries_items ss,
  values_len-values_of (map summary_value ss),
  as_many ss,
)

pub few_items : (r : Row) → IsReadable r → item_count (row_value r) ≤ max_items
unfolding row_value
few_items r h =
    omega (
      arith,
      no_items small r.counts.added_files (λ z. refl),
      no_items small r.counts.existing_files (λ z. refl),
      no_items small r.counts.deleted_files (λ z. refl),
      no_items whole r.counts.added_rows (λ z. refl),
      no_items whole r.counts.existing_rows (λ z. refl),
      no_items whole r.counts.deleted_rows (λ z. refl),
      partitions_items r.partitions h.partitions,
    )

-- a row is of the type of rows
pub row_is_of : (r : Row) → RowFits r → IsReadable r → IsOf (written_tree list_type) (row_value r)
row_is_of r h few = let s = row_spelled r h few in (s.bytes, s.spells)
