-- What is read of a file is what its fields with the ids of this crate say, whatever else it holds: other fields,
-- names, documentation, and how its objects lie in blocks. Apache Iceberg table spec v2, "Column Projection".
use Rattle.std.specs.Prelude.{◌≡◌, ℕ, pos, List, [], ◌∷◌, Option, Some, None, Ok}
use Rattle.std.specs.List.{AllByRecursion}
use Rattle.avro_schema.specs.Tree.{structure, Fields}
use Rattle.avro_file.specs.declared.fault.AvroFault.{AvroFault}
use Rattle.avro_file.specs.Value.{Value}
use Rattle.avro_file.specs.Picking.{Typed, pick}
use Rattle.ice_meta.specs.declared.spec.PartitionField.{PartitionField}
use Rattle.ice_meta.specs.declared.spec.Spec.{Spec}
use Rattle.ice_manifest_reading.specs.declared.row.Row.{Row}
use Rattle.ice_manifest_fields.specs.declared.columns.ColumnMap.{ColumnMap}
use Rattle.ice_manifest_fields.specs.ColumnMaps.{value_counts, null_value_counts, lower_bounds, upper_bounds}
use Rattle.ice_manifest_fields.specs.Fields.{at, there, text_of, record_of, items_of, optional_long, optional_truth}
use Rattle.ice_manifest_fields.specs.Fields.{optional_binary, optional_text, int_or_zero, number_or_zero}
use Rattle.ice_manifest_reading.specs.Partitions.{cell_at}
use Rattle.ice_manifest_reading.specs.Lists.{rows_of}
use Rattle.ice_manifest_reading.specs.Manifests.{live_of}
use Rattle.ice_manifest_reading.specs.Laws.{IsList, IsManifest}

-- ---- entries

abbrev pub BothSame : (Typed → Typed → Type 0) → Option Typed → Option Typed → Type 0
BothSame Same None None = Unit {0}
BothSame Same (Some x) (Some y) = Same x y
BothSame Same x y = ⊥

-- item by item
abbrev pub SameItems : (Typed → Typed → Type 0) → List Typed → List Typed → Type 0
SameItems Same [] [] = Unit {0}
SameItems Same (x ∷ xs) (y ∷ ys) = BothSame Same (record_of (there (pick [] x))) (record_of (there (pick [] y)))
    × SameItems Same xs ys
SameItems Same xs ys = ⊥

-- records that say the same in each of these partition fields
abbrev pub SameCells : List PartitionField → Typed → Typed → Type 0
SameCells ps x y = AllByRecursion (λ (p : PartitionField). cell_at p.field_id x ≡ cell_at p.field_id y) ps

-- the records of partition values say the same; they are not read where the spec has no field
abbrev pub SameTuple : List PartitionField → Typed → Typed → Type 0
SameTuple [] x y = Unit {0}
SameTuple (p ∷ ps) x y =
    BothSame (SameCells (p ∷ ps)) (record_of (there (at (pos 102) x))) (record_of (there (at (pos 102) y)))

-- pairs that say the same count, or the same bytes, of the same column
abbrev pub SameCount : ColumnMap → Typed → Typed → Type 0
SameCount m x y = (optional_long m.key x ≡ optional_long m.key y) × (optional_long m.said x ≡ optional_long m.said y)

abbrev pub SameBound : ColumnMap → Typed → Typed → Type 0
SameBound m x y =
    (optional_long m.key x ≡ optional_long m.key y) × (optional_binary m.said x ≡ optional_binary m.said y)

-- maps of which one after the other the pairs say the same
abbrev pub SameMap : (ColumnMap → Typed → Typed → Type 0) → ColumnMap → Typed → Typed → Type 0
SameMap Same m x y = SameItems (Same m) (items_of (there (at m.id x))) (items_of (there (at m.id y)))

-- records that say the same in each field of a data file that is read, of a spec with these partition fields
pub record SameFile (ps : List PartitionField) (x y : Typed) : Type 0 where
  pub content : int_or_zero (pos 134) x ≡ int_or_zero (pos 134) y
  pub format : optional_text (pos 101) x ≡ optional_text (pos 101) y
  pub path : text_of (there (at (pos 100) x)) ≡ text_of (there (at (pos 100) y))
  pub tuple : SameTuple ps x y
  pub record_count : optional_long (pos 103) x ≡ optional_long (pos 103) y
  pub file_size : optional_long (pos 104) x ≡ optional_long (pos 104) y
  pub value_counts : SameMap SameCount value_counts x y
  pub null_counts : SameMap SameCount null_value_counts x y
  pub lower_bounds : SameMap SameBound lower_bounds x y
  pub upper_bounds : SameMap SameBound upper_bounds x y
  pub equality_ids : items_of (there (at (pos 135) x)) ≡ items_of (there (at (pos 135) y))
  -- which data file it is about is read of position deletes alone
  pub referenced : int_or_zero (pos 134) x ≡ Ok (pos 1) → optional_text (pos 143) x ≡ optional_text (pos 143) y

-- objects that say the same in each field of an entry that is read, of a spec with these partition fields
pub record SameEntry (ps : List PartitionField) (x y : Typed) : Type 0 where
  pub status : optional_long (pos 0) x ≡ optional_long (pos 0) y
  pub snapshot_id : optional_long (pos 1) x ≡ optional_long (pos 1) y
  pub sequence_number : optional_long (pos 3) x ≡ optional_long (pos 3) y
  pub file_sequence_number : optional_long (pos 4) x ≡ optional_long (pos 4) y
  pub file : BothSame (SameFile ps) (record_of (there (at (pos 2) x))) (record_of (there (at (pos 2) y)))

-- object by object
abbrev pub EachSame : (Typed → Typed → Type 0) → Fields → Fields → List Value → List Value → Type 0
EachSame Same fs gs [] [] = Unit {0}
EachSame Same fs gs (v ∷ vs) (w ∷ ws) = Same (structure fs, v) (structure gs, w) × EachSame Same fs gs vs ws
EachSame Same fs gs vs ws = ⊥

-- two manifests whose objects say the same in these fields give the same
abbrev pub SkipsOtherFieldsOfEntries : Type 0
SkipsOtherFieldsOfEntries = (row : Row) (spec : Spec) (bytes other : List ℕ) (fs gs : Fields) (vs ws : List Value)
    (ending : Option AvroFault)
    → IsManifest spec bytes fs vs ending → IsManifest spec other gs ws ending
    → EachSame (SameEntry spec.fields) fs gs vs ws
    → live_of row spec bytes ≡ live_of row spec other

-- ---- rows

-- records that say the same in each field of a summary
pub record SameSummary (x y : Typed) : Type 0 where
  pub contains_null : optional_truth (pos 509) x ≡ optional_truth (pos 509) y
  pub contains_nan : optional_truth (pos 518) x ≡ optional_truth (pos 518) y
  pub lower : optional_binary (pos 510) x ≡ optional_binary (pos 510) y
  pub upper : optional_binary (pos 511) x ≡ optional_binary (pos 511) y

abbrev pub SameList : Typed → Typed → Type 0
SameList x y = SameItems SameSummary (items_of (Some x)) (items_of (Some y))

-- objects that say the same in each field of a row that is read
pub record SameRow (x y : Typed) : Type 0 where
  pub path : text_of (there (at (pos 500) x)) ≡ text_of (there (at (pos 500) y))
  pub length : optional_long (pos 501) x ≡ optional_long (pos 501) y
  pub spec_id : optional_long (pos 502) x ≡ optional_long (pos 502) y
  pub content : int_or_zero (pos 517) x ≡ int_or_zero (pos 517) y
  pub sequence_number : number_or_zero (pos 515) x ≡ number_or_zero (pos 515) y
  pub min_sequence_number : number_or_zero (pos 516) x ≡ number_or_zero (pos 516) y
  pub added_snapshot_id : optional_long (pos 503) x ≡ optional_long (pos 503) y
  pub added_files : optional_long (pos 504) x ≡ optional_long (pos 504) y
  pub existing_files : optional_long (pos 505) x ≡ optional_long (pos 505) y
  pub deleted_files : optional_long (pos 506) x ≡ optional_long (pos 506) y
  pub added_rows : optional_long (pos 512) x ≡ optional_long (pos 512) y
  pub existing_rows : optional_long (pos 513) x ≡ optional_long (pos 513) y
  pub deleted_rows : optional_long (pos 514) x ≡ optional_long (pos 514) y
  pub partitions : BothSame SameList (there (at (pos 507) x)) (there (at (pos 507) y))

-- two lists whose objects say the same in these fields give the same
abbrev pub SkipsOtherFieldsOfRows : Type 0
SkipsOtherFieldsOfRows = (bytes other : List ℕ) (fs gs : Fields) (vs ws : List Value)
    (ending : Option AvroFault)
    → IsList bytes fs vs ending → IsList other gs ws ending → EachSame SameRow fs gs vs ws
    → rows_of bytes ≡ rows_of other
