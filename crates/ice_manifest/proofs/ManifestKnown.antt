-- The schema of a manifest is read as its tree.
use Rattle.std.proofs.Common.{◌≡◌, ◌*◌, ◌≤◌, ◌^◌, true, false, List}
use Rattle.std.proofs.Common.{[], ◌∷◌, length, map, refl, ap, arith}
use Rattle.std.specs.Prelude.{ℤ, pos, negsuc}
use Rattle.std.proofs.lemmas.Bool.{lt-ltb}
use Rattle.std.specs.List.{AllByRecursion, IsDistinct, list_any}
use Rattle.std.specs.Ordering.{int_eq}
use Rattle.avro_schema.specs.Size.{height, deepest_field, deepest_branch, nodes, below, in_fields, in_branches}
use Rattle.avro_schema.specs.Names.{dotted}
use Rattle.avro_schema.specs.Texts.{most_nodes}
use Rattle.ice_value.specs.declared.column_type.ColumnType.{ColumnType}
use Rattle.ice_value.specs.declared.column_type.ColumnType.TheVariants as column
use Rattle.ice_meta.specs.declared.spec.PartitionField.{PartitionField}
use Rattle.ice_manifest.specs.declared.heading.Heading.{Heading}
use Rattle.ice_manifest.specs.Adding.{IsHeading, IsId, is_partition_type}
use Rattle.ice_manifest.specs.declared.partition_names.Naming.{Naming}
use Rattle.ice_manifest.specs.PartitionNames.{naming_of, field_name}
use Rattle.ice_manifest.specs.WrittenTypes.{written_tree, written_fields}
use Rattle.ice_manifest.specs.WrittenSchemas.{value_type, partition_fields, entry_type}
use Rattle.ice_manifest.specs.Writing.{manifest_type}
use Rattle.ice_manifest.proofs.WrittenRead.{fine, fine_fields, different_ids, ids_in}
use Rattle.ice_manifest.proofs.WrittenRead.{is_id, is_filled}
use Rattle.ice_manifest.proofs.NamesApart.{names_filled}

-- ---- its size

value_height : (id : ℤ) (t : ColumnType) → height (written_tree (value_type id t)) ≡ 0
unfolding height
value_height id column.Boolean = refl
value_height id column.Int = refl
value_height id column.Long = refl
value_height id column.Float = refl
value_height id column.Double = refl
value_height id column.Date = refl
value_height id column.Time = refl
value_height id column.Timestamp = refl
value_height id column.Timestamptz = refl
value_height id column.String = refl
value_height id column.Uuid = refl
value_height id (column.Fixed size) = refl
value_height id column.Binary = refl
value_height id (column.Decimal precision scale) = refl

partition_height : (naming : Naming) (ps : List PartitionField) (ts : List ColumnType)
    → deepest_field (written_fields (partition_fields naming ps ts)) ≤ 2
unfolding height deepest_field deepest_branch
partition_height naming [] ts = omega arith
partition_height naming (p ∷ ps) [] = omega arith
partition_height naming (p ∷ ps) (t ∷ ts) = omega (arith, value_height p.field_id t, partition_height naming ps ts)

pub manifest_height : (h : Heading) → height (written_tree (manifest_type h)) ≤ 31
unfolding entry_type height deepest_field deepest_branch
manifest_height h = omega (arith, partition_height (naming_of h.spec.fields) h.spec.fields h.types)

value_below : (id : ℤ) (t : ColumnType) → below (written_tree (value_type id t)) ≡ 0
unfolding below
value_below id column.Boolean = refl
value_below id column.Int = refl
value_below id column.Long = refl
value_below id column.Float = refl
value_below id column.Double = refl
value_below id column.Date = refl
value_below id column.Time = refl
value_below id column.Timestamp = refl
value_below id column.Timestamptz = refl
value_below id column.String = refl
value_below id column.Uuid = refl
value_below id (column.Fixed size) = refl
value_below id column.Binary = refl
value_below id (column.Decimal precision scale) = refl

partition_nodes : (naming : Naming) (ps : List PartitionField) (ts : List ColumnType)
    → in_fields (written_fields (partition_fields naming ps ts)) ≤ 3 * length ps
unfolding below in_fields in_branches
partition_nodes naming [] ts = omega arith
partition_nodes naming (p ∷ ps) [] = omega arith
partition_nodes naming (p ∷ ps) (t ∷ ts) = omega (arith, value_below p.field_id t, partition_nodes naming ps ts)

pub manifest_nodes : (h : Heading) → length h.spec.fields ≤ 64 → nodes (written_tree (manifest_type h)) ≤ most_nodes
unfolding entry_type below in_fields in_branches
manifest_nodes h few = omega (arith, partition_nodes (naming_of h.spec.fields) h.spec.fields h.types)

-- ---- its numbers and names

id_is : (id : ℤ) → IsId id → is_id id ≡ true
id_is (pos n) h = lt-ltb n (2 ^ 31) h
id_is (negsuc n) h = lt-ltb n (2 ^ 31) h

value_fine : (id : ℤ) (t : ColumnType) → is_partition_type t ≡ true → fine (value_type id t) ≡ true
value_fine id column.Boolean h = refl
value_fine id column.Int h = refl
value_fine id column.Long h = refl
value_fine id column.Float h = refl
value_fine id column.Double h = refl
value_fine id column.Date h = refl
value_fine id column.Time h = refl
value_fine id column.Timestamp h = refl
value_fine id column.Timestamptz h = refl
value_fine id column.String h = refl
value_fine id column.Uuid h = refl
value_fine id (column.Fixed size) h = h
value_fine id column.Binary h = refl
value_fine id (column.Decimal precision scale) h = refl

partition_fine : (naming : Naming) (ps : List PartitionField) (ts : List ColumnType)
    → AllByRecursion (λ (p : PartitionField). IsId p.field_id) ps → AllByRecursion (λ t. is_partition_type t ≡ true) ts
    → AllByRecursion (λ p. is_filled (field_name naming p) ≡ true) ps
    → fine_fields (partition_fields naming ps ts) ≡ true
partition_fine naming [] ts ids types filled = refl
partition_fine naming (p ∷ ps) [] ids types filled = refl
partition_fine naming (p ∷ ps) (t ∷ ts) ids types filled = rw (
  filled.0,
  id_is p.field_id ids.0,
  value_fine p.field_id t types.0,
  partition_fine naming ps ts ids.1 types.1 filled.1,
) refl

partition_ids : (naming : Naming) (ps : List PartitionField) (ts : List ColumnType) → length ts ≡ length ps
    → ids_in (partition_fields naming ps ts) ≡ map (λ (p : PartitionField). p.field_id) ps
partition_ids naming [] ts e = refl
partition_ids naming (p ∷ ps) [] e = absurd (omega (arith, e))
partition_ids naming (p ∷ ps) (t ∷ ts) e = ap (λ ids. p.field_id ∷ ids) (partition_ids naming ps ts (omega (arith, e)))

none_equal : (id : ℤ) (ids : List ℤ) → AllByRecursion (λ other. int_eq id other ≡ false) ids
    → list_any (int_eq id) ids ≡ false
none_equal id [] h = refl
none_equal id (other ∷ ids) h = rw (h.0, none_equal id ids h.1) refl

ids_differ : (ids : List ℤ) → IsDistinct int_eq ids → different_ids ids ≡ true
unfolding IsDistinct
ids_differ [] h = refl
ids_differ (id ∷ ids) h = rw (none_equal id ids h.0, ids_differ ids h.1) refl

pub manifest_fine : (h : Heading) → IsHeading h → AllByRecursion (λ (p : PartitionField). IsId p.field_id) h.spec.fields
    → fine (manifest_type h) ≡ true
unfolding entry_type dotted
manifest_fine h is ids =
    let apart : different_ids (ids_in (partition_fields (naming_of h.spec.fields) h.spec.fields h.types)) ≡ true =
    rw (partition_ids (naming_of h.spec.fields) h.spec.fields h.types is.typed) (ids_differ _ is.different) in
    rw (
      apart,
      partition_fine (naming_of h.spec.fields) h.spec.fields h.types ids is.written
          (names_filled h.spec.fields),
    ) refl
