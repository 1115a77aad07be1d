-- Which types the fields of a schema have, which a row of a manifest list and parts of a data file must have, and the
-- first that is missing or does not fit. Apache Iceberg table spec v2, "Manifest Lists" and "Manifests"; the order is
-- this program's own.
use Rattle.std.specs.Prelude.{ℤ, pos, Bool, true, Option, Some, None, Result, Ok, Err, if◌then◌else◌}
use Rattle.std.specs.Ordering.{int_eq}
use Rattle.std.specs.Option.{option_eq}
use Rattle.contract_words.specs.Outcome.{◌>>=◌}
use Rattle.avro_schema.specs.Tree.{Tree, null, boolean, int, long, float, double, octets, string, fixed, structure}
use Rattle.avro_schema.specs.Tree.{array, union, Fields, no_fields, field, Branches, no_branches, branch}
use Rattle.ice_manifest_fields.specs.declared.fault.FieldFault.{FieldFault}
use Rattle.ice_manifest_fields.specs.declared.fault.FieldFault.TheVariants.{Missing, WrongType, FloatPartition}
use Rattle.ice_manifest_fields.specs.declared.columns.ColumnMap.{ColumnMap}
use Rattle.ice_manifest_fields.specs.Kinds.{wanted}
use Rattle.ice_manifest_fields.specs.ColumnMaps.{value_counts, null_value_counts, lower_bounds, upper_bounds}
use Rattle.ice_manifest_fields.specs.Types.{is_whole, is_truth, is_text, is_binary, is_list, is_array, is_record, fits}

-- nothing is at fault
abbrev pub Fault : Type 0
Fault = Result (Unit {0}) FieldFault

-- the fields of a record; any other type has none
abbrev pub fields_in : Tree → Fields
fields_in (structure fs) = fs
fields_in t = no_fields

-- the type of the field with this id
unfoldable pub type_at : ℤ → Fields → Option Tree
type_at id no_fields = None
type_at id (field own t fs) = if option_eq int_eq own (Some id) then Some t else type_at id fs

abbrev pub fitting : (Tree → Bool) → ℤ → Tree → Result Tree FieldFault
fitting wanted id t = if fits wanted t then Ok t else Err (WrongType id)

abbrev pub must_fit : (Tree → Bool) → ℤ → Option Tree → Result Tree FieldFault
must_fit wanted id None = Err (Missing id)
must_fit wanted id (Some t) = fitting wanted id t

abbrev pub may_fit : (Tree → Bool) → ℤ → Option Tree → Result (Option Tree) FieldFault
may_fit wanted id None = Ok None
may_fit wanted id (Some t) = fitting wanted id t >>= λ u. Ok (Some u)

-- the type of the field with this id, which has to be there and to fit
unfoldable pub required : (Tree → Bool) → ℤ → Fields → Result Tree FieldFault
required wanted id fs = must_fit wanted id (type_at id fs)

-- the same of a field that fits if it is there
unfoldable pub optional : (Tree → Bool) → ℤ → Fields → Result (Option Tree) FieldFault
optional wanted id fs = may_fit wanted id (type_at id fs)

-- ---- types inside others

-- the branches of a union; any other type is its own one branch
abbrev pub branches_in : Tree → Branches
branches_in (union ts) = ts
branches_in t = branch t no_branches

unfoldable pub each_branch : (Tree → Fault) → Branches → Fault
each_branch check no_branches = Ok tt
each_branch check (branch t ts) = check t >>= λ ok. each_branch check ts

-- what each branch of a type is to be, where the field is there
abbrev pub inside : (Tree → Fault) → Option Tree → Fault
inside check None = Ok tt
inside check (Some t) = each_branch check (branches_in t)

-- the items of a list are as wanted
abbrev pub has_items : (Tree → Bool) → Tree → Bool
has_items wanted (array t id kind) = fits wanted t
has_items wanted t = true

-- the types of the items of a list
abbrev pub items_in : Tree → Branches
items_in (array t id kind) = branches_in t
items_in t = no_branches

-- the items of a list are whole numbers
abbrev pub lists_wholes : Tree → Fault
lists_wholes t = if has_items is_whole t then Ok tt else Err (WrongType (pos 136))

unfoldable pub summary_fields : Fields → Fault
summary_fields fs = do
  contains_null ← required is_truth (pos 509) fs
  contains_nan ← optional is_truth (pos 518) fs
  lower ← optional is_binary (pos 510) fs
  upper ← optional is_binary (pos 511) fs
  Ok tt

abbrev pub is_summary : Tree → Fault
is_summary (structure fs) = summary_fields fs
is_summary t = Ok tt

-- the items of a list are summaries
abbrev pub lists_summaries : Tree → Fault
lists_summaries t = if has_items is_record t then each_branch is_summary (items_in t) else Err (WrongType (pos 508))

-- ---- rows

unfoldable pub count_fields : Fields → Fault
count_fields fs = do
  added_files ← optional is_whole (pos 504) fs
  existing_files ← optional is_whole (pos 505) fs
  deleted_files ← optional is_whole (pos 506) fs
  added_rows ← optional is_whole (pos 512) fs
  existing_rows ← optional is_whole (pos 513) fs
  deleted_rows ← optional is_whole (pos 514) fs
  Ok tt

-- a manifest list's row; one of version 1 has no field for its content and its numbers
unfoldable pub row_fields : Fields → Fault
row_fields fs = do
  path ← required is_text (pos 500) fs
  length ← required is_whole (pos 501) fs
  spec ← required is_whole (pos 502) fs
  content ← optional is_whole (pos 517) fs
  sequence ← optional is_whole (pos 515) fs
  least ← optional is_whole (pos 516) fs
  snapshot ← required is_whole (pos 503) fs
  counts ← count_fields fs
  partitions ← optional is_list (pos 507) fs
  inside lists_summaries partitions

-- ---- partition values

-- which types a partition value may have
abbrev pub is_cell : ℤ → Tree → Fault
is_cell id null = Ok tt
is_cell id boolean = Ok tt
is_cell id int = Ok tt
is_cell id long = Ok tt
is_cell id string = Ok tt
is_cell id (octets kind) = Ok tt
is_cell id (fixed size kind) = Ok tt
is_cell id float = Err (FloatPartition id)
is_cell id double = Err (FloatPartition id)
is_cell id t = Err (WrongType id)

abbrev pub each_is_cell : ℤ → Option Tree → Fault
each_is_cell id None = Err (Missing id)
each_is_cell id (Some t) = each_branch (is_cell id) (branches_in t)

-- ---- counts and bounds of columns

unfoldable pub pair_fields : ColumnMap → Fields → Fault
pair_fields m fs = do
  column ← required is_whole m.key fs
  said ← required (wanted m.kind) m.said fs
  Ok tt

abbrev pub is_pair : ColumnMap → Tree → Fault
is_pair m (structure fs) = pair_fields m fs
is_pair m t = Ok tt

-- the items of an array are pairs: of a column's id and what is said of the column
abbrev pub lists_pairs : ColumnMap → Tree → Fault
lists_pairs m t = if has_items is_record t then each_branch (is_pair m) (items_in t) else Err (WrongType m.id)

-- a map fits if it is there: an array of pairs
unfoldable pub map_fits : ColumnMap → Fields → Fault
map_fits m fs = optional is_array m.id fs >>= inside (lists_pairs m)

unfoldable pub column_fields : Fields → Fault
column_fields fs = do
  values ← map_fits value_counts fs
  nulls ← map_fits null_value_counts fs
  lower ← map_fits lower_bounds fs
  map_fits upper_bounds fs

-- ---- equality ids

-- the equality ids
unfoldable pub ids_fit : Fields → Fault
ids_fit fs = optional is_list (pos 135) fs >>= inside lists_wholes
