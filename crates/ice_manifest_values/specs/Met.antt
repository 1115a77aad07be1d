-- What was met where a field path leads, as the field that it is: what a manifest list's row or a manifest's
-- entry must have there, or may. Apache Iceberg table spec v2, 'Manifests' and 'Column Projection'.
use Rattle.std.specs.Prelude.{◌≡◌, ◌≢◌, ℕ, ℤ, pos, List, [], ◌∷◌, Option, Some, None, Result, Ok, Err}
use Rattle.contract_words.specs.Outcome.{◌>>=◌}
use Rattle.avro_schema.specs.Tree.{Tree}
use Rattle.avro_file.specs.Value.{Value}
use Rattle.avro_file.specs.Picking.{Typed, Picked, pick}
use Rattle.avro_file_picked.specs.declared.guide.GuidedObject.{GuidedObject}
use Rattle.avro_file_picked.specs.Guides.{IsGuided, AreAsked}
use Rattle.ice_value.specs.Columns.{ColumnCount, ColumnBound}
use Rattle.ice_value.specs.declared.file_bounds.FileBounds.{FileBounds}
use Rattle.ice_manifest_fields.specs.declared.fault.FieldFault.{FieldFault}
use Rattle.ice_manifest_fields.specs.declared.fault.ManifestFault.{ManifestFault}
use Rattle.ice_manifest_fields.specs.declared.fault.ManifestFault.TheVariants.{Memory}
use Rattle.ice_manifest_fields.specs.Naming.{in_manifest, told}
use Rattle.ice_manifest_fields.specs.declared.columns.ColumnMap.{ColumnMap}
use Rattle.ice_manifest_fields.specs.ColumnMaps.{value_counts, null_value_counts, lower_bounds, upper_bounds}
use Rattle.ice_manifest_fields.specs.Each.{each}
use Rattle.ice_manifest_fields.specs.Fields.{there, whole_of, text_of, items_of, asked, within_32}
use Rattle.ice_manifest_fields.specs.Fields.{not_negative, short_path, if_there, int_item}
use Rattle.ice_manifest_fields.specs.Maps.{count_of, bound_of}

-- ---- what must be there

-- a whole number of 64 bits
abbrev pub long_met : ℤ → Picked → Result ℤ FieldFault
long_met id met = asked id (whole_of (there met))

-- a whole number of 32 bits
abbrev pub int_met : ℤ → Picked → Result ℤ FieldFault
int_met id met = long_met id met >>= within_32 id

-- a sequence number
abbrev pub number_met : ℤ → Picked → Result ℕ FieldFault
number_met id met = long_met id met >>= not_negative id

-- a path, of at most 65,535 bytes
abbrev pub path_met : ℤ → Picked → Result (List ℕ) FieldFault
path_met id met = asked id (text_of (there met)) >>= short_path id

-- ---- what may be there

abbrev pub optional_int_met : ℤ → Picked → Result (Option ℤ) FieldFault
optional_int_met id met = if_there (within_32 id) (whole_of (there met))

abbrev pub optional_number_met : ℤ → Picked → Result (Option ℕ) FieldFault
optional_number_met id met = if_there (not_negative id) (whole_of (there met))

abbrev pub optional_path_met : ℤ → Picked → Result (Option (List ℕ)) FieldFault
optional_path_met id met = if_there (short_path id) (text_of (there met))

-- whole numbers of 32 bits, the items of a list; none where there is no list
abbrev pub ints_met : ℤ → Picked → Result (List ℤ) FieldFault
ints_met item met = each (int_item item) (items_of (there met))

-- ---- columns

-- the field paths to the key of a pair and to what it says
abbrev pub pair_field_paths : ColumnMap → List (List ℤ)
pair_field_paths m = (m.key ∷ []) ∷ (m.said ∷ []) ∷ []

-- the counts of a map; none where there is no map
abbrev pub counts_in : ColumnMap → Option Typed → Result (List ColumnCount) FieldFault
counts_in m x = each (count_of m) (items_of x)

abbrev pub bounds_in : ColumnMap → Option Typed → Result (List ColumnBound) FieldFault
bounds_in m x = each (bound_of m) (items_of x)

-- the fields of a map's pairs
abbrev pub pair_ids : ColumnMap → List ℤ
pair_ids m = m.key ∷ m.said ∷ []

-- the guide, if there is one, leads from an entry to what was met at the map, and keeps the fields of its pairs
abbrev pub LeadsToMap : ColumnMap → Option GuidedObject → Picked → Type 0
LeadsToMap m (Some guided) met = (field_paths : List (List ℤ)) × (t : Tree) × (v : Value)
    × IsGuided field_paths t v guided
    × (pick (pos 2 ∷ m.id ∷ []) (t, v) ≡ met) × AreAsked field_paths (pos 2 ∷ m.id ∷ [])
    × AreAsked field_paths (pair_ids m)
LeadsToMap m None met = Unit {0}

-- what stands at the four maps of a data file's columns
pub record MapsMet : Type 0 where
  pub values : Picked
  pub nulls : Picked
  pub lower : Picked
  pub upper : Picked

-- the guide, if there is one, leads to each of them
pub record LeadsToMaps (guided : Option GuidedObject) (met : MapsMet) : Type 0 where
  pub values : LeadsToMap value_counts guided met.values
  pub nulls : LeadsToMap null_value_counts guided met.nulls
  pub lower : LeadsToMap lower_bounds guided met.lower
  pub upper : LeadsToMap upper_bounds guided met.upper

unfoldable pub columns_met : MapsMet → Result FileBounds FieldFault
columns_met met = do
  values ← counts_in value_counts (there met.values)
  nulls ← counts_in null_value_counts (there met.nulls)
  lower ← bounds_in lower_bounds (there met.lower)
  upper ← bounds_in upper_bounds (there met.upper)
  Ok (record { value_counts = values; null_counts = nulls; lower_bounds = lower; upper_bounds = upper })

-- reading was seen to have no fault; or its fault is told, unless memory ran out
abbrev pub Checks : {A : Type 0} → Result (Unit {0}) ManifestFault → Result A FieldFault → Type 0
Checks {A} (Ok done) read = (x : A) × (read ≡ Ok x)
Checks (Err e) read = e ≢ Memory → told in_manifest read ≡ Err e
