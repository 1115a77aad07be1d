-- The maps of columns that were found, and what was read of them.
use Rattle.std.specs.Prelude.{◌≡◌, ℕ, ℤ, List, Option, Ok, true}
use denote.Ref.{Bor}
use Rattle.avro_schema.specs.declared.schema.ArrayKind.{ArrayKind}
use Rattle.avro_schema.specs.Tree.{Tree, array}
use Rattle.avro_file.specs.declared.pairs.Second.{Second}
use Rattle.avro_file.specs.Pairs.{IsPair}
use Rattle.avro_file.specs.Picking.{Picked}
use Rattle.avro_file_picked.specs.Finding.{IsMet}
use Rattle.ice_value.specs.Pairs.{counts_said, bounds_said}
use Rattle.ice_manifest_fields.specs.declared.columns.ColumnMap.{ColumnMap}
use Rattle.ice_manifest_fields.specs.ColumnMaps.{value_counts, null_value_counts, lower_bounds, upper_bounds}
use Rattle.ice_manifest_fields.specs.Fields.{there}
use Rattle.ice_manifest_fields.specs.Places.{lies_as_pairs}
use Rattle.ice_manifest_values.specs.declared.maps.FoundMaps.{FoundMaps}
use Rattle.ice_manifest_values.specs.declared.maps.ReadMap.{ReadMap}
use Rattle.ice_manifest_values.specs.declared.maps.ReadMap.TheVariants.{Pairs, InPlace}
use Rattle.ice_manifest_values.specs.declared.maps.ReadMaps.{ReadMaps}
use Rattle.ice_manifest_values.specs.Met.{MapsMet, LeadsToMap, LeadsToMaps, counts_in, bounds_in}

-- an array of pairs whose first field is the map's key, and whose second is what it says, of such a type
abbrev pub ListsPairs : ColumnMap → Second → Tree → Type 0
ListsPairs m second t = (pair : Tree) × (id : Option ℤ) × (kind : ArrayKind) × (t ≡ array pair id kind)
    × IsPair pair second × (lies_as_pairs m pair ≡ true)

-- the pairs that were read say the counts of what was met; or it is left where it lies, and the guide leads to it too,
-- if there is one
abbrev pub AreCounts : ColumnMap → ReadMap ℤ → Picked → Type 0
AreCounts m (Pairs pairs) met = counts_in m (there met) ≡ Ok (counts_said pairs.items)
AreCounts m (InPlace found guided) met = IsMet found met × LeadsToMap m guided.now met

-- the same of bounds
abbrev pub AreBounds : ColumnMap → ReadMap (Bor (List ℕ)) → Picked → Type 0
AreBounds m (Pairs pairs) met = bounds_in m (there met) ≡ Ok (bounds_said pairs.items)
AreBounds m (InPlace found guided) met = IsMet found met × LeadsToMap m guided.now met

-- each map that was found is what was met, to which the guide leads too, if there is one
pub record AreMet (found : FoundMaps) (met : MapsMet) : Type 0 where
  pub guided : LeadsToMaps found.guided.now met
  pub values : IsMet found.value_counts met.values
  pub nulls : IsMet found.null_counts met.nulls
  pub lower : IsMet found.lower_bounds met.lower
  pub upper : IsMet found.upper_bounds met.upper

-- each map that was read is what was met
pub record AreRead (maps : ReadMaps) (met : MapsMet) : Type 0 where
  pub values : AreCounts value_counts maps.value_counts met.values
  pub nulls : AreCounts null_value_counts maps.null_counts met.nulls
  pub lower : AreBounds lower_bounds maps.lower_bounds met.lower
  pub upper : AreBounds upper_bounds maps.upper_bounds met.upper
