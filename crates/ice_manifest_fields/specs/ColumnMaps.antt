-- The maps from column ids that a data file has, by the ids of their fields, keys and values. Apache Iceberg table spec
-- v2, "Manifests" (data_file).
use Rattle.std.specs.Prelude.{pos}
use Rattle.ice_manifest_fields.specs.declared.kind.Kind.TheVariants.{Whole, Binary}
use Rattle.ice_manifest_fields.specs.declared.columns.ColumnMap.{ColumnMap}

abbrev pub value_counts : ColumnMap
value_counts = record { id = pos 109; key = pos 119; said = pos 120; kind = Whole }

abbrev pub null_value_counts : ColumnMap
null_value_counts = record { id = pos 110; key = pos 121; said = pos 122; kind = Whole }

abbrev pub lower_bounds : ColumnMap
lower_bounds = record { id = pos 125; key = pos 126; said = pos 127; kind = Binary }

abbrev pub upper_bounds : ColumnMap
upper_bounds = record { id = pos 128; key = pos 129; said = pos 130; kind = Binary }
