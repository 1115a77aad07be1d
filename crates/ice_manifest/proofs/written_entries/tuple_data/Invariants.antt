use Rattle.std.proofs.Common.{◌≡◌, take}
use Rattle.std.specs.List.{AllByRecursion}
use Rattle.avro_file.specs.View.{views}
use Rattle.ice_manifest.specs.Fitting.{CellFits}
use Rattle.ice_manifest.specs.WrittenValues.{tuple_values}
use Rattle.ice_manifest.proofs.written_entries.tuple_data.Given as goal

abbrev pub invariant-cells : goal.invariant-cells
invariant-cells l = record {
  value : views l.values.items ≡ tuple_values (take l.place l.types) (take l.place l.tuple);
  fits : AllByRecursion CellFits (take l.place l.tuple);
}
