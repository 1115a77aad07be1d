use Rattle.std.proofs.Common.{ℕ, List, [], take, map}
use Rattle.std.specs.List.{AllByRecursion}
use Rattle.avro_schema.specs.Tree.{Tree}
use Rattle.avro_file.specs.Header.{Property}
use Rattle.avro_file.specs.Writers.{WasGiven, WillWrite}
use Rattle.ice_manifest.specs.Fitting.{RowFits}
use Rattle.ice_manifest.specs.WrittenValues.{row_value}
use Rattle.ice_manifest.proofs.list_writing.with_rows.Given as goal

abbrev pub invariant-rows : goal.invariant-rows
invariant-rows l = record {
  given : (ps : List Property) (s : Tree) → WasGiven l.initial.writer ps s []
      → WasGiven l.writer ps s (map row_value (take l.row-index l.rows));
  exact : (ps : List Property) (sync : List ℕ) → WillWrite l.initial.writer ps sync []
      → WillWrite l.writer ps sync (map row_value (take l.row-index l.rows));
  fits : AllByRecursion RowFits (take l.row-index l.rows);
}
