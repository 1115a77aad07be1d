-- The summaries of a new row are those of its fields, or none.
use Rattle.std.proofs.Common.{Bool, true, false, cond, List, Option, None, Some}
use Rattle.ice_value.specs.declared.column_type.ColumnType.{ColumnType}
use Rattle.ice_value.specs.declared.file_bounds.Summary.{Summary}
use Rattle.ice_manifest.specs.declared.new_file.NewFile.{NewFile}
use Rattle.ice_manifest.specs.NewRows.{some_uuid, summaries, summaries_from}

pub by_summaries : (P : Option (List Summary) → Type 0) (ts : List ColumnType) (fs : List NewFile) → P None
    → P (Some (summaries_from 0 ts fs)) → P (summaries ts fs)
by_summaries P ts fs none some = pick (some_uuid 0 ts fs) where
  pick : (b : Bool) → P (cond b None (Some (summaries_from 0 ts fs)))
  pick true = none
  pick false = some
