-- When the summaries of a manifest list's rows tell the truth: Apache Iceberg table spec, version 2, "Manifest Lists"
-- (`field_summary`). This is of the data alone, and of no filter.
use Rattle.std.specs.Prelude.{◌≡◌, true, List, Option, Some, None}
use Rattle.std.specs.List.{AllByRecursion}
use Rattle.ice_value.specs.declared.cell.Cell.{Cell}
use Rattle.ice_value.specs.declared.file_bounds.Summary.{Summary}
use Rattle.ice_meta.specs.declared.spec.Spec.{Spec}
use Rattle.ice_project.specs.Fields.{fields_of}
use Rattle.ice_project.specs.Summaries.{IsCovered}
use Rattle.ice_manifest_reading.specs.declared.entry.Live.{Live}
use Rattle.ice_manifest_reading.specs.declared.row.Row.{Row}
use Rattle.ice_state.specs.Contents.{World}
use Rattle.ice_state.specs.Pruning.{Pruner}
use Rattle.ice_state.specs.Snapshots.{live}
use Rattle.ice_state.specs.Specs.{spec_of}

-- the summaries of a spec's fields cover the tuple; absent ones say nothing
abbrev pub Covers : Spec → Option (List Summary) → List Cell → Type 0
Covers spec None tuple = Unit {0}
Covers spec (Some summaries) tuple = IsCovered (fields_of spec) summaries tuple

-- the row's summaries cover the tuple, by the fields of the row's spec
abbrev pub RowCovers : List Spec → Row → List Cell → Type 0
RowCovers specs row tuple = (spec : Spec) → spec_of specs row.spec_id ≡ Some spec → Covers spec row.partitions tuple

-- each row covers the tuples of its live entries
abbrev pub AreCovered : World → List Spec → List Row → Type 0
AreCovered world specs rows = AllByRecursion
    (λ row. AllByRecursion (λ (l : Live). RowCovers specs row l.entry.file.tuple) (live world specs row)) rows

-- A test of summaries that is right: of a row that covers a tuple that meets the projection, it doesn't say no.
abbrev pub HasSoundSummaries : List Spec → Pruner → Type 0
HasSoundSummaries specs p = (row : Row) (tuple : List Cell) → RowCovers specs row tuple
    → p.meets row.spec_id tuple ≡ true → p.wants row ≡ true
