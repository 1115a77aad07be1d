-- What becomes of manifests and files under a filter, and which predicate of it is to blame: Apache Iceberg table spec,
-- version 2, "Scan Planning".
use Rattle.std.specs.Prelude.{Bool, true, false, ◌&&◌, not, if◌then◌else◌}
use Rattle.ice_value.specs.declared.file_content.FileContent.{FileContent}
use Rattle.ice_value.specs.declared.file_content.FileContent.TheVariants as holds
use Rattle.ice_project.specs.Files.{file_may}
use Rattle.ice_project.specs.Tuples.{part_meets}
use Rattle.ice_manifest_reading.specs.declared.entry.Entry.{Entry}
use Rattle.ice_manifest_reading.specs.declared.entry.Live.{Live}
use Rattle.ice_manifest_reading.specs.declared.row.Row.{Row}
use Rattle.ice_state.specs.Pruning.{holds as holds_in, summaries_allow}
use Rattle.icescan_explain.specs.Blaming.{blamed_column, blamed_field}
use Rattle.icescan_explain.specs.declared.tests.FilterTests.{FilterTests}
use Rattle.icescan_explain.specs.declared.tests.SpecTests.{SpecTests}
use Rattle.icescan_explain.specs.declared.verdict.Fate.{Fate}
use Rattle.icescan_explain.specs.declared.verdict.Fate.TheVariants.{Kept, ByPartition, ByBounds}
use Rattle.icescan_explain.specs.declared.verdict.Subject.{Subject}
use Rattle.icescan_explain.specs.declared.verdict.Subject.TheVariants as subject
use Rattle.icescan_explain.specs.declared.verdict.Verdict.{Verdict}

abbrev pub subject_of : FileContent → Subject
subject_of holds.Data = subject.Data
subject_of holds.PositionDeletes = subject.Deletes
subject_of holds.EqualityDeletes = subject.Deletes

-- a row's manifest: it is left out where the row's summaries say no to the projection
abbrev pub row_fate : SpecTests → Row → Fate
row_fate of_spec row = if summaries_allow of_spec.part row.partitions then Kept
    else ByPartition (blamed_field of_spec.lone (λ part. summaries_allow part row.partitions))

abbrev pub row_verdict : SpecTests → Row → Verdict
row_verdict of_spec row = record
    { path = row.path; bytes = row.length; subject = subject.Manifest; fate = row_fate of_spec row }

-- the bounds of a data file say no to the filter
abbrev pub is_out_of_bounds : FilterTests → Live → Bool
is_out_of_bounds tests l = holds_in holds.Data l.entry && not (file_may tests.filter.parts l.bounds)

-- A live file of a manifest of the spec: it is left out where its partition values say no to the projection; else a
-- data file where its counts and bounds say no to the filter.
abbrev pub file_fate : FilterTests → SpecTests → Live → Fate
file_fate tests of_spec l =
    if part_meets of_spec.part l.entry.file.tuple
    then (if is_out_of_bounds tests l then ByBounds (blamed_column tests.predicates l.bounds) else Kept)
    else ByPartition (blamed_field of_spec.lone (λ part. part_meets part l.entry.file.tuple))

-- the verdict on an entry's file of which this becomes
abbrev pub verdict_on : Entry → Fate → Verdict
verdict_on x fate = record {
  path = x.file.path;
  bytes = x.file.file_size;
  subject = subject_of x.file.content;
  fate = fate;
}

abbrev pub file_verdict : FilterTests → SpecTests → Live → Verdict
file_verdict tests of_spec l = verdict_on l.entry (file_fate tests of_spec l)

-- it is not left out
abbrev pub is_kept : Fate → Bool
is_kept Kept = true
is_kept (ByPartition field) = false
is_kept (ByBounds column) = false
