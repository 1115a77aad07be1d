-- What a filter lets a scan leave out: Apache Iceberg table spec, version 2, "Scan Planning".
use Rattle.std.specs.Prelude.{◌≡◌, ℤ, Bool, true, false, ◌&&◌, ◌||◌, not, List, filter, Option, Some, None, option_map}
use Rattle.ice_value.specs.declared.cell.Cell.{Cell}
use Rattle.ice_value.specs.declared.file_bounds.FileBounds.{FileBounds}
use Rattle.ice_value.specs.declared.file_bounds.Summary.{Summary}
use Rattle.ice_value.specs.declared.file_content.FileContent.{FileContent}
use Rattle.ice_value.specs.declared.file_content.FileContent.TheVariants.{Data, PositionDeletes, EqualityDeletes}
use Rattle.ice_meta.specs.declared.spec.Spec.{Spec}
use Rattle.ice_meta.specs.Partitioning.{is_unpartitioned}
use Rattle.ice_filter.specs.declared.bound.BoundPredicate.{BoundPredicate}
use Rattle.ice_filter.specs.declared.parts.Part.{Part}
use Rattle.ice_project.specs.declared.part_filter.PartFilter.{PartFilter}
use Rattle.ice_project.specs.Files.{file_may}
use Rattle.ice_project.specs.Projection.{projection}
use Rattle.ice_project.specs.Summaries.{summaries_may}
use Rattle.ice_project.specs.Tuples.{part_meets}
use Rattle.ice_manifest_reading.specs.declared.entry.Entry.{Entry}
use Rattle.ice_manifest_reading.specs.declared.entry.Live.{Live}
use Rattle.ice_manifest_reading.specs.declared.row.Row.{Row}
use Rattle.ice_manifest_reading.specs.Manifests.{entries}
use Rattle.ice_state.specs.Specs.{spec_of}

-- a filter's projection on the tuples of a spec, its test of the bounds of a data file, and its test of a row's
-- summaries
pub record Pruner : Type 0 where
  pub meets : ℤ → List Cell → Bool
  pub bounds : FileBounds → Bool
  pub wants : Row → Bool

-- a row whose list says nothing of the partition values may have any
abbrev pub summaries_allow : PartFilter → Option (List Summary) → Bool
summaries_allow part None = true
summaries_allow part (Some summaries) = summaries_may part summaries

-- the test of the filter's projection through the spec; nothing is of a spec that is missing
abbrev pub by_projection : List (Part BoundPredicate) → (PartFilter → Bool) → Option Spec → Bool
by_projection parts test None = false
by_projection parts test (Some spec) = test (projection parts spec)

-- what a filter of rows keeps of a table with these specs
abbrev pub pruner_of : List (Part BoundPredicate) → List Spec → Pruner
pruner_of parts specs =
    record {
      meets = λ id tuple. by_projection parts (λ part. part_meets part tuple) (spec_of specs id);
      bounds = file_may parts;
      wants = λ row. by_projection parts (λ part. summaries_allow part row.partitions) (spec_of specs row.spec_id);
    }

-- without a filter every row is wanted and every live entry is kept
abbrev pub everything : Pruner
everything = record { meets = λ spec tuple. true; bounds = λ bounds. true; wants = λ row. true }

abbrev pub same_content : FileContent → FileContent → Bool
same_content Data Data = true
same_content PositionDeletes PositionDeletes = true
same_content EqualityDeletes EqualityDeletes = true
same_content _ _ = false

-- what the entry's file holds
abbrev pub holds : FileContent → Entry → Bool
holds content x = same_content x.file.content content

-- a live data entry is kept that the projection and the bounds keep, a live delete entry that the projection keeps
abbrev pub keeps : Pruner → Live → Bool
keeps p l = p.meets l.entry.spec_id l.entry.file.tuple && (not (holds Data l.entry) || p.bounds l.bounds)

-- what is kept, without the bounds
abbrev pub kept : Pruner → List Live → List Entry
kept p found = entries (filter (keeps p) found)

-- the entry's `unpartitioned` is that of its spec, which is there
abbrev pub SaysItsSpec : List Spec → Entry → Type 0
SaysItsSpec specs x = option_map is_unpartitioned (spec_of specs x.spec_id) ≡ Some x.unpartitioned

-- an unpartitioned spec's projection is true wherever another's is
abbrev pub IsOpen : List Spec → Pruner → Type 0
IsOpen specs p = (x d : Entry) → SaysItsSpec specs d → d.unpartitioned ≡ true → p.meets x.spec_id x.file.tuple ≡ true
    → p.meets d.spec_id d.file.tuple ≡ true
