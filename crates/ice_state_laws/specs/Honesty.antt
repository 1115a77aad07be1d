-- Data files of which manifests tell the truth. Apache Iceberg table spec, version 2, "Scan Planning".
use Rattle.std.specs.Prelude.{◌≡◌, List, Some}
use Rattle.ice_meta.specs.declared.spec.Spec.{Spec}
use Rattle.ice_filter.specs.Rows as table
use Rattle.ice_filter.specs.declared.bound.BoundPredicate.{BoundPredicate}
use Rattle.ice_filter.specs.declared.parts.Part.{Part}
use Rattle.ice_manifest_reading.specs.declared.entry.Live.{Live}
use Rattle.ice_project.specs.Fields.{fields_of}
use Rattle.ice_project.specs.Files.{AreCounted}
use Rattle.ice_project.specs.Honesty as project
use Rattle.ice_state.specs.Specs.{spec_of}

-- What the manifest says of the file is true of its rows: each has the file's partition values, and of each column that
-- the filter asks for the counts and bounds are those of the rows.
pub record IsHonest (specs : List Spec) (filter : List (Part BoundPredicate)) (l : Live) (rows : List table.Row)
    : Type 0 where
  pub values : (spec : Spec) → spec_of specs l.entry.spec_id ≡ Some spec
      → project.IsHonest (fields_of spec) l.entry.file.tuple rows
  pub columns : AreCounted l.bounds filter rows
