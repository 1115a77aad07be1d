-- How many entries of each status a manifest has, and how many rows their files: what a manifest list counts. Apache
-- Iceberg table spec v2, "Manifest Lists", fields 504 to 506 and 512 to 514.
use Rattle.std.specs.Prelude.{ℕ, ℤ, pos, ◌+ℤ◌, Bool, true, false, List, [], ◌∷◌, length, map, filter}
use Rattle.std.specs.Prelude.{Option, Some, None, Result, Ok, Err, unwrap_or}
use Rattle.avro_schema.specs.Tree.{structure, Fields}
use Rattle.avro_file.specs.declared.fault.AvroFault.{AvroFault}
use Rattle.avro_file.specs.Ahead.{Ahead, running, refusing}
use Rattle.avro_file.specs.Files.{Opened, opened_at}
use Rattle.avro_file.specs.Picking.{Typed}
use Rattle.ice_manifest_fields.specs.declared.fault.ManifestFault.{ManifestFault}
use Rattle.ice_manifest_fields.specs.Fields.{at, there, record_of, optional_long}
use Rattle.ice_manifest_fields.specs.Schemas.{fields_in}
use Rattle.ice_manifest_reading.specs.declared.status.Status.{Status}
use Rattle.ice_manifest_reading.specs.declared.status.Status.TheVariants.{Existing, Added, Deleted}
use Rattle.ice_manifest_reading.specs.declared.tally.Tallies.{Tallies}
use Rattle.ice_manifest_reading.specs.declared.tally.Tally.{Tally}
use Rattle.ice_manifest_reading.specs.Manifests.{status_at}

-- ---- an entry

abbrev pub is_same : Status → Status → Bool
is_same Existing Existing = true
is_same Added Added = true
is_same Deleted Deleted = true
is_same status other = false

abbrev pub is_status : Status → Result Status ManifestFault → Bool
is_status status (Ok found) = is_same status found
is_status status (Err f) = false

-- the object is an entry of this status
abbrev pub has_status : Status → Typed → Bool
has_status status x = is_status status (status_at x)

-- the rows that a file has, as its record says; none where it says no number
abbrev pub file_rows : Option Typed → ℤ
file_rows (Some file) = unwrap_or (optional_long (pos 103) file) (pos 0)
file_rows None = pos 0

-- the same of the file of an entry
unfoldable pub rows_of : Typed → ℤ
rows_of x = file_rows (record_of (there (at (pos 2) x)))

-- ---- all entries

-- the rows in all of their files
abbrev pub rows_of_all : List Typed → ℤ
rows_of_all [] = pos 0
rows_of_all (x ∷ xs) = rows_of x +ℤ rows_of_all xs

-- how many entries there are, and the rows in all of their files
abbrev pub tally_of : List Typed → Tally
tally_of xs = record { files = length xs; rows = rows_of_all xs }

-- the same of the entries of each status among objects
abbrev pub tallies_in : List Typed → Tallies
tallies_in xs = record {
  added = tally_of (filter (has_status Added) xs);
  existing = tally_of (filter (has_status Existing) xs);
  deleted = tally_of (filter (has_status Deleted) xs);
}

-- the objects that are to come, of the type of these fields
abbrev pub objects_ahead : Fields → Ahead → List Typed
objects_ahead fs (running vs ending) = map (λ v. (structure fs, v)) vs
objects_ahead fs (refusing f) = []

abbrev pub objects_in : Result Opened AvroFault → List Typed
objects_in (Ok file) = objects_ahead (fields_in file.schema) file.ahead
objects_in (Err f) = []

-- the tallies of the objects that a file holds
unfoldable pub tallies_of : List ℕ → Tallies
tallies_of bytes = tallies_in (objects_in (opened_at bytes))
