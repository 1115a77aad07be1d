-- What objects of one schema say together, as a list and as a manifest. Apache Iceberg table spec v2, "Manifest Lists"
-- and "Manifests".
use Rattle.std.specs.Prelude.{List, Result, Ok}
use Rattle.std.specs.List.{enumerate_from}
use Rattle.contract_words.specs.Outcome.{◌>>=◌}
use Rattle.avro_schema.specs.Tree.{Tree}
use Rattle.avro_file.specs.Value.{Value}
use Rattle.ice_meta.specs.declared.spec.Spec.{Spec}
use Rattle.ice_manifest_fields.specs.declared.fault.ListFault.{ListFault}
use Rattle.ice_manifest_fields.specs.declared.fault.ManifestFault.{ManifestFault}
use Rattle.ice_manifest_fields.specs.Each.{each}
use Rattle.ice_manifest_fields.specs.Naming.{in_list, in_manifest, told}
use Rattle.ice_manifest_fields.specs.Schemas.{fields_in, row_fields}
use Rattle.ice_manifest_reading.specs.declared.row.Row.{Row}
use Rattle.ice_manifest_reading.specs.declared.entry.Entry.{Entry}
use Rattle.ice_manifest_reading.specs.declared.entry.Live.{Live}
use Rattle.ice_manifest_reading.specs.ManifestSchemas.{entry_fields}
use Rattle.ice_manifest_reading.specs.Lists.{says_row, checked, in_order}
use Rattle.ice_manifest_reading.specs.Manifests.{says_entry, kept, entries}

-- The rows that objects of this schema say, each once and in the order of their paths. Else the first fault: the
-- schema's, an object's, or that of all rows together.
abbrev pub rows_said : Tree → List Value → Result (List Row) ListFault
rows_said s vs = do
  fits ← told in_list (row_fields (fields_in s))
  rows ← each (says_row (fields_in s)) vs
  checked (in_order rows)

-- The live entries that objects of this schema say, each with its object's place among them. Else the first fault: the
-- schema's, or an object's.
abbrev pub live_said : Row → Spec → Tree → List Value → Result (List Live) ManifestFault
live_said row spec s vs = do
  fits ← told in_manifest (entry_fields spec (fields_in s))
  read ← each (says_entry row spec (fields_in s)) (enumerate_from 0 vs)
  Ok (kept read)

-- the same without the bounds of their files
abbrev pub entries_said : Row → Spec → Tree → List Value → Result (List Entry) ManifestFault
entries_said row spec s vs = do
  found ← live_said row spec s vs
  Ok (entries found)
