-- What is read of an entry's file.
use Rattle.std.specs.Prelude.{◌≡◌, ◌≢◌, pos, Result, Ok, Err}
use Rattle.ice_value.specs.declared.file_bounds.FileBounds.{FileBounds}
use Rattle.ice_manifest_fields.specs.declared.fault.FieldFault.{FieldFault}
use Rattle.ice_manifest_fields.specs.declared.fault.ManifestFault.{ManifestFault}
use Rattle.ice_manifest_fields.specs.declared.fault.ManifestFault.TheVariants.{Memory}
use Rattle.ice_manifest_fields.specs.Naming.{in_manifest, told}
use Rattle.ice_manifest_fields.specs.Fields.{at}
use Rattle.ice_manifest_values.specs.declared.maps.ReadMaps.{ReadMaps}
use Rattle.ice_manifest_values.specs.Met.{MapsMet}
use Rattle.ice_manifest_values.specs.declared.maps.FoundMaps.{FoundMaps}
use Rattle.ice_manifest_values.specs.MapsRead.{AreMet, AreRead}
use Rattle.ice_manifest_layouts.specs.declared.file.FoundFile.{FoundFile}
use Rattle.ice_manifest_layouts.specs.Seen.{file_seen}
use Rattle.ice_manifest_reading.specs.declared.data_file.DataFile.{DataFile}

-- what stands at the maps of a file's columns
abbrev pub maps_at : FoundFile → MapsMet
maps_at f = record {
  values = at (pos 109) (file_seen f);
  nulls = at (pos 110) (file_seen f);
  lower = at (pos 125) (file_seen f);
  upper = at (pos 128) (file_seen f);
}

-- these maps were found in the file
abbrev pub AreMapsIn : FoundFile → FoundMaps → Type 0
AreMapsIn f maps = AreMet maps (maps_at f)

-- these maps were read of the file
abbrev pub AreMapsOf : FoundFile → ReadMaps → Type 0
AreMapsOf f maps = AreRead maps (maps_at f)

-- the file was read, of whose columns something is said; or the first fault is told, unless memory ran out
abbrev pub ReadsFile : Result DataFile ManifestFault → Result (DataFile × FileBounds) FieldFault → Type 0
ReadsFile (Ok file) read = (columns : FileBounds) × (read ≡ Ok (file, columns))
ReadsFile (Err e) read = e ≢ Memory → told in_manifest read ≡ Err e
