-- What a manifest gives.
use Rattle.std.specs.Prelude.{List}
use Rattle.ice_manifest_reading.specs.declared.entry.Entry.{Entry}
use Rattle.ice_manifest_fields.specs.declared.fault.ManifestFault.{ManifestFault}

-- its kept entries in the order of their positions, or why it can't be read
pub data Reading : Type 0 where
  Good : List Entry → Reading
  Bad : ManifestFault → Reading
