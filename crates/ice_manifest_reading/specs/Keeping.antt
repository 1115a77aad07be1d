-- Entries and what is said of the columns of their files.
use Rattle.ice_value.specs.declared.file_bounds.FileBounds.{FileBounds}
use Rattle.ice_manifest_reading.specs.declared.entry.Entry.{Entry}
use Rattle.ice_manifest_reading.specs.declared.entry.Live.{Live}

-- the entry, of whose file this is said
abbrev pub live_with : Entry → FileBounds → Live
live_with e columns = record { entry = e; bounds = columns }
