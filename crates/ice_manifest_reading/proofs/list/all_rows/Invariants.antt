use Rattle.std.proofs.Common.{◌≡◌, List}
use Rattle.avro_file.specs.Ahead.{still_ahead}
use Rattle.avro_file.specs.Files.{ahead, type_of}
use Rattle.avro_file_picked.specs.Finding.{layout_tree}
use Rattle.avro_file_picked.specs.Placing.{FitsLayout}
use Rattle.ice_manifest_fields.specs.Schemas.{fields_in}
use Rattle.ice_manifest_fields.proofs.Joining.{joined}
use Rattle.ice_manifest_reading.specs.declared.row.Row.{Row}
use Rattle.ice_manifest_reading.specs.Lists.{rows_ahead}
use Rattle.ice_manifest_reading.specs.Gathering.{AreSame}
use Rattle.ice_manifest_reading.proofs.list.all_rows.Given as goal

abbrev pub invariant-objects : goal.invariant-objects
invariant-objects l =
    (read : List Row) × (joined read (rows_ahead (fields_in (layout_tree l.layout)) (ahead l.reader))
    ≡ rows_ahead (fields_in (layout_tree l.layout)) (ahead l.initial.reader))
    × AreSame read l.rows.items × (layout_tree l.layout ≡ type_of l.reader) × FitsLayout l.layout l.places

abbrev pub decreases-objects : goal.decreases-objects
decreases-objects l = still_ahead (ahead l.reader)
