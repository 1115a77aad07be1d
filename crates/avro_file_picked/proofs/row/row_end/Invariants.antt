use Rattle.std.proofs.Common.{◌≤◌, length, take}
use Rattle.avro_file.specs.Blocks.{max_items}
use Rattle.avro_file_picked.specs.Rows.{trees_of, Stand}
use Rattle.avro_file_picked.proofs.row.row_end.Given as goal

-- the values that were passed stand up to here
abbrev pub invariant-steps : goal.invariant-steps
invariant-steps l = (l.here ≤ length l.bytes)
    × Stand (trees_of (take l.i l.steps)) (take l.i l.starts) l.bytes 0 max_items l.here l.left
