use Rattle.std.proofs.Common.{◌≡◌, ℕ, length}
use Rattle.avro_schema.specs.Tree.{Tree}
use Rattle.avro_file.specs.Blocks.{run_from}
use Rattle.avro_file.specs.Where.{file_position_of}
use Rattle.avro_file.proofs.blocks.entered.Given as goal

abbrev pub invariant-empty : goal.invariant-empty
invariant-empty l = (s : Tree) (total : ℕ) → run_from s l.sync total (file_position_of l.here) ≡ run_from s l.sync total
    (file_position_of l.fn.start)

abbrev pub decreases-empty : goal.decreases-empty
decreases-empty l = length l.here.bytes.now
