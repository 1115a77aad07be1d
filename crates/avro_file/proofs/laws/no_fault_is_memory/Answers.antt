use Rattle.avro_file.proofs.Unasked.{opened_never, objects_never}
use Rattle.avro_file.proofs.laws.no_fault_is_memory.Goals as goal

pub returns : goal.returns
returns c = record { opening = opened_never; objects = objects_never }
