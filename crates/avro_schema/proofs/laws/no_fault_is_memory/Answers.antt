use Rattle.avro_schema.proofs.Unasked.{schema_passes}
use Rattle.avro_schema.proofs.laws.no_fault_is_memory.Goals as goal

pub returns : goal.returns
returns c = schema_passes
