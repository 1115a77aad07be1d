use Rattle.avro_schema.proofs.First.{schema_first}
use Rattle.avro_schema.proofs.laws.fault_is_the_first.Goals as goal

pub returns : goal.returns
returns c = schema_first
