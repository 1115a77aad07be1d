use Rattle.avro_schema_laws.proofs.Telling.{schema_told, schema_taken}
use Rattle.avro_schema_laws.proofs.laws.the_first_fault_is_told.Goals as goal

pub returns-clause-told : goal.returns-clause-told
returns-clause-told c = schema_told

pub returns-clause-accepted : goal.returns-clause-accepted
returns-clause-accepted c = schema_taken
