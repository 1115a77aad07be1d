use Rattle.avro_schema.proofs.Faulty.{schema_id}
use Rattle.avro_schema.proofs.Refused.{ids_refused}
use Rattle.avro_schema.proofs.laws.id_twice_is_refused.Goals as goal

pub returns-clause-refused : goal.returns-clause-refused
returns-clause-refused c = λ text d t id is h ok. ids_refused text d t id is ok h

pub returns-clause-nothing_else : goal.returns-clause-nothing_else
returns-clause-nothing_else c = λ text d id is h. schema_id text d id is h
