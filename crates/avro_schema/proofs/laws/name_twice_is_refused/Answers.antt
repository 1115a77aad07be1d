use Rattle.avro_schema.proofs.Faulty.{schema_twice}
use Rattle.avro_schema.proofs.Refused.{twice_refused}
use Rattle.avro_schema.proofs.laws.name_twice_is_refused.Goals as goal

pub returns-clause-refused : goal.returns-clause-refused
returns-clause-refused c = λ text d t is h ok. twice_refused text d t is ok h

pub returns-clause-nothing_else : goal.returns-clause-nothing_else
returns-clause-nothing_else c = λ text d is h. schema_twice text d is h
