use Rattle.avro_schema.proofs.Faulty.{schema_unknown}
use Rattle.avro_schema.proofs.Refused.{unknown_refused}
use Rattle.avro_schema.proofs.laws.unknown_name_is_refused.Goals as goal

pub returns-clause-refused : goal.returns-clause-refused
returns-clause-refused c = λ text d t is h ok. unknown_refused text d t is ok h

pub returns-clause-nothing_else : goal.returns-clause-nothing_else
returns-clause-nothing_else c = λ text d is h. schema_unknown text d is h
