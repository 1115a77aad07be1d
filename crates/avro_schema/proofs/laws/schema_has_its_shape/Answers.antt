use Rattle.avro_schema.proofs.Refused.{schema_stands}
use Rattle.avro_schema.proofs.Same.{schema_only}
use Rattle.avro_schema.proofs.Takes.{schema_accepts}
use Rattle.avro_schema.proofs.laws.schema_has_its_shape.Goals as goal

pub returns-clause-shape : goal.returns-clause-shape
returns-clause-shape c = λ text d t is ok. schema_stands text d t is ok

pub returns-clause-only : goal.returns-clause-only
returns-clause-only c = λ text d names t u is of stands ok. schema_only text d names t u is of stands ok

pub returns-clause-accepted : goal.returns-clause-accepted
returns-clause-accepted c = λ text d names t is of stands many deep unknown recursion name id. schema_accepts text d
    names t is of stands many deep unknown recursion name id
