use Rattle.std.proofs.Common.{◌≡◌}
use Rattle.std.proofs.lemmas.Result.{IfOk-at_ok}
use Rattle.avro_schema.proofs.Shapes.{schema_agrees}
use Rattle.avro_schema.proofs.Accepted.{schema_gives}
use Rattle.avro_schema.proofs.laws.schema_without_used_names_has_its_shape.Goals as goal

pub returns-clause-same : goal.returns-clause-same
returns-clause-same c = λ text d t u is shape h. IfOk-at_ok (λ x. x ≡ u) h (schema_agrees text d u is shape)

pub returns-clause-accepted : goal.returns-clause-accepted
returns-clause-accepted c = λ text d t is shape many deep. schema_gives text d t is shape many deep
