use Rattle.avro_schema.proofs.Places.{inside_at, at_inside}
use Rattle.avro_schema.proofs.laws.type_inside_has_a_place.Goals as goal

pub returns-clause-has : goal.returns-clause-has
returns-clause-has c = λ space last d e h. inside_at space last d e h

pub returns-clause-only : goal.returns-clause-only
returns-clause-only c = λ place space last d e h. at_inside place space last d e h
