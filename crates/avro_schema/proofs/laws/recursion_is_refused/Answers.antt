use Rattle.std.proofs.Common.{◌≡◌, [], refl}
use Rattle.std.proofs.lemmas.Result.{IfOk-at_ok, IfErr-at_err}
use Rattle.avro_schema.specs.declared.fault.SchemaFault.TheVariants.{Recursive}
use Rattle.avro_schema.specs.Inside.{HasRecursion}
use Rattle.avro_schema.proofs.Recursion.{schema_finds}
use Rattle.avro_schema.proofs.Closed.{schema_refuses_recursion}
use Rattle.avro_schema.proofs.laws.recursion_is_refused.Goals as goal

pub returns-clause-refused : goal.returns-clause-refused
returns-clause-refused c = λ text d t is r h. IfOk-at_ok (λ _. ⊥) h (schema_refuses_recursion text d is r)

pub returns-clause-nothing_else : goal.returns-clause-nothing_else
returns-clause-nothing_else c = λ text d is h. IfErr-at_err (λ e. e ≡ Recursive → HasRecursion [] d) h
    (schema_finds text d is) refl
