use Rattle.std.proofs.Common.{◌≡◌, Some}
use Rattle.std.proofs.lemmas.Result.{IfOk-at_ok}
use Rattle.avro_schema.specs.Tree.{Tree}
use Rattle.avro_schema.specs.Names.{lookup}
use Rattle.avro_schema.specs.Reading.{Seen}
use Rattle.avro_schema.proofs.Kept.{Grown, Grows, tree_defines, tree_keeps, tree_uses}
use Rattle.avro_schema.proofs.laws.used_name_stands_for_its_definition.Goals as goal

pub returns-clause-given : goal.returns-clause-given
returns-clause-given c = λ n at space d s q t name makes h. IfOk-at_ok (λ (x : Tree × Seen). lookup name x.1.names
    ≡ Some (Some x.0)) h (tree_defines n at space d s name makes)

pub returns-clause-stays : goal.returns-clause-stays
returns-clause-stays c = λ n at space d s q t name x known h.
    let grown : Grown (lookup name s.names) (lookup name q.names) = IfOk-at_ok (λ (y : Tree × Seen). Grows s.names
    y.1.names) h (tree_keeps n at space d s) name in
    rw known at grown

pub returns-clause-used : goal.returns-clause-used
returns-clause-used c = λ n at space d s q t name uses h. IfOk-at_ok (λ (x : Tree × Seen). lookup name s.names ≡ Some
    (Some x.0)) h (tree_uses n at space d s name uses)
