use Rattle.std.proofs.Common.{◌∙◌, sym}
use Rattle.std.proofs.lemmas.Result.{err_from_is_err_and}
use Rattle.avro_schema.specs.View.{tree}
use Rattle.avro_file.specs.Where.{file_position_of}
use Rattle.avro_file.proofs.Heads.{object_stops, object_comes}
use Rattle.avro_file.proofs.Behind.{behind_ok, behind_err}
use Rattle.avro_file.proofs.Alike.{object_alike}
use Rattle.avro_file.proofs.blocks.step.Goals as goal

pub returns-in_err-rest : goal.returns-in_err-rest
returns-in_err-rest c = λ s alike.
    let p = err_from_is_err_and c.from_residual-in_err-rest.result c.from_residual-in_err-rest.ensures.1 in
    let entered = rw c.in-Some.is at c.in_ok-here.ensures in
    let here = file_position_of c.in-Some.here in
    let fails = sym (object_alike (tree c.args.passing.now) s c.in-Some.here.block.now alike) ∙ c.in_err-rest.ensures in
    rw (p.1, p.2) (λ total. entered.1 s total ∙ object_stops s
    c.args.sync.now total here c.in_err-rest.field-0.0 entered.0 (behind_err _ _ fails))

pub returns : goal.returns
returns c = λ s alike.
    let entered = rw c.in-Some.is at c.in_ok-here.ensures in
    let here = file_position_of c.in-Some.here in
    let ends = sym (object_alike (tree c.args.passing.now) s c.in-Some.here.block.now alike) ∙ c.in_ok-rest.ensures in
    let v = behind_ok _ _ ends in (
      v.0,
      (c.in_ok-rest.rest.now, v.1),
      λ total. entered.1 s total ∙ object_comes s c.args.sync.now total here v.0 c.in_ok-rest.rest.now entered.0 v.1,
    )
