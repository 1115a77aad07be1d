use Rattle.std.proofs.Common.{◌≡◌, ◌∙◌, ap, sym, refl}
use Rattle.std.specs.Prelude.{Some}
use Rattle.std.proofs.lemmas.Result.{on_ok_weaker}
use Rattle.ice_meta.specs.declared.table.Table.{Table}
use Rattle.icescan_drill.specs.Drills.{IsPlanOf, IsTextOf, drill_text, sequence_of}
use Rattle.icescan_drill.proofs.Drills.{sequence_there}
use Rattle.icescan_drill.proofs.drill_text.write_version.Goals as goal

pub returns-clause-written : goal.returns-clause-written
returns-clause-written g c =
    let sequence : sequence_of c.args.version.now ≡ Some c.get.result =
    sequence_there c.args.version.now _ c.metadata.ensures
    ∙ ap Some (sym (c.get.ensures.same ∙ ap (λ (t : Table). t.last_sequence_number) c.table.ensures)) in
    let plan : IsPlanOf c.lines.result c.args.version.now = rw c.lines.ensures c.in_ok-plan.ensures.plan in
    let is : IsTextOf c.args.drill (drill_text c.number.result c.get.result c.lines.result) = record {
      version = c.args.version.now;
      sequence = c.get.result;
      plan = c.lines.result;
      each_commit = c.requires;
      sequence_is = sequence;
      plan_is = plan;
      text_is = rw (c.number.ensures, c.requires) refl;
    } in
    on_ok_weaker c.write_drill.result (λ all. (drill_text c.number.result c.get.result c.lines.result, is, all))
    c.write_drill.ensures.all

pub returns-clause-front : goal.returns-clause-front
returns-clause-front g c =
    let sequence : sequence_of c.args.version.now ≡ Some c.get.result =
    sequence_there c.args.version.now _ c.metadata.ensures
    ∙ ap Some (sym (c.get.ensures.same ∙ ap (λ (t : Table). t.last_sequence_number) c.table.ensures)) in
    let plan : IsPlanOf c.lines.result c.args.version.now = rw c.lines.ensures c.in_ok-plan.ensures.plan in
    let is : IsTextOf c.args.drill (drill_text c.number.result c.get.result c.lines.result) = record {
      version = c.args.version.now;
      sequence = c.get.result;
      plan = c.lines.result;
      each_commit = c.requires;
      sequence_is = sequence;
      plan_is = plan;
      text_is = rw (c.number.ensures, c.requires) refl;
    } in
    λ failed. (drill_text c.number.result c.get.result c.lines.result, is, c.write_drill.ensures.front failed)
