use Rattle.std.proofs.Common.{◌∙◌, ap, length, sym}
use Rattle.icescan_json.proofs.TaskTexts.{length_listed}
use Rattle.icescan_json.proofs.tasks.TasksTextList.count.Goals as goal

pub returns-clause-counted : goal.returns-clause-counted
returns-clause-counted c =
    let t = c.self.inside in
    let many = length_listed t.types.now t.residual.now t.named.now t.plan.now c.self.invariant.placed in
    c.count_files.ensures.counted ∙ sym many ∙ ap length c.self.view_is
