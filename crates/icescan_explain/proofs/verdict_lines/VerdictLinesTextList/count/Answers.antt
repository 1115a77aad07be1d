use Rattle.std.proofs.Common.{◌∙◌, ap, length, sym}
use Rattle.std.proofs.lemmas.List.{length-map}
use Rattle.icescan_explain.specs.JsonLines.{verdict_told}
use Rattle.icescan_explain.proofs.verdict_lines.VerdictLinesTextList.count.Goals as goal

pub returns-clause-counted : goal.returns-clause-counted
returns-clause-counted c =
    let l = c.self.inside in
    let many = length-map l.explanation.now.verdicts (verdict_told l.format l.explanation.now.plan) in
    ap length c.as_slice.ensures ∙ sym many ∙ ap length c.self.view_is
