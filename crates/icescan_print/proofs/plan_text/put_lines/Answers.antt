use Rattle.std.proofs.Common.{◌≤◌, ◌∙◌, length, map, arith}
use Rattle.std.proofs.lemmas.List.{length-map}
use Rattle.icescan_print.specs.PlanTexts.{line_text}
use Rattle.icescan_print.proofs.RangeTexts.{lines_joined, range_all}
use Rattle.icescan_print.proofs.plan_text.put_lines.Goals as goal

pub returns : goal.returns
returns g c =
    let texts = map line_text c.args.lines.now in
    let whole : length texts ≤ c.len.result = omega
    (arith, c.len.ensures.counted, length-map c.args.lines.now line_text) in
    rw (range_all texts c.len.result whole ∙ lines_joined c.args.lines.now) at c.put_some_lines.ensures
