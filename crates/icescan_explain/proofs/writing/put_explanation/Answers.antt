use Rattle.std.proofs.Common.{◌≡◌, ◌≤◌, ◌∙◌, arith, ap, length, map}
use Rattle.std.specs.List.{concat}
use Rattle.icescan_print.specs.Ranges.{range_text}
use Rattle.icescan_print.proofs.RangeTexts.{range_all}
use Rattle.icescan_print.proofs.Sends.{sent_less, sent_more}
use Rattle.icescan_explain.specs.JsonLines.{verdict_told}
use Rattle.icescan_explain.proofs.LineTexts.{explanation_is}
use Rattle.icescan_explain.proofs.writing.put_explanation.Goals as goal

pub returns-in_err-put_range : goal.returns-in_err-put_range
returns-in_err-put_range g c =
    let x = c.args.explanation.now in
    let form = c.args.format in
    let many : length c.new-lines.result ≤ c.count.result = omega (arith, c.count.ensures.counted) in
    let all : range_text c.new-lines.result 0 c.count.result ≡ concat (map (verdict_told form x.plan) x.verdicts) =
    range_all c.new-lines.result c.count.result many ∙ ap concat c.new-lines.ensures in
    rw (explanation_is form x)
    (sent_less _ _ _ _ _ _ _ _ _ _ _ c.from_residual.ensures.0 (rw all at c.in_err-put_range.ensures))

pub returns : goal.returns
returns g c =
    let x = c.args.explanation.now in
    let form = c.args.format in
    let many : length c.new-lines.result ≤ c.count.result = omega (arith, c.count.ensures.counted) in
    let all : range_text c.new-lines.result 0 c.count.result ≡ concat (map (verdict_told form x.plan) x.verdicts) =
    range_all c.new-lines.result c.count.result many ∙ ap concat c.new-lines.ensures in
    rw (explanation_is form x)
    (sent_more _ _ _ _ _ _ _ _ _ _ _ _ (rw all at c.in_ok-put_range.ensures) (rw c.requires.totals at c.put.ensures))
