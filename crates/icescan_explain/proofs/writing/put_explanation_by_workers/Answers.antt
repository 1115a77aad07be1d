use Rattle.std.proofs.Common.{◌≡◌, ap, map}
use Rattle.std.specs.List.{concat}
use Rattle.icescan_print.proofs.Sends.{sent_less, sent_more}
use Rattle.icescan_explain.specs.JsonLines.{verdict_told}
use Rattle.icescan_explain.proofs.LineTexts.{explanation_is}
use Rattle.icescan_explain.proofs.writing.put_explanation_by_workers.Goals as goal

pub returns-in_err-put_list_by_workers : goal.returns-in_err-put_list_by_workers
returns-in_err-put_list_by_workers g c =
    let x = c.args.explanation.now in
    let form = c.args.format in
    let all : concat c.new-lines.result ≡ concat (map (verdict_told form x.plan) x.verdicts) =
    ap concat c.new-lines.ensures in
    rw (explanation_is form x)
    (sent_less _ _ _ _ _ _ _ _ _ _ _ c.from_residual.ensures.0 (rw all at c.in_err-put_list_by_workers.ensures))

pub returns : goal.returns
returns g c =
    let x = c.args.explanation.now in
    let form = c.args.format in
    let all : concat c.new-lines.result ≡ concat (map (verdict_told form x.plan) x.verdicts) =
    ap concat c.new-lines.ensures in
    rw (explanation_is form x)
    (sent_more _ _ _ _ _ _ _ _ _ _ _ _ (rw all at c.in_ok-put_list_by_workers.ensures)
    (rw c.requires.totals at c.put.ensures))
