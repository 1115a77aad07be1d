use Rattle.std.proofs.Common.{◌<◌, ◌≤◌, ℕ, List, length, subst, sym, Ok}
use Rattle.icescan_audit.specs.JsonLines.{total_object}
use Rattle.icescan_print.specs.Written.{Sent}
use Rattle.icescan_print.proofs.Sends.{flat_all, sent_less, sent_more, sent_none}
use Rattle.icescan_audit.proofs.Sends.{cut_at, next_at}
use Rattle.icescan_audit.proofs.json_lines.put_false_totals.Goals as goal

pub totals-init : goal.totals-init
totals-init g c = sent_none _ _ _ _ _

pub returns-in_err-put_false_total : goal.returns-in_err-put_false_total
returns-in_err-put_false_total g c =
    let xs = c.args.totals.now in
    let i = c.totals.total-index in
    let l : i < length xs = c.totals-test.true in
    subst (λ (text : List ℕ). Sent g.S.Sink.taken g.S.Sink.may_fail c.args.sink.now c.args.page.now
    c.from_residual.result c.put_false_total.new.sink c.put_false_total.new.page text)
    (sym (cut_at total_object xs i _ l))
    (sent_more _ _ _ _ _ _ _ _ _ _ _ _ c.totals.invariant
    (sent_less _ _ _ _ _ _ _ _ _ _ _ c.from_residual.ensures.0 c.in_err-put_false_total.ensures))

pub totals-preserved : goal.totals-preserved
totals-preserved g c =
    let xs = c.args.totals.now in
    let i = c.totals.total-index in
    let l : i < length xs = c.totals-test.true in
    subst (λ (text : List ℕ). Sent g.S.Sink.taken g.S.Sink.may_fail c.args.sink.now c.args.page.now (Ok tt)
    c.put_false_total.new.sink c.put_false_total.new.page text)
    (sym (next_at total_object xs i _ l))
    (sent_more _ _ _ _ _ _ _ _ _ _ _ _ c.totals.invariant c.in_ok-put_false_total.ensures)

pub returns : goal.returns
returns g c =
    let low : length c.args.totals.now ≤ c.totals.total-index = c.totals-test.false in
    rw (flat_all total_object c.args.totals.now c.totals.total-index low) at c.totals.invariant
