use Rattle.std.proofs.Common.{◌≡◌, ◌<◌, ◌-◌, ◌+◌, [], get_or, min, length, arith}
use Rattle.icescan_print.proofs.RangeTexts.{range_end, range_next, range_stop}
use Rattle.icescan_print.proofs.Sends.{sent_less, sent_more, sent_none}
use Rattle.icescan_forms.proofs.Lists.{there}
use Rattle.icescan_explain.proofs.verdict_lines.VerdictLinesTextList.put_range.Goals as goal

pub loop-i-init : goal.loop-i-init
loop-i-init g c =
    let none : c.args.first - c.args.first ≡ 0 = omega arith in
    record { from = omega arith; upto = omega arith; sent = rw none (sent_none _ _ _ _ _) }

pub returns-in_err-put_line : goal.returns-in_err-put_line
returns-in_err-put_line g c =
    let texts = c.args.self.now in
    let i = c.loop-i.i in
    let l : i < length texts = omega (arith, c.loop-i-test.true, c.min-end.ensures, c.count.ensures.counted) in
    let text = get_or texts i [] in
    let is = there texts i [] l in
    let within : i < c.args.first + c.args.count =
    omega (arith, c.loop-i-test.true, c.min-end.ensures, c.saturating_add.ensures) in
    rw (range_stop texts c.args.first i c.args.count text c.loop-i.invariant.from within is)
    (sent_more _ _ _ _ _ _ _ _ _ _ _ _ c.loop-i.invariant.sent
    (sent_less _ _ _ _ _ _ _ _ _ _ _ c.from_residual.ensures.0 (c.in_err-put_line.ensures text is)))

pub loop-i-preserved : goal.loop-i-preserved
loop-i-preserved g c =
    let texts = c.args.self.now in
    let i = c.loop-i.i in
    let l : i < length texts = omega (arith, c.loop-i-test.true, c.min-end.ensures, c.count.ensures.counted) in
    let text = get_or texts i [] in
    let is = there texts i [] l in
    record {
      from = omega (arith, c.loop-i.invariant.from);
      upto = omega (arith, c.loop-i.invariant.from, c.loop-i-test.true, c.min-end.ensures, c.saturating_add.ensures);
      sent = rw (range_next texts c.args.first i text c.loop-i.invariant.from is)
          (sent_more _ _ _ _ _ _ _ _ _ _ _ _ c.loop-i.invariant.sent (c.in_ok-put_line.ensures text is));
    }

pub returns : goal.returns
returns g c =
    let texts = c.args.self.now in
    let ends : c.min-end.result ≡ min (length texts) (c.args.first + c.args.count) =
    omega (arith, c.min-end.ensures, c.saturating_add.ensures, c.count.ensures.counted, c.count.ensures.few) in
    rw (← range_end texts c.args.first c.loop-i.i c.args.count c.min-end.result c.loop-i.invariant.from
    c.loop-i.invariant.upto c.loop-i-test.false ends) c.loop-i.invariant.sent
