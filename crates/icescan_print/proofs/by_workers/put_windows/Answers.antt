use Rattle.std.proofs.Common.{◌≤◌, ◌<◌, ◌*◌, length, arith}
use Rattle.std.proofs.Math.Nat.{mul-le-mul_right, mul-pos}
use Rattle.std.proofs.lemmas.Grind.{div_ceil_times}
use Rattle.std.specs.Int.{div_ceil}
use Rattle.icescan_print.proofs.RangeTexts.{range_all, window_part, window_step}
use Rattle.icescan_print.proofs.Sends.{sent_less, sent_more}
use Rattle.icescan_print.proofs.by_workers.put_windows.Goals as goal

pub returns-in_err-put_ranges : goal.returns-in_err-put_ranges
returns-in_err-put_ranges g c =
    rw (window_part (g.T.TextList.texts c.args.list.now) c.loop-i.i (length c.args.drafts.now * c.args.each))
    (sent_more _ _ _ _ _ _ _ _ _ _ _ _ c.loop-i.invariant
    (sent_less _ _ _ _ _ _ _ _ _ _ _ c.from_residual.ensures.0
    (rw c.loop-i.auto.drafts at c.in_err-put_ranges.ensures.sent)))

pub loop-i-preserved : goal.loop-i-preserved
loop-i-preserved g c = rw (window_step (g.T.TextList.texts c.args.list.now) c.loop-i.i (length c.args.drafts.now * c.args.each))
    (sent_more _ _ _ _ _ _ _ _ _ _ _ _ c.loop-i.invariant
    (rw c.loop-i.auto.drafts at c.in_ok-put_ranges.ensures.sent))

pub returns : goal.returns
returns g c =
    let window = length c.args.drafts.now * c.args.each in
    let some : 0 < window = mul-pos c.requires.drafts.0 c.requires.each.0 in
    let up : c.count.result ≤ div_ceil c.count.result window * window = (div_ceil_times c.count.result window some).0 in
    let enough : c.count.result ≤ c.div_ceil-i-end.result * window = rw c.div_ceil-i-end.ensures up in
    let more : c.div_ceil-i-end.result * window ≤ c.loop-i.i * window = mul-le-mul_right window c.loop-i-test.false in
    let whole : length (g.T.TextList.texts c.args.list.now) ≤ c.loop-i.i * window = omega (arith, c.count.ensures.counted, enough, more) in
    rw (range_all (g.T.TextList.texts c.args.list.now) (c.loop-i.i * window) whole) at c.loop-i.invariant
