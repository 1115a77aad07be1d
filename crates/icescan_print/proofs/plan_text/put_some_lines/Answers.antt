use Rattle.std.proofs.Common.{◌≡◌, ◌<◌, ◌-◌, ◌+◌, ◌∙◌, min, length, map, arith}
use Rattle.std.proofs.lemmas.List.{length-map}
use Rattle.icescan_print.specs.PlanTexts.{line_text}
use Rattle.icescan_print.proofs.Kept.{line_there}
use Rattle.icescan_print.proofs.RangeTexts.{range_end, range_next, range_stop, text_at}
use Rattle.icescan_print.proofs.Sends.{sent_less, sent_more, sent_none}
use Rattle.icescan_print.proofs.plan_text.put_some_lines.Goals as goal

pub loop-i-init : goal.loop-i-init
loop-i-init g c =
    let none : c.args.first - c.args.first ≡ 0 = omega arith in
    record { same = c.new-made.ensures; from = omega arith; upto = omega arith; sent = rw none (sent_none _ _ _ _ _) }

pub returns-in_err-put_line : goal.returns-in_err-put_line
returns-in_err-put_line g c =
    let there = line_there c.args.lines.now c.loop-i.i (omega (
      arith,
      c.loop-i-test.true,
      c.min-end.ensures,
      c.len.ensures.counted,
    )) in
    let within : c.loop-i.i < c.args.first + c.args.count =
    omega (arith, c.loop-i-test.true, c.min-end.ensures, c.saturating_add.ensures) in
    rw (range_stop (map line_text c.args.lines.now) c.args.first c.loop-i.i c.args.count (line_text there.0)
    c.loop-i.invariant.from within (text_at c.args.lines.now c.loop-i.i there.0 there.1))
    (sent_more _ _ _ _ _ _ _ _ _ _ _ _ c.loop-i.invariant.sent
    (sent_less _ _ _ _ _ _ _ _ _ _ _ c.from_residual.ensures.0
    (c.in_err-put_line.ensures.sent there.0 (rw c.loop-i.invariant.same there.1))))

pub loop-i-preserved : goal.loop-i-preserved
loop-i-preserved g c =
    let there = line_there c.args.lines.now c.loop-i.i (omega (
      arith,
      c.loop-i-test.true,
      c.min-end.ensures,
      c.len.ensures.counted,
    )) in
    record {
      same = c.put_line.ensures.same ∙ c.loop-i.invariant.same;
      from = omega (arith, c.loop-i.invariant.from);
      upto = omega (arith, c.loop-i.invariant.from, c.loop-i-test.true, c.min-end.ensures, c.saturating_add.ensures);
      sent = rw (range_next (map line_text c.args.lines.now) c.args.first c.loop-i.i (line_text there.0)
          c.loop-i.invariant.from (text_at c.args.lines.now c.loop-i.i there.0 there.1))
          (sent_more _ _ _ _ _ _ _ _ _ _ _ _ c.loop-i.invariant.sent
          (c.in_ok-put_line.ensures.sent there.0 (rw c.loop-i.invariant.same there.1)));
    }

pub returns : goal.returns
returns g c =
    let ends : c.min-end.result ≡ min (length (map line_text c.args.lines.now)) (c.args.first + c.args.count) =
    omega (
      arith,
      c.min-end.ensures,
      c.saturating_add.ensures,
      c.len.ensures.counted,
      c.len.ensures.few,
      length-map c.args.lines.now line_text,
    ) in
    rw (← range_end (map line_text c.args.lines.now) c.args.first c.loop-i.i c.args.count c.min-end.result c.loop-i.invariant.from
    c.loop-i.invariant.upto c.loop-i-test.false ends) c.loop-i.invariant.sent
