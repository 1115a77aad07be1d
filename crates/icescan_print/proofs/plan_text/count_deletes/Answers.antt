use Rattle.std.proofs.Common.{ap, arith, length, add-one}
use Rattle.icescan_print.specs.PlanTexts.{deletes_of}
use Rattle.icescan_print.proofs.Sends.{none_counted, sum_next}
use Rattle.icescan_print.proofs.plan_text.count_deletes.Goals as goal

pub returns-then-lacks_deletes : goal.returns-then-lacks_deletes
returns-then-lacks_deletes c = none_counted c.args.lines.now (c.lacks_deletes.ensures c.if-lacks_deletes.true)

pub loop-i-preserved : goal.loop-i-preserved
loop-i-preserved c =
    let positions = ap length c.positions.ensures in
    let equalities = ap length c.equalities.ensures in
    let counted = c.loop-i.invariant in
    rw (add-one, sum_next deletes_of c.args.lines.now c.loop-i.i c.line-line.result c.line-line.ensures) (
      omega (
        arith,
        positions,
        equalities,
        c.len.ensures.counted,
        c.len-in-loop-i.ensures.counted,
        counted.0,
      ),
      omega (arith, c.len.ensures.few, c.len-in-loop-i.ensures.few, counted.1),
    )
