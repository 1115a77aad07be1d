use Rattle.std.proofs.Common.{◌<◌, ◌≤◌, add-one, arith, length}
use Rattle.icescan_print.proofs.Sends.{flat_all, flat_cut, flat_map-map, flat_next, sent_less, sent_more, stands_at}
use Rattle.icescan_print.proofs.table_text.put_lines.Goals as goal

pub returns-in_err-put_line : goal.returns-in_err-put_line
returns-in_err-put_line g c =
    let low : c.loop-item.item-index < length c.args.items.now = omega arith in
    let is = stands_at c.args.items.now c.loop-item.item-index c.item-item.result low c.item-item.is in
    rw (
      flat_map-map g.T.TableLine.line (λ x. x.now) c.args.items.now,
      flat_cut (λ x. g.T.TableLine.line x.now)
          c.args.items.now c.loop-item.item-index c.item-item.result is,
    )
    (sent_more _ _ _ _ _ _ _ _ _ _ _ _ c.loop-item.invariant (sent_less _ _ _ _ _ _ _ _ _ _ _ c.from_residual.ensures.0
    c.in_err-put_line.ensures))

pub loop-item-preserved : goal.loop-item-preserved
loop-item-preserved g c =
    let low : c.loop-item.item-index < length c.args.items.now = omega arith in
    let is = stands_at c.args.items.now c.loop-item.item-index c.item-item.result low c.item-item.is in
    rw (
      add-one,
      flat_next (λ x. g.T.TableLine.line x.now) c.args.items.now c.loop-item.item-index c.item-item.result
          is,
    )
    (sent_more _ _ _ _ _ _ _ _ _ _ _ _ c.loop-item.invariant c.in_ok-put_line.ensures)

pub returns : goal.returns
returns g c =
    let low : length c.args.items.now ≤ c.loop-item.item-index = omega (arith, c.loop-item-test.false) in
    rw (
      flat_map-map g.T.TableLine.line (λ x. x.now) c.args.items.now,
      ← flat_all (λ x. g.T.TableLine.line x.now)
          c.args.items.now c.loop-item.item-index low,
    ) c.loop-item.invariant
