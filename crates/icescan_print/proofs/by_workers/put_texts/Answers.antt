use Rattle.icescan_print.proofs.RangeTexts.{draft_at, range_part, range_step}
use Rattle.icescan_print.proofs.Sends.{sent_less, sent_more}
use Rattle.icescan_print.proofs.by_workers.put_texts.Goals.{in-Some+in_ok-put-in-Some}
use Rattle.icescan_print.proofs.by_workers.put_texts.Goals.{in-None+in_ok-put_range-in-None}
use Rattle.icescan_print.proofs.by_workers.put_texts.Goals as goal

pub returns-in_err-put-in-Some : goal.returns-in_err-put-in-Some
returns-in_err-put-in-Some g c =
    let made = c.in-Some.ensures _ (draft_at (g.T.TextList.texts c.args.list.now) c.args.first c.args.each c.args.drafts.now c.loop-i.i
    c.index-drafts-i.result c.requires.texts c.loop-i-test.true c.index-drafts-i.is) in
    rw (range_part (g.T.TextList.texts c.args.list.now) c.args.first c.loop-i.i _ c.args.each c.loop-i-test.true)
    (sent_more _ _ _ _ _ _ _ _ _ _ _ _ c.loop-i.invariant
    (sent_less _ _ _ _ _ _ _ _ _ _ _ c.from_residual.ensures.0 (rw made at c.in_err-put-in-Some.ensures)))

pub returns-in_err-put_range-in-None : goal.returns-in_err-put_range-in-None
returns-in_err-put_range-in-None g c =
    rw (range_part (g.T.TextList.texts c.args.list.now) c.args.first c.loop-i.i _ c.args.each c.loop-i-test.true)
    (sent_more _ _ _ _ _ _ _ _ _ _ _ _ c.loop-i.invariant
    (sent_less _ _ _ _ _ _ _ _ _ _ _ c.from_residual-in_err-put_range-in-None.ensures.0
    c.in_err-put_range-in-None.ensures))

pub loop-i-preserved : goal.loop-i-preserved
loop-i-preserved g c = rw (range_step (g.T.TextList.texts c.args.list.now) c.args.first c.loop-i.i c.args.each)
    (elim c.match-whole_text.branch [
      | in-Some+in_ok-put-in-Some w ↦
          let made = w.in-Some.ensures _ (draft_at (g.T.TextList.texts c.args.list.now) c.args.first c.args.each c.args.drafts.now
          c.loop-i.i c.index-drafts-i.result c.requires.texts c.loop-i-test.true c.index-drafts-i.is) in
          rw (w.sink-is, w.page-is) (sent_more _ _ _ _ _ _ _ _ _ _ _ _ c.loop-i.invariant
          (rw made at w.in_ok-put-in-Some.ensures))
      | in-None+in_ok-put_range-in-None w ↦ rw (w.sink-is, w.page-is) (sent_more _ _ _ _ _ _ _ _ _ _ _ _
          c.loop-i.invariant w.in_ok-put_range-in-None.ensures)
    ])
