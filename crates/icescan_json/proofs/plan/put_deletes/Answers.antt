use Rattle.std.proofs.Common.{◌≡◌, ◌+◌, ◌≤◌, ◌∙◌, Ok, Some, true, false, add-one, ap, arith, length, slice_get, sym}
use Rattle.serde_json.specs.Written.{compact_text}
use Rattle.icescan_print.proofs.Sends.{sent_more, sent_none}
use Rattle.icescan_forms.proofs.Each.{each_all}
use Rattle.icescan_forms.proofs.Lists.{sent_next, sent_stops, comma_failed}
use Rattle.icescan_json.specs.Named.{marked, rank}
use Rattle.icescan_json.specs.PlanJson.{delete_json}
use Rattle.icescan_json.proofs.Marks.{marked_at, rank_last, rank_next, rank_zero}
use Rattle.icescan_json.proofs.plan.put_deletes.Goals.{then-has+in_ok-put+in_ok-put_delete_file, else-has}
use Rattle.icescan_json.proofs.plan.put_deletes.Goals as goal

pub loop-i-init : goal.loop-i-init
loop-i-init g c = rw (rank_zero c.args.named.now) (sent_none _ _ _ _ _)

pub returns-in_err-put : goal.returns-in_err-put
returns-in_err-put g c =
    let marks = c.args.named.now in
    let deletes = c.args.plan.now.deletes in
    let i = c.loop-i.i in
    let is : slice_get marks i ≡ Some true = c.has.ensures ∙ ap Some c.if-has.true in
    let stands = marked_at marks deletes i c.delete-file.result is c.delete-file.ensures in
    comma_failed _ _ (λ _ x. compact_text (delete_json c.args.types.now x)) (marked marks deletes) (rank marks i)
    c.delete-file.result stands _ _ _ _ _ _ _ _ _ c.from_residual.ensures.0 c.loop-i.invariant
    (rw (c.comma_before.ensures, c.place.ensures) at c.in_err-put.ensures)

pub returns-in_err-put_delete_file : goal.returns-in_err-put_delete_file
returns-in_err-put_delete_file g c =
    let marks = c.args.named.now in
    let deletes = c.args.plan.now.deletes in
    let i = c.loop-i.i in
    let is : slice_get marks i ≡ Some true = c.has.ensures ∙ ap Some c.if-has.true in
    let stands = marked_at marks deletes i c.delete-file.result is c.delete-file.ensures in
    sent_stops _ _ (λ _ x. compact_text (delete_json c.args.types.now x)) (marked marks deletes) (rank marks i)
    c.delete-file.result stands _ _ _ _ _ _ _ _ _ c.from_residual-in_err-put_delete_file.ensures.0 c.loop-i.invariant
    (sent_more _ _ _ _ _ _ _ _ _ _ _ _ (rw (c.comma_before.ensures, c.place.ensures) at c.in_ok-put.ensures)
    c.in_err-put_delete_file.ensures)

pub loop-i-preserved : goal.loop-i-preserved
loop-i-preserved g c = elim c.if-has.branch [
  | then-has+in_ok-put+in_ok-put_delete_file w ↦
      let is : slice_get c.args.named.now c.loop-i.i ≡ Some true = c.has.ensures ∙ ap Some w.if-has.true in
      let next : rank c.args.named.now (c.loop-i.i + 1) ≡ rank c.args.named.now c.loop-i.i + 1 =
      ap (rank c.args.named.now) (add-one c.loop-i.i) ∙ rank_next c.args.named.now c.loop-i.i true is
      ∙ sym (add-one (rank c.args.named.now c.loop-i.i)) in
      rw (w.sink-is, w.page-is, next) (sent_next _ _ (λ _ x. compact_text (delete_json c.args.types.now x))
      (marked c.args.named.now c.args.plan.now.deletes) (rank c.args.named.now c.loop-i.i) w.delete-file.result
      (marked_at c.args.named.now c.args.plan.now.deletes c.loop-i.i w.delete-file.result is w.delete-file.ensures)
      _ _ _ _ _ _ _ (Ok tt) c.loop-i.invariant
      (sent_more _ _ _ _ _ _ _ _ _ _ _ _ (rw (w.comma_before.ensures, w.place.ensures) at w.in_ok-put.ensures)
      w.in_ok-put_delete_file.ensures))
  | else-has w ↦
      let is : slice_get c.args.named.now c.loop-i.i ≡ Some false = c.has.ensures ∙ ap Some w.if-has.false in
      let still : rank c.args.named.now (c.loop-i.i + 1) ≡ rank c.args.named.now c.loop-i.i =
      ap (rank c.args.named.now) (add-one c.loop-i.i) ∙ rank_next c.args.named.now c.loop-i.i false is in
      rw (w.sink-is, w.page-is, still) c.loop-i.invariant
]

pub returns : goal.returns
returns g c =
    let marks = c.args.named.now in
    let deletes = c.args.plan.now.deletes in
    let i = c.loop-i.i in
    let low : length marks ≤ i = omega
    (arith, c.requires, c.count_deletes-i-end.ensures.counted, c.loop-i-test.false) in
    rw (each_all (λ _ x. compact_text (delete_json c.args.types.now x)) 0 (marked marks deletes) (rank marks i)
    (rank_last marks deletes i low))
    at c.loop-i.invariant
