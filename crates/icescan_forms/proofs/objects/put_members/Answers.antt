use Rattle.std.proofs.Common.{◌<◌, length}
use Rattle.icescan_forms.specs.Objects.{member_of}
use Rattle.icescan_forms.specs.ObjectTexts.{member_text}
use Rattle.icescan_print.proofs.Sends.{sent_more}
use Rattle.icescan_forms.proofs.Lists.{there, sent_next, sent_stops, comma_failed, some_there}
use Rattle.icescan_forms.proofs.objects.put_members.Goals as goal

pub returns-in_err-put : goal.returns-in_err-put
returns-in_err-put g c =
    let members = c.args.members.now in
    let i = c.loop-i.i in
    let l : i < length members = c.loop-i-test.true in
    let at = some_there members i l in
    comma_failed _ _ (λ _ m. member_text (member_of m)) members i at.0 at.1
    _ _ _ _ _ _ _ _ _ c.from_residual.ensures.0 c.loop-i.invariant
    (rw c.comma_before.ensures at c.in_err-put.ensures)

pub returns-in_err-put_member : goal.returns-in_err-put_member
returns-in_err-put_member g c =
    let members = c.args.members.now in
    let i = c.loop-i.i in
    let l : i < length members = c.loop-i-test.true in
    sent_stops _ _ (λ _ m. member_text (member_of m)) members i _ (there members i _ l)
    _ _ _ _ _ _ _ _ _ c.from_residual-in_err-put_member.ensures.0 c.loop-i.invariant
    (sent_more _ _ _ _ _ _ _ _ _ _ _ _ (rw c.comma_before.ensures at c.in_ok-put.ensures)
    c.in_err-put_member.ensures)

pub loop-i-preserved : goal.loop-i-preserved
loop-i-preserved g c =
    let members = c.args.members.now in
    let i = c.loop-i.i in
    let l : i < length members = c.loop-i-test.true in
    sent_next _ _ (λ _ m. member_text (member_of m)) members i _ (there members i _ l)
    _ _ _ _ _ _ _ _ c.loop-i.invariant
    (sent_more _ _ _ _ _ _ _ _ _ _ _ _ (rw c.comma_before.ensures at c.in_ok-put.ensures)
    c.in_ok-put_member.ensures)
