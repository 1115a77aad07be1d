use Rattle.icescan_forms.proofs.Members.{object_is}
use Rattle.icescan_print.proofs.Sends.{sent_less, sent_more}
use Rattle.icescan_forms.proofs.objects.put_object.Goals as goal

pub returns-in_err-put : goal.returns-in_err-put
returns-in_err-put g c = rw (object_is c.args.members.now)
    (sent_less _ _ _ _ _ _ _ _ _ _ _ c.from_residual.ensures.0 c.in_err-put.ensures)

pub returns-in_err-put_members : goal.returns-in_err-put_members
returns-in_err-put_members g c = rw (object_is c.args.members.now)
    (sent_more _ _ _ _ _ _ _ _ _ _ _ _ c.in_ok-put.ensures
    (sent_less _ _ _ _ _ _ _ _ _ _ _ c.from_residual-in_err-put_members.ensures.0 c.in_err-put_members.ensures))

pub returns : goal.returns
returns g c = rw (object_is c.args.members.now)
    (sent_more _ _ _ _ _ _ _ _ _ _ _ _ c.in_ok-put.ensures
    (sent_more _ _ _ _ _ _ _ _ _ _ _ _ c.in_ok-put_members.ensures c.put-2.ensures))
