use Rattle.icescan_print.proofs.Sends.{sent_less, sent_more}
use Rattle.icescan_json.proofs.files.put_kind.Goals as goal

pub returns-in_err-put-in-EqualityDeletes : goal.returns-in_err-put-in-EqualityDeletes
returns-in_err-put-in-EqualityDeletes g c =
    rw (← c.content.ensures, c.in-EqualityDeletes.is)
    (sent_less _ _ _ _ _ _ _ _ _ _ _ c.from_residual.ensures.0 c.in_err-put-in-EqualityDeletes.ensures)

pub returns-in_err-put_ids-in-EqualityDeletes : goal.returns-in_err-put_ids-in-EqualityDeletes
returns-in_err-put_ids-in-EqualityDeletes g c =
    let ids = rw c.equality_ids.ensures at c.in_err-put_ids-in-EqualityDeletes.ensures in
    rw (← c.content.ensures, c.in-EqualityDeletes.is)
    (sent_more _ _ _ _ _ _ _ _ _ _ _ _ c.in_ok-put-in-EqualityDeletes.ensures
    (sent_less _ _ _ _ _ _ _ _ _ _ _ c.from_residual-in_err-put_ids-in-EqualityDeletes.ensures.0 ids))

pub returns-in_ok-put_ids-in-EqualityDeletes : goal.returns-in_ok-put_ids-in-EqualityDeletes
returns-in_ok-put_ids-in-EqualityDeletes g c =
    let ids = rw c.equality_ids.ensures at c.in_ok-put_ids-in-EqualityDeletes.ensures in
    rw (← c.content.ensures, c.in-EqualityDeletes.is)
    (sent_more _ _ _ _ _ _ _ _ _ _ _ _ c.in_ok-put-in-EqualityDeletes.ensures
    (sent_more _ _ _ _ _ _ _ _ _ _ _ _ ids c.put-in-EqualityDeletes.ensures))
