use Rattle.icescan_json.proofs.Objects.{delete_is}
use Rattle.icescan_print.proofs.Sends.{sent_less, sent_more}
use Rattle.icescan_json.proofs.files.put_delete_file.Goals as goal

pub returns-in_err-put_file : goal.returns-in_err-put_file
returns-in_err-put_file g c = rw (delete_is c.args.types.now c.args.file.now) (sent_less _ _ _ _ _ _ _ _ _ _ _
    c.from_residual.ensures.0 c.in_err-put_file.ensures)

pub returns-in_err-put_kind : goal.returns-in_err-put_kind
returns-in_err-put_kind g c = rw (delete_is c.args.types.now c.args.file.now) (sent_more _ _ _ _ _ _ _ _ _ _ _ _
    c.in_ok-put_file.ensures (sent_less _ _ _ _ _ _ _ _ _ _ _ c.from_residual-in_err-put_kind.ensures.0
    c.in_err-put_kind.ensures))

pub returns : goal.returns
returns g c = rw (delete_is c.args.types.now c.args.file.now) (sent_more _ _ _ _ _ _ _ _ _ _ _ _
    c.in_ok-put_file.ensures (sent_more _ _ _ _ _ _ _ _ _ _ _ _ c.in_ok-put_kind.ensures c.put.ensures))
