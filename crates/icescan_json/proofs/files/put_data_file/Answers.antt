use Rattle.icescan_json.proofs.Objects.{data_is}
use Rattle.icescan_print.proofs.Sends.{sent_less, sent_more}
use Rattle.icescan_json.proofs.files.put_data_file.Goals as goal

pub returns-in_err-put_file : goal.returns-in_err-put_file
returns-in_err-put_file g c = rw (data_is c.args.types.now c.args.file.now) (sent_less _ _ _ _ _ _ _ _ _ _ _
    c.from_residual.ensures.0 c.in_err-put_file.ensures)

pub returns : goal.returns
returns g c = rw (data_is c.args.types.now c.args.file.now) (sent_more _ _ _ _ _ _ _ _ _ _ _ _
    c.in_ok-put_file.ensures c.put.ensures)
