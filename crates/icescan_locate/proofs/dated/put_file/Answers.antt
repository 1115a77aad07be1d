use Rattle.icescan_locate.specs.Dated.{file_line}
use Rattle.icescan_print.proofs.Sends.{sent_less, sent_more}
use Rattle.icescan_locate.proofs.dated.put_file.Goals as goal

pub returns-in_err-put_named_number : goal.returns-in_err-put_named_number
unfolding file_line
returns-in_err-put_named_number g c =
    sent_less _ _ _ _ _ _ _ _ _ _ _ c.from_residual.ensures.0 c.in_err-put_named_number.ensures

pub returns-in_err-put_time : goal.returns-in_err-put_time
unfolding file_line
returns-in_err-put_time g c =
    sent_more _ _ _ _ _ _ _ _ _ _ _ _ c.in_ok-put_named_number.ensures
    (sent_less _ _ _ _ _ _ _ _ _ _ _ c.from_residual-in_err-put_time.ensures.0 c.in_err-put_time.ensures)

pub returns-in_err-put_named_path : goal.returns-in_err-put_named_path
unfolding file_line
returns-in_err-put_named_path g c =
    let path = rw c.as_bytes.ensures at c.in_err-put_named_path.ensures in
    sent_more _ _ _ _ _ _ _ _ _ _ _ _ c.in_ok-put_named_number.ensures
    (sent_more _ _ _ _ _ _ _ _ _ _ _ _ c.in_ok-put_time.ensures
    (sent_less _ _ _ _ _ _ _ _ _ _ _ c.from_residual-in_err-put_named_path.ensures.0 path))

pub returns : goal.returns
unfolding file_line
returns g c =
    let path = rw c.as_bytes.ensures at c.in_ok-put_named_path.ensures in
    sent_more _ _ _ _ _ _ _ _ _ _ _ _ c.in_ok-put_named_number.ensures
    (sent_more _ _ _ _ _ _ _ _ _ _ _ _ c.in_ok-put_time.ensures
    (sent_more _ _ _ _ _ _ _ _ _ _ _ _ path c.put.ensures))
