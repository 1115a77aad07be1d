use Rattle.icescan_json.specs.Texts.{file_text}
use Rattle.icescan_print.proofs.Sends.{sent_less, sent_more}
use Rattle.icescan_json.proofs.files.put_file.Goals as goal

pub returns-in_err-put_file_head : goal.returns-in_err-put_file_head
unfolding file_text
returns-in_err-put_file_head g c = sent_less _ _ _ _ _ _ _ _ _ _ _ c.from_residual.ensures.0
    c.in_err-put_file_head.ensures

pub returns-in_err-put_file_partition : goal.returns-in_err-put_file_partition
unfolding file_text
returns-in_err-put_file_partition g c = sent_more _ _ _ _ _ _ _ _ _ _ _ _ c.in_ok-put_file_head.ensures
    (sent_less _ _ _ _ _ _ _ _ _ _ _ c.from_residual-in_err-put_file_partition.ensures.0
    c.in_err-put_file_partition.ensures)

pub returns : goal.returns
unfolding file_text
returns g c = sent_more _ _ _ _ _ _ _ _ _ _ _ _ c.in_ok-put_file_head.ensures (sent_more _ _ _ _ _ _ _ _ _ _ _ _
    c.in_ok-put_file_partition.ensures c.put_file_sizes.ensures)
