use Rattle.std.proofs.Common.{◌≤◌, add-one, length}
use Rattle.icescan_locate.specs.Dated.{file_line}
use Rattle.icescan_print.proofs.Sends.{flat_all, flat_cut, flat_next, sent_less, sent_more, sent_none, stands_at}
use Rattle.icescan_locate.proofs.dated.put_files.Goals as goal

pub files-init : goal.files-init
files-init g c = sent_none _ _ _ _ _

pub returns-in_err-put_file : goal.returns-in_err-put_file
returns-in_err-put_file g c =
    let item = stands_at c.args.files.now c.files.file-index c.file-item.result c.files-test.true
    c.file-item.is in
    rw (flat_cut file_line c.args.files.now c.files.file-index c.file-item.result item)
    (sent_more _ _ _ _ _ _ _ _ _ _ _ _ c.files.invariant
    (sent_less _ _ _ _ _ _ _ _ _ _ _ c.from_residual.ensures.0 c.in_err-put_file.ensures))

pub files-preserved : goal.files-preserved
files-preserved g c =
    let item = stands_at c.args.files.now c.files.file-index c.file-item.result c.files-test.true
    c.file-item.is in
    rw (add-one, flat_next file_line c.args.files.now c.files.file-index c.file-item.result item)
    (sent_more _ _ _ _ _ _ _ _ _ _ _ _ c.files.invariant c.in_ok-put_file.ensures)

pub returns : goal.returns
returns g c =
    let low : length c.args.files.now ≤ c.files.file-index = c.files-test.false in
    rw (flat_all file_line c.args.files.now c.files.file-index low) at c.files.invariant
