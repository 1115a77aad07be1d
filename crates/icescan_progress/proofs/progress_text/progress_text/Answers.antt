use Rattle.icescan_progress.specs.ProgressTexts.{told}
use Rattle.icescan_progress.proofs.Printed.{told_printed}
use Rattle.icescan_progress.proofs.progress_text.progress_text.Goals as goal

pub returns-clause-shown : goal.returns-clause-shown
returns-clause-shown c = (
  told c.args.files c.args.bytes,
  told_printed c.args.files c.args.bytes c.ranges.files.fits c.ranges.bytes.fits,
  c.in_ok-text.ensures,
)
