use Rattle.icescan_audit.proofs.Honest.{files_honest}
use Rattle.icescan_audit.proofs.laws.audits_tell_of_files.Goals as goal

pub returns : goal.returns
returns c = λ world metadata target audit is none. files_honest world metadata target audit is none
