use Rattle.icescan_audit.proofs.Premise.{no_lie, truth}
use Rattle.icescan_audit.proofs.laws.audits_tell_of_summaries.Goals as goal

pub returns : goal.returns
returns c = λ world metadata target audit is. (
  truth c.contents_fit.ensures.cells world metadata target audit is,
  no_lie world metadata target audit is,
)
