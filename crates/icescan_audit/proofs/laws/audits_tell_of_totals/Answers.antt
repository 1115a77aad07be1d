use Rattle.icescan_audit.proofs.Totals.{totals_told}
use Rattle.icescan_audit.proofs.laws.audits_tell_of_totals.Goals as goal

pub returns : goal.returns
returns c = λ world metadata target audit subject rows x is asked listed.
    totals_told world metadata target audit subject rows x is asked listed
