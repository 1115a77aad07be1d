use Rattle.icescan_explain.proofs.Scanned.{file_kept, row_kept}
use Rattle.icescan_explain.proofs.laws.fates_are_those_of_scans.Goals as goal

pub returns-clause-row : goal.returns-clause-row
returns-clause-row c = λ specs filter spec row is. row_kept specs filter spec row is

pub returns-clause-file : goal.returns-clause-file
returns-clause-file c = λ specs filter columns spec l is. file_kept specs filter spec columns l is
