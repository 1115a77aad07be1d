use Rattle.icescan_explain.proofs.Blamed.{bounds_unnamed, partition_unnamed, row_unnamed}
use Rattle.icescan_explain.proofs.laws.left_out_names_a_predicate.Goals as goal

pub returns-clause-row : goal.returns-clause-row
returns-clause-row c = λ filter spec row h. row_unnamed filter spec row h

pub returns-clause-partition : goal.returns-clause-partition
returns-clause-partition c = λ specs filter columns spec l h. partition_unnamed filter spec specs columns l h

pub returns-clause-bounds : goal.returns-clause-bounds
returns-clause-bounds c = λ specs filter columns spec l few h. bounds_unnamed filter spec specs columns l few h
