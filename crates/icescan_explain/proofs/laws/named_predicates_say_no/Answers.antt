use Rattle.icescan_explain.proofs.Blamed.{bounds_named, partition_named, row_named}
use Rattle.icescan_explain.proofs.laws.named_predicates_say_no.Goals as goal

pub returns-clause-row : goal.returns-clause-row
returns-clause-row c = λ filter spec row field h. row_named filter spec row field h

pub returns-clause-partition : goal.returns-clause-partition
returns-clause-partition c = λ specs filter columns spec l field h. partition_named filter spec specs columns l field h

pub returns-clause-bounds : goal.returns-clause-bounds
returns-clause-bounds c = λ specs filter columns spec l column h. bounds_named filter spec specs columns l column h
