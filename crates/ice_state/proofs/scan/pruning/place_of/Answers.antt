use Rattle.std.proofs.Common.{rules, of_calls}
use Rattle.std.specs.Prelude.{int_lt}
use Rattle.std.proofs.lemmas.Fn.{always_returns_same}
use Rattle.ice_state.proofs.Specs.{found, parted}
use Rattle.ice_state.proofs.scan.pruning.place_of.Goals as goal

pub returns : goal.returns
returns c =
    let id = c.args.row.now.spec_id in
    let point = c.partition_point.ensures.partitioned (λ s. int_lt s.id c.args.row.now.spec_id) (always_returns_same _ _
    _ (λ a r f k. search (rules, of_calls))) (parted id c.args.specs.now c.requires) in
    found id c.args.specs.now c.partition_point.result c.requires point
