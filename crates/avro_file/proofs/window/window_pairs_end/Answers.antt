use Rattle.std.proofs.Common.{◌≡◌, arith}
use Rattle.avro_file.proofs.Windows.{first_on, pair_on}
use Rattle.avro_file.proofs.window.window_pairs_end.Goals as goal

pub pairs-init : goal.pairs-init
pairs-init c = first_on c.args.bytes.now c.args.at c.short_ends-ends.result (omega (arith, c.requires))
    c.short_ends-ends.type_inv c.short_ends-ends.ensures

pub returns-then-longs-eq0-clause-ends : goal.returns-then-longs-eq0-clause-ends
returns-then-longs-eq0-clause-ends c = c.pairs.invariant.so_far

pub pairs-preserved : goal.pairs-preserved
pairs-preserved c =
    pair_on c.args.bytes.now c.args.at c.pairs.pairs c.pairs.ends c.pairs.here c.without_first-longs.result
    c.without_first-ends.result (λ j. omega (arith, c.type_inv.bytes j)) c.requires
    (omega (arith, c.if-longs-eq0.false)) c.without_first-longs.type_inv c.without_first-ends.type_inv
    c.without_first-longs.ensures c.without_first-ends.ensures c.pairs.invariant

pub returns-clause-ends : goal.returns-clause-ends
returns-clause-ends c =
    let all : c.pairs.pairs ≡ c.args.most = omega (arith, c.pairs-test.false, c.pairs.auto.pairs-end) in
    rw (← all) c.pairs.invariant.so_far
