use Rattle.std.proofs.Common.{◌≡◌, ◌+◌, ◌-◌, arith}
use Rattle.avro_file.proofs.Windows.{no_pairs, pairs_joined}
use Rattle.avro_file.proofs.quick.long_pairs_end.Goals as goal

pub pairs-init : goal.pairs-init
pairs-init c =
    let none : c.args.count - c.args.count ≡ 0 = omega arith in
    (omega arith, rw none (no_pairs c.args.bytes.now c.args.at c.requires))

pub overflow_sub-bytes : goal.overflow_sub-bytes
overflow_sub-bytes c = (c.pairs.invariant.1 0).0

pub pairs-preserved-then-pairs-gt0 : goal.pairs-preserved-then-pairs-gt0
pairs-preserved-then-pairs-gt0 c =
    let i = c.pairs.invariant in
    let n = c.window_pairs_end-pairs.result.0 in
    let fits = c.window_pairs_end-pairs.ensures.most in
    let so_many : c.args.count - (c.pairs.rest - n) ≡ c.args.count - c.pairs.rest + n = omega (arith, i.0, fits) in (
      omega (arith, i.0),
      rw so_many (pairs_joined (c.args.count - c.pairs.rest) n c.args.bytes.now c.args.at c.pairs.here
          c.window_pairs_end-pairs.result.1 i.1 c.window_pairs_end-pairs.ensures.ends),
    )

pub each_long_pair_end-requires : goal.each_long_pair_end-requires
each_long_pair_end-requires c = (c.pairs.invariant.1 0).0

pub pairs-preserved : goal.pairs-preserved
pairs-preserved c =
    let i = c.pairs.invariant in
    let n = c.min-few.result in
    let so_many : c.args.count - (c.pairs.rest - n) ≡ c.args.count - c.pairs.rest + n = omega (arith, i.0) in (
      omega (arith, i.0),
      rw so_many (pairs_joined (c.args.count - c.pairs.rest) n c.args.bytes.now c.args.at c.pairs.here
          c.in_ok-here.here i.1 c.in_ok-here.ensures),
    )

pub returns : goal.returns
returns c =
    let all : c.args.count - c.pairs.rest ≡ c.args.count = omega (arith, c.pairs-test.false) in
    let i = c.pairs.invariant in
    rw all at i.1
