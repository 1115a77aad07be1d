use Rattle.std.proofs.Common.{arith}
use Rattle.std.proofs.lemmas.Result.{err_from_is_err_and}
use Rattle.avro_schema.specs.Tree.{long}
use Rattle.avro_file.specs.Reading.{datum_at}
use Rattle.avro_file.specs.Pairs.{pair}
use Rattle.avro_file.proofs.Loop.{blocks_done, count_fails, block_fails, blocks_on, shorter}
use Rattle.avro_file.proofs.Taken.{datum_takes}
use Rattle.avro_file.proofs.pairs.long_pairs_of.Goals as goal

pub returns-in_err-count : goal.returns-in_err-count
returns-in_err-count c =
    let p = err_from_is_err_and c.from_residual.result c.from_residual.ensures.1 in
    let i = c.each_block.invariant in
    rw (p.1, p.2) (λ m. count_fails c.in_err-count.field-0.0 (datum_at (pair long)) _ i.0 _ _ (omega (arith, i.1))
    c.in_err-count.ensures i.2)

pub returns-then-count-eq0 : goal.returns-then-count-eq0
returns-then-count-eq0 c = let i = c.each_block.invariant in blocks_done _ _ i.0 _ _ _ _ (omega (arith, i.1))
    c.if-count-eq0.true c.in_ok-count.ensures i.2

pub returns-in_err-more : goal.returns-in_err-more
returns-in_err-more c =
    let p = err_from_is_err_and c.from_residual-in_err-more.result c.from_residual-in_err-more.ensures.1 in
    let i = c.each_block.invariant in
    rw (p.1, p.2) (λ m. block_fails c.in_err-more.field-0.0 (datum_at (pair long)) _ i.0 _ _ _ _ (omega (arith, i.1))
    c.if-count-eq0.false c.in_ok-count.ensures (c.in_err-more.ensures m) i.2)

pub each_block-smaller : goal.each_block-smaller
each_block-smaller c = shorter (datum_at (pair long)) _ _ (datum_takes (pair long)) _ _ _ _ _ _ c.in_ok-count.ensures
    c.in_ok-more.ensures

pub each_block-preserved : goal.each_block-preserved
each_block-preserved c =
    let i = c.each_block.invariant in
    let on = blocks_on (datum_at (pair long)) _ i.0 _ _ _ _ _ _ (omega (arith, i.1)) c.if-count-eq0.false
    c.in_ok-count.ensures c.in_ok-more.ensures i.2 in
    let less = shorter (datum_at (pair long)) _ _ (datum_takes (pair long)) _ _ _ _ _ _ c.in_ok-count.ensures
    c.in_ok-more.ensures in
    (on.fewer, omega (arith, i.1, less, on.one_less), on.so_far)
