use Rattle.std.proofs.Common.{arith}
use Rattle.std.proofs.lemmas.Result.{err_from_is_err_and}
use Rattle.avro_schema.specs.Tree.{null}
use Rattle.avro_file.specs.Reading.{datum_at}
use Rattle.avro_file.proofs.Loop.{blocks_done, count_fails, blocks_on, shorter}
use Rattle.avro_file.proofs.Taken.{datum_takes, count_takes}
use Rattle.avro_file.proofs.Steady.{more_nulls}
use Rattle.avro_file.proofs.repeated.nulls_of.Goals as goal

pub returns-in_err-count : goal.returns-in_err-count
returns-in_err-count c =
    let p = err_from_is_err_and c.from_residual.result c.from_residual.ensures.1 in
    let i = c.each_block.invariant in
    rw (p.1, p.2) (count_fails c.in_err-count.field-0.0 (datum_at null) _ i.0 _ _ (omega (arith, i.1))
    c.in_err-count.ensures i.3)

pub returns-then-count-eq0 : goal.returns-then-count-eq0
returns-then-count-eq0 c = let i = c.each_block.invariant in blocks_done _ _ i.0 _ _ _ _ (omega (arith, i.1))
    c.if-count-eq0.true c.in_ok-count.ensures i.3

pub overflow_add-total : goal.overflow_add-total
overflow_add-total c = let taken = count_takes _ _ c.in_ok-count.ensures in
    omega (arith, c.each_block.invariant.2, taken.left)

pub each_block-smaller : goal.each_block-smaller
each_block-smaller c = shorter (datum_at null) _ _ (datum_takes null) _ _ _ _ _ _ c.in_ok-count.ensures
    (more_nulls c.each_block.total c.in_ok-count.count _)

pub each_block-preserved : goal.each_block-preserved
each_block-preserved c =
    let i = c.each_block.invariant in
    let more = more_nulls c.each_block.total c.in_ok-count.count _ in
    let on = blocks_on (datum_at null) _ i.0 _ _ _ _ _ _ (omega (arith, i.1)) c.if-count-eq0.false
    c.in_ok-count.ensures more i.3 in
    let less = shorter (datum_at null) _ _ (datum_takes null) _ _ _ _ _ _ c.in_ok-count.ensures more in
    let taken = count_takes _ _ c.in_ok-count.ensures in
    (on.fewer, omega (arith, i.1, less, on.one_less), omega (arith, i.2, taken.left), on.so_far)
