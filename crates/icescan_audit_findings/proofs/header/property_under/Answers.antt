use Rattle.std.proofs.Common.{◌++◌, [], None, suc, length, refl, arith}
use Rattle.std.specs.Option.{option_copied}
use Rattle.std.proofs.lemmas.Result.{err_from_is_err_and}
use Rattle.avro_file_parts.specs.Place.{position_of}
use Rattle.avro_file.specs.Header.{property_at, properties_at}
use Rattle.avro_file.proofs.Loop.{blocks_done, count_fails, block_fails, blocks_on, shorter}
use Rattle.avro_file.proofs.Properties.{no_items, property_takes, none_in_front, some_in_front}
use Rattle.icescan_audit_findings.proofs.Keyed.{found_read, read_fails, under_fails, under_is, under_on}
use Rattle.icescan_audit_findings.proofs.header.property_under.Goals as goal

pub each_block-init : goal.each_block-init
unfolding properties_at
each_block-init c = ([], refl, suc (length c.args.bytes.now), omega arith, refl)

pub returns-in_err-count : goal.returns-in_err-count
returns-in_err-count c =
    let p = err_from_is_err_and c.from_residual.result c.from_residual.ensures.1 in
    let i = c.each_block.invariant in
    rw (p.1, p.2) (under_fails c.in_err-count.field-0.0 c.args.key.now c.args.bytes.now
    (count_fails c.in_err-count.field-0.0
    property_at i.0 i.2 (position_of c.each_block.here) _ (omega (arith, i.3)) c.in_err-count.ensures i.4))

pub returns-then-count-eq0 : goal.returns-then-count-eq0
returns-then-count-eq0 c =
    let i = c.each_block.invariant in
    under_is c.args.key.now c.args.bytes.now (option_copied c.each_block.found) i.0 (position_of c.in_ok-count.after)
    (blocks_done property_at i.0 i.2 _ _ _ _ (omega (arith, i.3)) c.if-count-eq0.true c.in_ok-count.ensures i.4) i.1

pub returns-in_err-more : goal.returns-in_err-more
returns-in_err-more c =
    let p = err_from_is_err_and c.from_residual-in_err-more.result c.from_residual-in_err-more.ensures.1 in
    let i = c.each_block.invariant in
    rw (p.1, p.2) (under_fails c.in_err-more.field-0.0 c.args.key.now c.args.bytes.now
    (block_fails c.in_err-more.field-0.0
    property_at i.0 i.2 _ _ _ _ (omega (arith, i.3)) c.if-count-eq0.false c.in_ok-count.ensures
    (none_in_front i.0 _ _ (read_fails c.in_err-more.field-0.0 _ _ _ c.in_err-more.ensures)) i.4))

pub each_block-smaller : goal.each_block-smaller
each_block-smaller c =
    let more = found_read _ _ _ _ _ c.in_ok-more.ensures in
    shorter property_at _ no_items property_takes [] _ _ _ _ _ c.in_ok-count.ensures (some_in_front [] _ _ _ more.1)

pub each_block-preserved : goal.each_block-preserved
each_block-preserved c =
    let i = c.each_block.invariant in
    let more = found_read _ _ _ _ _ c.in_ok-more.ensures in
    let on = blocks_on property_at i.0 i.2 _ _ _ _ _ _ (omega (arith, i.3)) c.if-count-eq0.false c.in_ok-count.ensures
    (some_in_front i.0 _ _ _ more.1) i.4 in
    let less = shorter property_at _ no_items property_takes [] _ _ _ _ _ c.in_ok-count.ensures
    (some_in_front [] _ _ _ more.1) in (
      i.0 ++ more.0,
      under_on c.args.key.now None (option_copied c.each_block.found) _ i.0 more.0 i.1 more.2,
      on.fewer,
      omega
          (arith, i.3, less, on.one_less),
      on.so_far,
    )
