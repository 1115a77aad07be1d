use Rattle.std.proofs.Common.{sym, ◌∙◌}
use Rattle.std.proofs.lemmas.Result.{err_from_is_err_and}
use Rattle.avro_file_parts.specs.Heads.{head_of_block}
use Rattle.avro_file.specs.Where.{file_position_of}
use Rattle.avro_file.proofs.Heads.{head_shorter, enters, ends, left_over, head_stops, nil_when_empty, not_nil}
use Rattle.avro_file.proofs.blocks.entered.Goals as goal

pub returns-then-not-is_empty : goal.returns-then-not-is_empty
returns-then-not-is_empty c = λ s total. sym (c.empty.invariant s total) ∙ left_over s c.args.sync.now total
    (file_position_of c.empty.here) c.empty-test.true (not_nil c.empty.here.block.now (sym c.if-not-is_empty.ensures))

pub returns-then-is_empty : goal.returns-then-is_empty
returns-then-is_empty c = λ s total. sym (c.empty.invariant s total) ∙ ends s c.args.sync.now total
    (file_position_of c.empty.here) c.empty-test.true (nil_when_empty c.empty.here.block.now
    (sym c.if-not-is_empty.ensures)) (nil_when_empty c.empty.here.bytes.now (sym c.if-is_empty.ensures))

pub returns-in_err-head : goal.returns-in_err-head
returns-in_err-head c =
    let p = err_from_is_err_and c.from_residual.result c.from_residual.ensures.1 in
    rw (p.1, p.2) (λ s total. sym (c.empty.invariant s total) ∙ head_stops s c.args.sync.now total
    (file_position_of c.empty.here) c.in_err-head.field-0.0 c.empty-test.true (nil_when_empty c.empty.here.block.now
    (sym c.if-not-is_empty.ensures)) (not_nil c.empty.here.bytes.now (sym c.if-is_empty.ensures))
    c.in_err-head.ensures)

pub empty-smaller : goal.empty-smaller
empty-smaller c = head_shorter c.args.sync.now c.empty.here.bytes.now (head_of_block c.in_ok-head.head)
    c.in_ok-head.ensures

pub empty-preserved : goal.empty-preserved
empty-preserved c = λ s total. sym (enters s c.args.sync.now total (file_position_of c.empty.here)
    (head_of_block c.in_ok-head.head) c.empty-test.true (nil_when_empty c.empty.here.block.now
    (sym c.if-not-is_empty.ensures)) (not_nil c.empty.here.bytes.now (sym c.if-is_empty.ensures)) c.in_ok-head.ensures)
    ∙ c.empty.invariant s total

pub returns : goal.returns
returns c = (c.empty-test.false, λ s total. sym (c.empty.invariant s total))
