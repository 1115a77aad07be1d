use Rattle.std.proofs.Common.{arith}
use Rattle.std.proofs.lemmas.Result.{err_from_is_err_and}
use Rattle.avro_file_parts.proofs.Groups.{narrow_fails, narrow_large, narrow_found}
use Rattle.avro_file_parts.proofs.number.unsigned_32_of.Goals as goal

pub returns-in_err-value : goal.returns-in_err-value
returns-in_err-value c =
    let p = err_from_is_err_and c.from_residual.result c.from_residual.ensures.1 in
    rw (p.1, p.2) (narrow_fails c.in_err-value.field-0.0 c.args.bytes.now c.in_err-value.ensures)

pub returns-then-value-from : goal.returns-then-value-from
returns-then-value-from c = narrow_large c.args.bytes.now c.in_ok-value.value c.in_ok-value.rest.now
    c.in_ok-value.ensures (omega arith)

pub returns : goal.returns
returns c = narrow_found c.args.bytes.now c.in_ok-value.value c.in_ok-value.rest.now c.in_ok-value.ensures (omega arith)
