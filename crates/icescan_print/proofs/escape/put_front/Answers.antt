use Rattle.std.proofs.Common.{refl, Err}
use Rattle.icescan_print.proofs.Writes.{wrote_less, escaped_split, if_err}
use Rattle.icescan_print.proofs.escape.put_front.Goals as goal

pub returns-in_err-write_all-2-clause-err : goal.returns-in_err-write_all-2-clause-err
returns-in_err-write_all-2-clause-err g c =
    if_err _ _ c.from_residual-in_err-write_all-2.ensures.0 (λ d.
    rw (escaped_split c.args.bytes.now c.count_plain-plain.result, c.count_plain-plain.ensures.plain)
    (wrote_less _ _ _ _ _ (Err d) _ _ refl c.in_err-write_all-2.ensures))
