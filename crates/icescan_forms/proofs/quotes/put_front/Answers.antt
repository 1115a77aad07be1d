use Rattle.std.proofs.Common.{refl, Err}
use Rattle.icescan_print.proofs.Sends.{sent_less}
use Rattle.icescan_forms.proofs.Escapes.{escape_split, if_err}
use Rattle.icescan_forms.proofs.quotes.put_front.Goals as goal

pub returns-in_err-put-clause-err : goal.returns-in_err-put-clause-err
returns-in_err-put-clause-err g c =
    if_err _ _ c.from_residual-in_err-put.ensures.0 (λ d.
    rw (escape_split c.args.bytes.now c.count_plain-plain.result, c.count_plain-plain.ensures.plain)
    (sent_less _ _ _ _ _ _ _ _ (Err d) _ _ refl c.in_err-put.ensures))
