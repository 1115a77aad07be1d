use Rattle.std.proofs.Common.{[], ◌∷◌}
use Rattle.json.specs.Print.{quoted}
use Rattle.serde_json.specs.Written.{compact_text}
use Rattle.icescan_forms.specs.Objects.{value_json}
use Rattle.icescan_print.proofs.Sends.{sent_less, sent_more}
use Rattle.icescan_forms.proofs.objects.put_member.Goals as goal

pub returns-in_err-put_quoted : goal.returns-in_err-put_quoted
returns-in_err-put_quoted g c =
    let member = c.args.member.now in
    sent_less _ _ _ _ _ _ _ _ _ (quoted member.0.now) (58 ∷ compact_text (value_json member.1))
    c.from_residual.ensures.0 (rw c.as_bytes.ensures.value at c.in_err-put_quoted.ensures)

pub returns-in_err-put : goal.returns-in_err-put
returns-in_err-put g c =
    let member = c.args.member.now in
    sent_more _ _ _ _ _ _ _ _ _ _ (quoted member.0.now) (58 ∷ compact_text (value_json member.1))
    (rw c.as_bytes.ensures.value at c.in_ok-put_quoted.ensures)
    (sent_less _ _ _ _ _ _ _ _ _ (58 ∷ []) (compact_text (value_json member.1))
    c.from_residual-in_err-put.ensures.0 c.in_err-put.ensures)

pub returns : goal.returns
returns g c =
    let member = c.args.member.now in
    sent_more _ _ _ _ _ _ _ _ _ _ (quoted member.0.now) (58 ∷ compact_text (value_json member.1))
    (rw c.as_bytes.ensures.value at c.in_ok-put_quoted.ensures)
    (sent_more _ _ _ _ _ _ _ _ _ _ (58 ∷ []) (compact_text (value_json member.1)) c.in_ok-put.ensures
    c.put_value.ensures)
