use Rattle.icescan_print.proofs.Sends.{sent_more, sent_less}
use Rattle.icescan_explain.specs.Texts.{verdict_text}
use Rattle.icescan_explain.proofs.lines.put_verdict.Goals as goal

pub returns-in_err-put : goal.returns-in_err-put
unfolding verdict_text
returns-in_err-put g c =
    let name = rw c.name.ensures at c.in_err-put.ensures in
    λ plan is. sent_less _ _ _ _ _ _ _ _ _ _ _ c.from_residual.ensures.0 name

pub returns-in_err-put_named_path : goal.returns-in_err-put_named_path
unfolding verdict_text
returns-in_err-put_named_path g c =
    let name = rw c.name.ensures at c.in_ok-put.ensures in
    let path = rw c.as_slice.ensures at c.in_err-put_named_path.ensures in
    λ plan is. sent_more _ _ _ _ _ _ _ _ _ _ _ _ name
    (sent_less _ _ _ _ _ _ _ _ _ _ _ c.from_residual-in_err-put_named_path.ensures.0 path)

pub returns-in_err-put_fate : goal.returns-in_err-put_fate
unfolding verdict_text
returns-in_err-put_fate g c =
    let name = rw c.name.ensures at c.in_ok-put.ensures in
    let path = rw c.as_slice.ensures at c.in_ok-put_named_path.ensures in
    λ plan is. sent_more _ _ _ _ _ _ _ _ _ _ _ _ name (sent_more _ _ _ _ _ _ _ _ _ _ _ _ path
    (sent_less _ _ _ _ _ _ _ _ _ _ _ c.from_residual-in_err-put_fate.ensures.0 (c.in_err-put_fate.ensures plan is)))

pub returns : goal.returns
unfolding verdict_text
returns g c =
    let name = rw c.name.ensures at c.in_ok-put.ensures in
    let path = rw c.as_slice.ensures at c.in_ok-put_named_path.ensures in
    λ plan is. sent_more _ _ _ _ _ _ _ _ _ _ _ _ name (sent_more _ _ _ _ _ _ _ _ _ _ _ _ path
    (sent_more _ _ _ _ _ _ _ _ _ _ _ _ (c.in_ok-put_fate.ensures plan is) c.put-2.ensures))
