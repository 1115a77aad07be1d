use Rattle.std.proofs.Common.{◌<◌, arith, get_or, length}
use Rattle.std.specs.Fmt.{decimal}
use Rattle.icescan_forms.proofs.Lists.{there, sent_one, sent_failed}
use Rattle.icescan_json.specs.Named.{rank}
use Rattle.icescan_json.proofs.tasks.put_places.Goals as goal

pub loop-i-preserved : goal.loop-i-preserved
loop-i-preserved g c =
    let places = c.args.places.now in
    let i = c.loop-i.i in
    let l : i < length places = omega arith in
    let sent = rw (c.comma_before.ensures, c.place-place.ensures) at c.in_ok-put_named_number.ensures in
    sent_one _ _ (λ _ n. decimal (rank c.args.named.now n)) c.args.first places i (get_or places i 0)
    (there places i 0 l) _ _ _ _ _ _ _ _ c.loop-i.invariant sent

pub returns-in_err-put_named_number : goal.returns-in_err-put_named_number
returns-in_err-put_named_number g c =
    let places = c.args.places.now in
    let i = c.loop-i.i in
    let l : i < length places = omega arith in
    let sent = rw (c.comma_before.ensures, c.place-place.ensures) at c.in_err-put_named_number.ensures in
    sent_failed _ _ (λ _ n. decimal (rank c.args.named.now n)) c.args.first places i (get_or places i 0)
    (there places i 0 l) _ _ _ _ _ _ _ _ _ c.from_residual.ensures.0 c.loop-i.invariant sent
