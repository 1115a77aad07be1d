use Rattle.std.proofs.Common.{◌<◌, arith, get_or, length, rules, w32}
use Rattle.std.specs.Fmt.{signed_decimal}
use Rattle.std.specs.Prelude.{pos}
use mir.Val.{SFits}
use Rattle.std.proofs.lemmas.Int.{to_z-of_z}
use Rattle.icescan_forms.proofs.Lists.{there, sent_next, sent_stops}
use Rattle.icescan_forms.proofs.pieces.put_ids.Goals as goal

pub loop-i-preserved : goal.loop-i-preserved
loop-i-preserved g c =
    let ids = c.args.ids.now in
    let i = c.loop-i.i in
    let l : i < length ids = omega arith in
    let f : SFits w32 (get_or ids i (pos 0)) = search rules in
    let sent = rw c.comma_before.ensures at (simp to_z-of_z at c.in_ok-put_named_int.ensures) in
    sent_next _ _ (λ _ id. signed_decimal id) ids i (get_or ids i (pos 0)) (there ids i (pos 0) l) _ _ _ _ _ _ _ _
    c.loop-i.invariant sent

pub returns-in_err-put_named_int : goal.returns-in_err-put_named_int
returns-in_err-put_named_int g c =
    let ids = c.args.ids.now in
    let i = c.loop-i.i in
    let l : i < length ids = omega arith in
    let f : SFits w32 (get_or ids i (pos 0)) = search rules in
    let sent = rw c.comma_before.ensures at (simp to_z-of_z at c.in_err-put_named_int.ensures) in
    sent_stops _ _ (λ _ id. signed_decimal id) ids i (get_or ids i (pos 0)) (there ids i (pos 0) l) _ _ _ _ _ _ _ _ _
    c.from_residual.ensures.0 c.loop-i.invariant sent
