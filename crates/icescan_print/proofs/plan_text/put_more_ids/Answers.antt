use Rattle.std.proofs.Common.{◌<◌, ◌∷◌, ℕ, List, add-one, arith, get_or, length, rules, w32}
use Rattle.std.specs.Fmt.{signed_decimal}
use Rattle.std.specs.Prelude.{ℤ, pos}
use mir.Val.{SFits}
use Rattle.std.proofs.lemmas.Int.{to_z-of_z}
use Rattle.icescan_print.proofs.Sends.{flat_cut, flat_next, number_at, sent_less, sent_more}
use Rattle.icescan_print.proofs.plan_text.put_more_ids.Goals as goal

abbrev behind_comma : ℤ → List ℕ
behind_comma id = 44 ∷ signed_decimal id

pub loop-id-preserved : goal.loop-id-preserved
loop-id-preserved g c =
    let ids = c.args.ids.now in
    let i = c.loop-id.id-index in
    let l : i < length ids = omega arith in
    let f : SFits w32 (get_or ids i (pos 0)) = search rules in
    let sent = simp to_z-of_z at c.in_ok-put_named_int.ensures in
    rw (add-one, flat_next behind_comma ids i (get_or ids i (pos 0)) (number_at ids i l)) (sent_more _ _ _ _ _ _ _ _ _ _
    _ _ c.loop-id.invariant sent)

pub returns-in_err-put_named_int : goal.returns-in_err-put_named_int
returns-in_err-put_named_int g c =
    let ids = c.args.ids.now in
    let i = c.loop-id.id-index in
    let l : i < length ids = omega arith in
    let f : SFits w32 (get_or ids i (pos 0)) = search rules in
    let sent = simp to_z-of_z at c.in_err-put_named_int.ensures in
    rw (flat_cut behind_comma ids i (get_or ids i (pos 0)) (number_at ids i l))
    (sent_more _ _ _ _ _ _ _ _ _ _ _ _ c.loop-id.invariant (sent_less _ _ _ _ _ _ _ _ _ _ _ c.from_residual.ensures.0
    sent))
