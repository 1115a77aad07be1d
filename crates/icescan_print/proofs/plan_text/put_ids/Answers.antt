use Rattle.std.proofs.Common.{get_or, rules, w32}
use Rattle.std.specs.Prelude.{pos}
use mir.Val.{SFits}
use Rattle.std.proofs.lemmas.Int.{to_z-of_z}
use Rattle.std.proofs.lemmas.List.{take_rest}
use Rattle.icescan_print.proofs.Sends.{ids_first, sent_less, sent_more}
use Rattle.icescan_print.proofs.plan_text.put_ids.Goals as goal

pub returns-in_err-put_named_int-in-len1-up : goal.returns-in_err-put_named_int-in-len1-up
returns-in_err-put_named_int-in-len1-up g c =
    let f : SFits w32 (get_or c.args.ids.now 0 (pos 0)) = search rules in
    let sent = simp to_z-of_z at c.in_err-put_named_int-in-len1-up.ensures in
    rw (ids_first c.args.ids.now c.in-len1-up.len_at_least) (sent_less _ _ _ _ _ _ _ _ _ _ _ c.from_residual.ensures.0
    sent)

pub returns-in_ok-put_named_int-in-len1-up : goal.returns-in_ok-put_named_int-in-len1-up
returns-in_ok-put_named_int-in-len1-up g c =
    let f : SFits w32 (get_or c.args.ids.now 0 (pos 0)) = search rules in
    let sent = simp to_z-of_z at c.in_ok-put_named_int-in-len1-up.ensures in
    rw (ids_first c.args.ids.now c.in-len1-up.len_at_least) (sent_more _ _ _ _ _ _ _ _ _ _ _ _ sent
    (rw (take_rest c.args.ids.now 1) at c.put_more_ids.ensures))
