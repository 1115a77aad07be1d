use Rattle.std.proofs.Common.{◌≡◌, [], IfSome, Option, arith, subst}
use Rattle.std.proofs.lemmas.Grind.{common_steps}
use Rattle.ice_state.specs.declared.kept.deletes.KeptDeletes.{KeptDeletes}
use Rattle.ice_state.specs.KeptDeletes.{AreDeletesOf}
use Rattle.ice_state.proofs.DeletesKept.{index_of_all}
use Rattle.ice_state.proofs.finish.planned.Goals as goal

pub planned_by-requires : goal.planned_by-requires
planned_by-requires c =
    let kept = c.args.entries.now in
    let deletes = c.in-Some.deletes in
    let here : AreDeletesOf kept c.requires.0 deletes =
    subst (λ (d : Option KeptDeletes). IfSome d (AreDeletesOf kept c.requires.0)) c.in-Some.is c.requires.2 in
    let none : deletes.waiting.items ≡ [] = grind (arith, common_steps) in
    (c.requires.0, c.requires.1, index_of_all kept c.requires.0 deletes none here)
