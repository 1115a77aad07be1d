use Rattle.std.proofs.Common.{◌≡◌, ◌∷◌, [], ap, refl, sym, ◌∙◌}
use Rattle.icescan_files.specs.Disks.{Event, IsAsideOf, NothingLinked}
use Rattle.icescan_files.specs.Disks.Call.{Create}
use Rattle.icescan_files.specs.Disks.Event.{Done}
use Rattle.icescan_files.proofs.Placed.{extends_as, extends_by, extends_then, made_after, not_made, nothing_then}
use Rattle.icescan_files.proofs.Placed.{tries_link_nothing}
use Rattle.icescan_files.proofs.folder.placing.create_aside.Goals as goal

pub returns-in_default-clause-not : goal.returns-in_default-clause-not
returns-in_default-clause-not g c = extends_as _ _ _ _ c.loop-number.invariant tries_link_nothing

pub returns-clause-not : goal.returns-clause-not
returns-clause-not g c = extends_as _ _ _ _ c.loop-number.invariant tries_link_nothing

pub returns-in-Ok-create_new-clause-made : goal.returns-in-Ok-create_new-clause-made
returns-in-Ok-create_new-clause-made g c =
    let named = c.in-Ok-create_new.ensures.named in
    let own : IsAsideOf c.args.ids.now c.args.name.now (g.D.Disk.made_as c.in-Ok-create_new.file) =
    (c.folder_of-folder.result.now, c.folder_of-folder.ensures, (c.loop-number.number, named ∙ c.in-Ok.ensures)) in
    extends_then _ _ _ _ _ _ c.loop-number.invariant
    (extends_by _ _ _ (λ n. n ≡ Done (Create _) ∷ []) c.in-Ok-create_new.ensures.told refl)
    (λ m n p q. made_after _ _ m n own p (q ∙ ap (λ a. Done (Create a) ∷ []) (sym named)))

pub returns-in-Err-2-clause-not : goal.returns-in-Err-2-clause-not
returns-in-Err-2-clause-not g c =
    extends_then _ _ _ _ _ _ c.loop-number.invariant
    (extends_by _ _ _ NothingLinked c.in-Err-2.ensures.told refl)
    (λ m n p q. not_made _ _ c.call_fault.ensures (nothing_then m n (tries_link_nothing m p) q))
