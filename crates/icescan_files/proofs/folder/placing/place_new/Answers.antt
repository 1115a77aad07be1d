use Rattle.std.proofs.Common.{inr}
use Rattle.icescan_files.specs.Disks.{Extends, IsAsideOf, IsFolderKept, IsFolderLost, IsMade, IsPlaced, IsPutAt}
use Rattle.icescan_files.specs.Disks.{NothingLinked, NotLinked, NotPlaced}
use Rattle.icescan_files.specs.declared.store.StoreFault.{StoreFault}
use Rattle.icescan_files.specs.declared.store.StoreFault.TheVariants as store
use Rattle.icescan_files.proofs.Placed.{done_with, extends_as, extends_by, extends_put, extends_then, failed_with}
use Rattle.icescan_files.proofs.Placed.{made_not_placed, not_linked_before, not_made_is_not_placed}
use Rattle.icescan_files.proofs.Placed.{removing_links_nothing}
use Rattle.icescan_files.proofs.folder.placing.place_new.Goals as goal

pub returns-in-Ok-clause-placed : goal.returns-in-Ok-clause-placed
returns-in-Ok-clause-placed g c =
    let before = g.D.Disk.events c.args.disk.now in
    let removed = g.D.Disk.events c.remove.new.self in
    let end = g.D.Disk.events c.sync_folder.new.disk in
    let name = c.args.name.now in
    let bytes = c.args.bytes.now in
    let own = IsAsideOf c.args.ids.now name in
    let folder = c.folder_of.result.now in
    let puts : Extends removed end (IsFolderKept folder) → Extends before end (IsPlaced own name bytes) =
    λ kept. extends_put before _ _ removed end own name bytes _ _ folder _ IsFolderKept c.in_ok-file.ensures.made
    c.in-Ok.ensures.linked c.remove.ensures c.in-Ok.ensures.same c.folder_of.ensures kept in
    done_with c.sync_folder.result _ _ c.sync_folder.ensures.kept puts

pub returns-in-Ok-clause-not : goal.returns-in-Ok-clause-not
returns-in-Ok-clause-not g c =
    let before = g.D.Disk.events c.args.disk.now in
    let removed = g.D.Disk.events c.remove.new.self in
    let end = g.D.Disk.events c.sync_folder.new.disk in
    let name = c.args.name.now in
    let bytes = c.args.bytes.now in
    let own = IsAsideOf c.args.ids.now name in
    let folder = c.folder_of.result.now in
    let fails : Extends removed end (IsFolderLost folder) → Extends before end (NotPlaced own name bytes store.Failed) =
    λ lost. extends_as before end (IsPutAt own name bytes IsFolderLost) (NotPlaced own name bytes store.Failed)
    (extends_put before _ _ removed end own name bytes _ _ folder _ IsFolderLost c.in_ok-file.ensures.made
    c.in-Ok.ensures.linked c.remove.ensures c.in-Ok.ensures.same c.folder_of.ensures lost)
    (λ m p. inr p) in
    failed_with c.sync_folder.result (Extends removed end (IsFolderLost folder))
    (λ fault. Extends before end (NotPlaced own name bytes fault)) c.sync_folder.ensures.failed
    c.sync_folder.ensures.lost fails

pub returns-in-Err-clause-not : goal.returns-in-Err-clause-not
returns-in-Err-clause-not g c =
    let before = g.D.Disk.events c.args.disk.now in
    let made = g.D.Disk.events c.create_aside.new.disk in
    let tried = g.D.Disk.events c.link_whole-linked.new.disk in
    let removed = g.D.Disk.events c.remove.new.self in
    let name = c.args.name.now in
    let bytes = c.args.bytes.now in
    let own = IsAsideOf c.args.ids.now name in
    let aside = g.D.Disk.made_as c.in_ok-file.file in
    let fault = c.in-Err.fault in
    let removes = extends_by tried removed _ NothingLinked c.remove.ensures
    (removing_links_nothing _ c.remove.result) in
    let rest : Extends made removed (NotLinked aside name fault) =
    extends_then made tried removed (NotLinked aside name fault) NothingLinked (NotLinked aside name fault)
    c.in-Err.ensures.not removes (λ m n p q. not_linked_before aside name fault m n p q) in
    extends_then before made removed (IsMade own aside) (NotLinked aside name fault) (NotPlaced own name bytes fault)
    c.in_ok-file.ensures.made rest (λ m n p q. made_not_placed own aside name bytes fault m n p q)
