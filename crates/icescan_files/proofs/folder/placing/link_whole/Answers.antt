use Rattle.std.proofs.Common.{◌≡◌, refl, subst, sym}
use Rattle.icescan_files.specs.Disks.{Extends, NothingLinked, NotLinked, filled}
use Rattle.icescan_files.specs.declared.store.StoreFault.{StoreFault}
use Rattle.icescan_files.proofs.Placed.{extends_then, not_linked_after, refused_with}
use Rattle.icescan_files.proofs.folder.placing.link_whole.Goals as goal

pub returns-clause-not : goal.returns-clause-not
returns-clause-not g c =
    let before = g.D.Disk.events c.args.disk.now in
    let mid = g.D.Disk.events c.fill.new.disk in
    let end = g.D.Disk.events c.link_new.new.disk in
    let aside = g.D.Disk.made_as c.args.file.now in
    let name = c.args.name.now in
    let is = filled aside c.args.bytes.now in
    let own = g.D.Disk.made_as c.fill.new.file in
    let adds : (fault : StoreFault) → Extends mid end (NotLinked own name fault)
    → Extends before end (NotLinked aside name fault) =
    λ fault h. extends_then before mid end (λ m. m ≡ is) (NotLinked own name fault) (NotLinked aside name fault)
    c.in_ok-fill.ensures.filled h
    (λ m n p q. not_linked_after aside name fault m n (subst NothingLinked (sym p) refl)
    (subst (λ a. NotLinked a name fault n) c.in_ok-fill.ensures.same q)) in
    refused_with c.link_new.result (λ fault. Extends mid end (NotLinked own name fault))
    (λ fault. Extends before end (NotLinked aside name fault)) c.link_new.ensures.not adds
