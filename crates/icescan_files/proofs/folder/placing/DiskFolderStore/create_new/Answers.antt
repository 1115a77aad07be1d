use Rattle.std.proofs.Common.{ℕ, List, Some, subst, sym}
use Rattle.icescan_files.specs.Disks.{Extends, IsAsideOf, NotPlaced, NotPlacedAt, names_below}
use Rattle.icescan_files.specs.Folders.{IsNamed}
use Rattle.icescan_files.specs.declared.store.StoreFault.{StoreFault}
use Rattle.icescan_files.proofs.Placed.{extends_as, not_placed_as, refused_with}
use Rattle.icescan_files.proofs.folder.placing.DiskFolderStore.create_new.Goals as goal

pub returns-in-Ok-Some-clause-unplaced : goal.returns-in-Ok-Some-clause-unplaced
returns-in-Ok-Some-clause-unplaced g c =
    let folder = c.args.self.now.folder.now in
    let prefix = c.args.self.now.prefix.now in
    let ids = c.args.self.now.ids.now in
    let path = c.args.path.now in
    let bytes = c.args.bytes.now in
    let name = c.as_str.result.now in
    let before = g.D.Disk.events c.args.self.now.disk in
    let end = g.D.Disk.events c.place_new.new.disk in
    let own = IsAsideOf ids name in
    let names = names_below folder prefix ids in
    let found = rw c.in-Ok-Some.field-0-is at c.in-Ok-Some.ensures in
    let named : IsNamed folder prefix path (Some name) =
    subst (λ n. IsNamed folder prefix path (Some n)) (sym c.as_str.ensures.value) found in
    let all : (fault : StoreFault) → Extends before end (NotPlaced own name bytes fault)
    → Extends before end (NotPlacedAt names path bytes fault) =
    λ fault h. extends_as before end (NotPlaced own name bytes fault) (NotPlacedAt names path bytes fault) h
    (λ m p. (name, not_placed_as own (names path name) (λ aside is. (named, is)) name bytes fault m p)) in
    refused_with c.place_new.result (λ fault. Extends before end (NotPlaced own name bytes fault))
    (λ fault. Extends before end (NotPlacedAt names path bytes fault)) c.place_new.ensures.not all
