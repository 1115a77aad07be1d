use Rattle.std.proofs.Common.{◌≡◌, ◌∷◌, [], ◌++◌, refl, rules, subst, sym}
use Rattle.std.specs.IoError.{error_kind}
use Rattle.std.specs.declared.io.ErrorKind.TheVariants.{AlreadyExists}
use Rattle.icescan_files.specs.Disks.{NotLinked}
use Rattle.icescan_files.specs.Disks.Call.{Compare, Link}
use Rattle.icescan_files.specs.Disks.Event.{Done, Refused}
use Rattle.icescan_files.specs.declared.store.StoreFault.TheVariants as store
use Rattle.icescan_files.proofs.Placed.{extends_by, extends_then, occupied}
use Rattle.icescan_files.proofs.folder.placing.link_new.Goals as goal

pub returns-clause-not : goal.returns-clause-not
returns-clause-not g c =
    let aside = g.D.Disk.made_as c.args.file.now in
    let name = c.args.name.now in
    let refused = Refused (error_kind c.in-Err.e) (Link aside name) in
    let kind : error_kind c.in-Err.e ≡ AlreadyExists = search rules in
    extends_then _ _ _ _ _ _
    (extends_by _ _ _ (λ m. m ≡ refused ∷ []) c.in-Err.ensures refl)
    (extends_by _ _ _ (λ m. m ≡ Done (Compare aside name c.is_at.result) ∷ []) c.is_at.ensures refl)
    (λ m n p q. subst (λ x. NotLinked aside name store.There (x ++ n)) (sym p)
    (subst (λ y. NotLinked aside name store.There (refused ∷ y)) (sym q)
    (occupied aside name _ _ kind c.if-is_at.false)))
