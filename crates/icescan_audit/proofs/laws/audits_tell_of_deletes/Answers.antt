use Rattle.std.proofs.Common.{◌↔◌, refl, subst}
use Rattle.std.specs.List.{Contains}
use Rattle.icescan_audit_findings.specs.declared.finding.Flaw.TheVariants.{NamedNotLive, DanglingPositions}
use Rattle.icescan_audit_findings.specs.declared.finding.Flaw.TheVariants.{DanglingEqualities}
use Rattle.ice_value.specs.declared.file_content.FileContent.TheVariants.{EqualityDeletes, PositionDeletes}
use Rattle.icescan_audit.specs.Strays.{DanglesUnder, NamesNoneUnder}
use Rattle.icescan_audit.specs.declared.audit.Audit.{Audit}
use Rattle.icescan_audit.proofs.Strays.{at, dangling_told, named_told, snapshot_read}
use Rattle.icescan_audit.proofs.laws.audits_tell_of_deletes.Goals as goal

pub returns-clause-positions : goal.returns-clause-positions
returns-clause-positions c = λ world metadata target audit subject rows manifest path is asked listed.
    let r = snapshot_read world metadata target audit subject rows is asked listed in
    let fit = c.contents_fit.ensures in
    subst (λ (a : Audit). Contains a.findings (at manifest path DanglingPositions)
    ↔ DanglesUnder PositionDeletes world subject.basis.specs rows manifest path) r.2
    (dangling_told fit.content fit.referenced world subject.basis rows r.0 subject.said r.1 manifest path PositionDeletes (λ h. cc)
    (λ h. cc) refl)

pub returns-clause-equalities : goal.returns-clause-equalities
returns-clause-equalities c = λ world metadata target audit subject rows manifest path is asked listed.
    let r = snapshot_read world metadata target audit subject rows is asked listed in
    let fit = c.contents_fit.ensures in
    subst (λ (a : Audit). Contains a.findings (at manifest path DanglingEqualities)
    ↔ DanglesUnder EqualityDeletes world subject.basis.specs rows manifest path) r.2
    (dangling_told fit.content fit.referenced world subject.basis rows r.0 subject.said r.1 manifest path EqualityDeletes (λ h. cc)
    (λ h. cc) refl)

pub returns-clause-named : goal.returns-clause-named
returns-clause-named c = λ world metadata target audit subject rows manifest path is asked listed.
    let r = snapshot_read world metadata target audit subject rows is asked listed in
    let fit = c.contents_fit.ensures in
    subst (λ (a : Audit). Contains a.findings (at manifest path NamedNotLive)
    ↔ NamesNoneUnder world subject.basis.specs rows manifest path) r.2
    (named_told fit.content fit.referenced world subject.basis rows r.0 subject.said r.1 manifest path)
