use Rattle.std.proofs.Common.{ℕ, List, Some, subst, sym}
use Rattle.std.proofs.lemmas.Result.{err_from_is_err_and}
use Rattle.ice_meta.specs.Targets.{described}
use Rattle.icescan_audit.proofs.AnyFiles.{read_stops}
use Rattle.icescan_audit_all.proofs.Asked.{are_audits}
use Rattle.icescan_audit_all.proofs.running.audits_at.Goals as goal

pub returns-in_err-bytes-clause-stops : goal.returns-in_err-bytes-clause-stops
returns-in_err-bytes-clause-stops g c =
    let p = err_from_is_err_and c.from_residual.result c.from_residual.ensures.1 in
    let no = c.in_err-bytes.ensures in
    rw (p.1, p.2)
    (read_stops (g.F.Files.world c.args.files.now) (g.F.Files.may_fail c.args.files.now) c.in_err-bytes.field-0.0
    no.absent no.device no.write)

pub returns-in_err-audits-clause-stops : goal.returns-in_err-audits-clause-stops
returns-in_err-audits-clause-stops g c =
    let p = err_from_is_err_and c.from_residual-in_err-audits.result c.from_residual-in_err-audits.ensures.1 in
    rw (p.1, p.2) c.in_err-audits.ensures.stops

pub returns-clause-given : goal.returns-clause-given
returns-clause-given g c =
    let gives = g.F.Files.gives c.args.files.now in
    let metadata = c.in_ok-metadata.metadata in
    let read = subst (λ (bytes : List ℕ). gives c.args.path.now (Some bytes)) (sym c.deref.ensures.value)
    c.in_ok-bytes.ensures.given in
    let found = c.in_ok-audits.ensures.found in (
      c.deref.result.now,
      read,
      are_audits gives c.deref.result.now (described metadata.json metadata.table)
          c.in_ok-audits.audits.items c.in_ok-metadata.ensures.read found.all found.each,
    )
