use Rattle.std.proofs.Common.{refl}
use Rattle.icescan_audit_all.specs.Snapshots.{reading_kept}
use Rattle.icescan_audit_all.proofs.Bases.{known_read}
use Rattle.icescan_audit_all.proofs.audits.take_row.Goals as goal

pub returns-in-Some-clause-read : goal.returns-in-Some-clause-read
returns-in-Some-clause-read g c =
    let kept = c.in-Some.kept.now in (
      reading_kept kept,
      known_read (g.F.Files.gives c.args.files.now) c.args.known.now c.args.basis.now c.args.row.now kept c.requires
          c.in-Some.ensures,
      refl,
      refl,
      c.in_ok-push_kept.ensures.findings,
      c.in_ok-push_kept.ensures.live,
    )
