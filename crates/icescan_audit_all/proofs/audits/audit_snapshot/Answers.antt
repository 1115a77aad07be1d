use Rattle.std.proofs.Common.{rules, refl, sym}
use Rattle.ice_meta.specs.Targets.{described}
use Rattle.icescan_audit_all.proofs.Bases.{known_for}
use Rattle.icescan_audit_all.proofs.audits.audit_snapshot.Goals as goal

pub take_rows-requires : goal.take_rows-requires
take_rows-requires g c =
    let d = described c.args.metadata.now.json c.args.metadata.now.table in
    known_for (g.F.Files.gives c.args.files.now) d _ c.in_ok-subject.subject
    c.schema_for.result.now _ c.args.listed.now.has_deletes _ c.requires.kept (search rules) c.in_ok-subject.ensures.gives
    (sym c.schema_for.ensures) refl
