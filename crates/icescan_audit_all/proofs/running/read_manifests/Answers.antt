use Rattle.std.proofs.Common.{subst, sym}
use Rattle.std.specs.List.{All}
use Rattle.ice_meta.specs.Targets.{described}
use Rattle.icescan_audit_all.specs.Snapshots.{IsClass}
use Rattle.icescan_audit_all.proofs.running.read_manifests.Goals as goal

pub returns-clause-kept : goal.returns-clause-kept
returns-clause-kept g c =
    let d = described c.args.metadata.now.json c.args.metadata.now.table in
    c.fill.ensures.kept d (subst (All (IsClass d)) (sym c.deref-2.ensures.value) c.in_ok-classes.ensures.class)
