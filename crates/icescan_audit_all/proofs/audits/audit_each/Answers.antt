use Rattle.std.proofs.Common.{rules, subst, sym}
use Rattle.std.proofs.lemmas.List.Elements.{All-get_or, All-push}
use Rattle.ice_meta.specs.Targets.{described}
use Rattle.icescan_audit_all.specs.Snapshots.{IsFound, IsListed}
use Rattle.icescan_audit_all.specs.declared.audits.SnapshotAudit.{SnapshotAudit}
use Rattle.icescan_audit_all.specs.declared.listed.Listed.{Listed}
use Rattle.icescan_audit_all.proofs.Bases.{found_of, ids_more}
use Rattle.icescan_audit_all.proofs.audits.audit_each.Goals as goal

pub listed-preserved : goal.listed-preserved
listed-preserved g c =
    let gives = g.F.Files.gives c.args.files.now in
    let d = described c.args.metadata.now.json c.args.metadata.now.table in
    let i = c.listed.each-index in
    let each = c.each-item.result in
    let of_each = subst (IsListed gives d) (sym c.each-item.is)
    (All-get_or (IsListed gives d) c.args.listed.now i each c.listed-test.true c.requires.listed) in
    rw c.in_ok-push.ensures.items (record {
      read = All-push (IsFound gives d) c.listed.audits.items _ c.listed.invariant.read
          (found_of gives d each _ _ _ of_each (search rules) c.in_ok-rows.ensures c.in_ok-audit.ensures.read);
      each = ids_more (λ (a : SnapshotAudit). a.snapshot) (λ (l : Listed). l.snapshot) c.listed.audits.items _
          c.args.listed.now i each c.listed-test.true c.each-item.is c.listed.invariant.each (search rules);
    })
