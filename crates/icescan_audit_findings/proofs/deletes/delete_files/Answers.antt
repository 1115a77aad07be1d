use Rattle.std.proofs.Common.{◌∙◌, ap, sym, option_map}
use Rattle.icescan_audit_findings.specs.Dangling.{delete_of}
use Rattle.icescan_audit_findings.specs.Lookups.{delete_lent}
use Rattle.icescan_audit_findings.proofs.Stepwise.{maps_more, none_more}
use Rattle.icescan_audit_findings.proofs.deletes.delete_files.Goals as goal
use Rattle.icescan_audit_findings.proofs.deletes.delete_files.Goals.{in-Some+in_ok-push-in-Some, in-None}

pub files-preserved : goal.files-preserved
files-preserved c = elim c.match-delete_of.branch [
  | in-Some+in_ok-push-in-Some w ↦
      rw (w.deletes-is, w.in_ok-push-in-Some.ensures.items)
      (maps_more delete_of delete_lent c.args.files.now c.files.file-index c.file-item.result c.files.deletes.items
      w.in-Some.delete c.files-test.true c.file-item.is c.files.invariant
      (sym c.delete_of.ensures ∙ ap (option_map delete_lent) w.in-Some.is))
  | in-None w ↦
      rw w.deletes-is
      (c.files.invariant
      ∙ sym (none_more delete_of c.args.files.now c.files.file-index c.file-item.result c.files-test.true
      c.file-item.is (sym c.delete_of.ensures ∙ ap (option_map delete_lent) w.in-None.is)))
]
