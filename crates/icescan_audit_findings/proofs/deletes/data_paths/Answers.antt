use Rattle.std.proofs.Common.{◌∙◌, ap, sym, refl, Bor, List, ℕ, option_map}
use Rattle.ice_value.specs.Applying.{DataKey}
use Rattle.icescan_audit_findings.specs.Dangling.{data_of, paths_in}
use Rattle.icescan_audit_findings.specs.Lookups.{data_lent}
use Rattle.icescan_audit_findings.proofs.Stepwise.{none_more, paths_more}
use Rattle.icescan_audit_findings.proofs.deletes.data_paths.Goals as goal
use Rattle.icescan_audit_findings.proofs.deletes.data_paths.Goals.{in-Some+in_ok-push-in-Some, in-None}

pub files-preserved : goal.files-preserved
files-preserved c = elim c.match-data_of.branch [
  | in-Some+in_ok-push-in-Some w ↦
      rw (w.paths-is, w.in_ok-push-in-Some.ensures.items)
      (paths_more data_of (λ (x : DataKey). x.path) (λ (p : Bor (List ℕ)). p.now) c.args.files.now c.files.file-index
      c.file-item.result c.files.paths.items w.in-Some.found.path (data_lent w.in-Some.found) c.files-test.true
      c.file-item.is c.files.invariant (sym c.data_of.ensures ∙ ap (option_map data_lent) w.in-Some.is) refl)
  | in-None w ↦
      rw w.paths-is
      (c.files.invariant
      ∙ sym (ap paths_in (none_more data_of c.args.files.now c.files.file-index c.file-item.result c.files-test.true
      c.file-item.is (sym c.data_of.ensures ∙ ap (option_map data_lent) w.in-None.is))))
]
