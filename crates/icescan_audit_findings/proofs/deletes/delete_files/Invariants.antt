use Rattle.std.proofs.Common.{◌≡◌, map, take}
use Rattle.icescan_audit_findings.specs.Dangling.{delete_files}
use Rattle.icescan_audit_findings.specs.Lookups.{delete_lent}
use Rattle.icescan_audit_findings.proofs.deletes.delete_files.Given as goal

abbrev pub invariant-files : goal.invariant-files
invariant-files l = map delete_lent l.deletes.items ≡ delete_files (take l.file-index l.files)
