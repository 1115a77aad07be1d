use Rattle.std.proofs.Common.{◌≡◌, ℕ, List, map, take, Bor}
use Rattle.icescan_audit_findings.specs.Dangling.{data_files, paths_in}
use Rattle.icescan_audit_findings.proofs.deletes.data_paths.Given as goal

abbrev pub invariant-files : goal.invariant-files
invariant-files l =
    map (λ (p : Bor (List ℕ)). p.now) l.paths.items ≡ paths_in (data_files (take l.file-index l.files))
