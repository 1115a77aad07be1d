use Rattle.std.proofs.Common.{◌≡◌, ◌++◌, ℕ, List, map, take, Bor}
use Rattle.std.specs.List.{flat_map}
use Rattle.ice_value.specs.Applying.{DataKey}
use Rattle.icescan_audit_findings.specs.Dangling.{findings_beside, is_reaching, paths_in}
use Rattle.icescan_audit_findings.specs.Lookups.{delete_lent, naming_none}
use Rattle.icescan_audit_findings.proofs.deletes.push_findings.Given as goal

abbrev pub invariant-deletes : goal.invariant-deletes
invariant-deletes l = (xs : List DataKey)
    → naming_none (map (λ (p : Bor (List ℕ)). p.now) l.paths) l.deletes ≡ naming_none (paths_in xs) l.deletes
    → l.marks ≡ map (λ d. is_reaching xs (delete_lent d).1) l.deletes
    → l.findings ≡ l.fn.findings ++ flat_map (findings_beside xs) (map delete_lent (take l.i l.deletes))
