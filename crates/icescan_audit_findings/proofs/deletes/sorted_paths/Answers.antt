use Rattle.std.proofs.Common.{Bor, List, ℕ, map, subst}
use Rattle.std.specs.List.Sorted.{IsPermutation}
use Rattle.std.proofs.lemmas.List.Sorted.{IsPermutation-map}
use Rattle.icescan_audit_findings.proofs.deletes.sorted_paths.Goals as goal

pub returns-clause-same : goal.returns-clause-same
returns-clause-same c =
    let path : Bor (List ℕ) → List ℕ = λ p. p.now in
    let sorted = c.sort_unstable.new.self.items in
    subst (λ (ps : List (List ℕ)). IsPermutation ps (map path sorted)) c.in_ok-paths.ensures
    (IsPermutation-map path c.in_ok-paths.paths.items sorted c.sort_unstable.ensures.permutation)
