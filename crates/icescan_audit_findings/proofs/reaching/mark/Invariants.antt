use Rattle.std.proofs.Common.{◌≡◌, ◌<◌, ◌==◌, ◌||◌, ℕ, false, length, get_or, take}
use Rattle.std.specs.List.{list_any}
use Rattle.icescan_audit_findings.proofs.reaching.mark.Given as goal

abbrev pub invariant-numbers : goal.invariant-numbers
invariant-numbers l = record {
  many : length l.marks ≡ length l.fn.marks;
  marked : (k : ℕ) → k < length l.fn.marks → get_or l.marks k false
      ≡ (get_or l.fn.marks k false || list_any (λ n. n == k) (take l.number-index l.numbers));
}
