use Rattle.std.proofs.Common.{◌≡◌, ◌<◌, ◌≤◌, ◌||◌, ℕ, false, length, get_or}
use Rattle.icescan_audit_findings.proofs.reaching.mark_too.Given as goal

abbrev pub invariant-marks : goal.invariant-marks
invariant-marks l = record {
  many : length l.marks ≡ length l.fn.marks;
  done : (k : ℕ) → k < l.i → k < length l.fn.marks →
      get_or l.marks k false ≡ (get_or l.fn.marks k false || get_or l.others k false);
  left : (k : ℕ) → l.i ≤ k → k < length l.fn.marks → get_or l.marks k false ≡ get_or l.fn.marks k false;
}
