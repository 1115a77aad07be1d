use Rattle.std.proofs.Common.{◌≡◌, ◌<◌, ◌||◌, ℕ, false, length, get_or, take}
use Rattle.std.specs.List.{list_any}
use Rattle.icescan_audit_findings.specs.Dangling.{data_files}
use Rattle.icescan_audit_findings.specs.Lookups.{is_hit}
use Rattle.icescan_audit_findings.proofs.reaching.mark_reaching.Given as goal

abbrev pub invariant-files : goal.invariant-files
invariant-files l = record {
  index : l.finder ≡ l.index;
  many : length l.marks ≡ length l.fn.marks;
  marked : (k : ℕ) → k < length l.fn.marks → get_or l.marks k false
      ≡ (get_or l.fn.marks k false || list_any (λ x. is_hit l.index x k) (data_files (take l.file-index l.files)));
}
