use Rattle.std.proofs.Common.{◌≡◌, ◌*◌, ◌^◌, drop}
use Rattle.std.specs.Prelude.{pos, ◌+ℤ◌, ◌-ℤ◌, ◌≤ℤ◌}
use Rattle.icescan_audit_findings.specs.Totals.{total_of}
use Rattle.icescan_audit_findings.proofs.totals.total_of.Given as goal

-- What was counted and what is left come to all; each file adds a number of 64 bits.
abbrev pub invariant-files : goal.invariant-files
invariant-files l = record {
  told : l.sum +ℤ total_of l.total (drop l.file-index l.files) ≡ total_of l.total l.files;
  low : (pos 0 -ℤ pos (l.file-index * 2 ^ 63)) ≤ℤ l.sum;
  high : l.sum ≤ℤ pos (l.file-index * 2 ^ 63);
}
