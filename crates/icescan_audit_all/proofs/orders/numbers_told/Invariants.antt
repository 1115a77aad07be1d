use Rattle.std.proofs.Common.{◌≡◌, ◌≤◌, ◌+◌, None, drop}
use Rattle.std.specs.Prelude.{option_map}
use Rattle.icescan_audit_all.specs.Lines.{number_of_faults, number_told}
use Rattle.icescan_audit_all.proofs.orders.numbers_told.Given as goal

-- what was counted, and what is left to count behind the line before
abbrev pub invariant-lines : goal.invariant-lines
invariant-lines l = record {
  told : number_told None l.lines
      ≡ l.told + number_told (option_map (λ b. b.now) l.before) (drop l.line-index l.lines);
  faults : number_of_faults None l.lines
      ≡ l.faults + number_of_faults (option_map (λ b. b.now) l.before) (drop l.line-index l.lines);
  few : l.told ≤ l.line-index;
  fewer : l.faults ≤ l.line-index;
}
