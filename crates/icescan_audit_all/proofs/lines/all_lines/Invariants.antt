use Rattle.std.proofs.Common.{◌≡◌, [], take}
use Rattle.std.specs.List.{flat_map}
use Rattle.icescan_audit_all.specs.Lines.{lines_of}
use Rattle.icescan_audit_all.proofs.lines.all_lines.Given as goal

abbrev pub invariant-audits : goal.invariant-audits
invariant-audits l = record {
  lines : l.lines.items ≡ flat_map (lines_of l.form) (take l.told-index l.audits);
  page : l.page ≡ [];
}
