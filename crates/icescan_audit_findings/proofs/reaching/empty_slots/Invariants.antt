use Rattle.std.proofs.Common.{◌≡◌, [], length}
use Rattle.icescan_audit_findings.specs.Lookups.{AreSeen}
use Rattle.icescan_audit_findings.proofs.reaching.empty_slots.Given as goal

abbrev pub invariant-slots : goal.invariant-slots
invariant-slots l = record {
  len : length l.slots.items ≡ l.counter;
  empty : AreSeen [] l.slots.items;
}
