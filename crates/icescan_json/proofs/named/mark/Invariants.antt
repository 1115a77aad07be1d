use Rattle.std.proofs.Common.{◌≡◌, length, drop}
use Rattle.icescan_json.specs.Named.{with_marks}
use Rattle.icescan_json.proofs.named.mark.Given as goal

-- what the places that are left will mark
abbrev pub invariant-places : goal.invariant-places
invariant-places l = record {
  many : length l.marks ≡ length l.fn.marks;
  left : with_marks (drop l.i l.places) l.marks ≡ with_marks l.places l.fn.marks;
}
