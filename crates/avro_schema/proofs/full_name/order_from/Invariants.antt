use Rattle.std.proofs.Common.{◌≡◌, ◌≤◌, drop}
use Rattle.std.specs.Ordering.{nat_cmp}
use Rattle.std.specs.Cmp.Lexicographic.{slice_cmp}
use Rattle.avro_schema.specs.Joined.{joined}
use Rattle.avro_schema.proofs.full_name.order_from.Given as goal

abbrev pub invariant-bytes : goal.invariant-bytes
invariant-bytes l =
    (l.index ≤ l.both)
    × (slice_cmp nat_cmp (drop l.index (joined l.left)) (drop l.index (joined l.right)) ≡ slice_cmp nat_cmp
    (drop l.start (joined l.left)) (drop l.start (joined l.right)))
