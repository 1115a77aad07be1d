use Rattle.std.proofs.Common.{◌≡◌, ◌≤◌, false, drop, length}
use Rattle.avro_schema.specs.Names.{dotted}
use Rattle.avro_schema.proofs.full_name.last_in.Given as goal

-- no dot is among the bytes that were seen
abbrev pub invariant-bytes : goal.invariant-bytes
invariant-bytes l = (l.start ≤ length l.name) × (dotted (drop l.start l.name) ≡ false)

abbrev pub decreases-bytes : goal.decreases-bytes
decreases-bytes l = l.start
