use Rattle.std.proofs.Common.{◌≡◌, ◌≤◌, ◌-◌, length, take}
use Rattle.icescan_print.specs.Escaping.{escaped}
use Rattle.icescan_print.proofs.escape.count_plain_blocks.Given as goal

-- the bytes so far stand as they are
abbrev pub invariant-loop-count : goal.invariant-loop-count
invariant-loop-count l = record {
  within : l.count ≤ length l.bytes;
  plain : escaped (take l.count l.bytes) ≡ take l.count l.bytes;
}

abbrev pub decreases-loop-count : goal.decreases-loop-count
decreases-loop-count l = length l.bytes - l.count
