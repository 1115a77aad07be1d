use Rattle.std.proofs.Common.{◌≡◌, ◌<◌, ℕ, None, get_or, length, pos, take}
use Rattle.ice_value.specs.Pairs.{last_of}
use Rattle.icescan_audit_findings.proofs.ids.last_said.Given as goal

-- what the pairs so far say
abbrev pub invariant-pairs : goal.invariant-pairs
invariant-pairs g l = record {
  each : length l.said.items ≡ length l.ids;
  told : (k : ℕ) → k < length l.ids → get_or l.said.items k None
      ≡ last_of (get_or l.ids k (pos 0)) (take l.pair-index l.pairs);
}
