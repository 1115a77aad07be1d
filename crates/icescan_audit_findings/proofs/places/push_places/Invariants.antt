use Rattle.std.proofs.Common.{◌≡◌, ℕ, take}
use Rattle.std.specs.List.{Contains}
use Rattle.icescan_audit_findings.specs.Places.{HasPlacesOf}
use Rattle.icescan_audit_findings.proofs.places.push_places.Given as goal

-- the places of the ids of the pairs so far are there
abbrev pub invariant-pairs : goal.invariant-pairs
invariant-pairs g l = record {
  same : l.places.pairs ≡ l.by_id.pairs;
  kept : (k : ℕ) → Contains l.fn.found.items k → Contains l.found.items k;
  told : HasPlacesOf l.by_id.pairs.now (take l.pair-index l.pairs) l.found.items;
}
