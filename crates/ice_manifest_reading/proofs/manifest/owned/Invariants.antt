use Rattle.std.proofs.Common.{◌≡◌}
use Rattle.ice_manifest_reading.proofs.manifest.owned.Given as goal

abbrev pub invariant-views : goal.invariant-views
invariant-views l = l.entries.items ≡ l.yielded
