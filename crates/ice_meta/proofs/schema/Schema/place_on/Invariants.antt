use Rattle.std.proofs.Common.{◌≡◌, drop, None}
use Rattle.ice_meta.specs.Columns.{place_on}
use Rattle.ice_meta.proofs.schema.Schema.place_on.Given as goal

abbrev pub invariant-names : goal.invariant-names
invariant-names l = place_on l.self.columns l.around (drop l.name-index l.path) ≡ place_on l.self.columns None l.path
