use Rattle.std.proofs.Common.{take, All}
use Rattle.ice_manifest_fields.specs.Places.{IsKey}
use Rattle.ice_manifest_fields.proofs.columns.see_keys.Given as goal

abbrev pub invariant-pairs : goal.invariant-pairs
invariant-pairs g l = All IsKey (take l.pair-index l.pairs)
