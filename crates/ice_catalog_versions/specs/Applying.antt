-- What one commit makes of a table.
use Rattle.std.specs.Prelude.{Option, Some, None, Result, Ok, Err}
use Rattle.ice_catalog_changes.specs.declared.change.Commit.{Commit}
use Rattle.ice_catalog_changes.specs.declared.fault.PrepareFault.{PrepareFault}
use Rattle.ice_catalog_versions.specs.Adding.{next}
use Rattle.ice_catalog_versions.specs.Refusals.{refusal}
use Rattle.ice_catalog_versions.specs.States.{State}

-- the value, unless there is a fault
abbrev pub unless : {X : Type 0} → Option PrepareFault → X → Result X PrepareFault
unless None x = Ok x
unless (Some fault) x = Err fault

-- the next state, or the first refusal
unfoldable pub apply : State → Commit → Result State PrepareFault
apply s c = unless (refusal s c) (next s c)
