-- How a check answers.
use Rattle.std.specs.Prelude.{◌≡◌, ◌≢◌, Option, None, Some, Result, Ok, Err}
use Rattle.ice_catalog_changes.specs.declared.fault.PrepareFault.{PrepareFault}
use Rattle.ice_catalog_changes.specs.declared.fault.PrepareFault.TheVariants.{Memory}

-- The call is refused just where there is this reason, unless memory runs out.
abbrev pub Refuses : {X : Type 0} → Result X PrepareFault → Option PrepareFault → Type 0
Refuses (Ok x) reason = reason ≡ None
Refuses (Err f) reason = f ≢ Memory → reason ≡ Some f
