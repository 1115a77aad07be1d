-- Refusals for want of memory.
use Rattle.std.specs.Prelude.{◌≡◌, Result, Ok, Err}
use Rattle.ice_manifest_fields.specs.declared.fault.ManifestFault.{ManifestFault}
use Rattle.ice_manifest_fields.specs.declared.fault.ManifestFault.TheVariants.{Memory}

-- memory was refused
abbrev pub RanOut : {X : Type 0} → Result X ManifestFault → Type 0
RanOut (Ok x) = ⊥
RanOut (Err fault) = fault ≡ Memory
