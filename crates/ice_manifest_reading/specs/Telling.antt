-- What is told of the live entries of a manifest.
use Rattle.std.specs.Prelude.{List, map, Result, Ok}
use Rattle.contract_words.specs.Outcome.{◌>>=◌}
use Rattle.ice_manifest_fields.specs.declared.fault.ManifestFault.{ManifestFault}
use Rattle.ice_manifest_reading.specs.declared.entry.Live.{Live}

-- what is told of each of the live entries, in their order; or the fault of their manifest
abbrev pub told_of : {T : Type 0} → (Live → T) → Result (List Live) ManifestFault → Result (List T) ManifestFault
told_of tells read = read >>= λ found. Ok (map tells found)
