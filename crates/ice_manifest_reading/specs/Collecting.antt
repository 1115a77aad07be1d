-- What live entries give, one after the other.
use Rattle.std.specs.Prelude.{Bool, true, false, List, [], ◌∷◌, ◌++◌, Option, Result, Ok}
use Rattle.std.specs.List.{flat_map}
use Rattle.contract_words.specs.Outcome.{◌>>=◌}
use Rattle.ice_manifest_fields.specs.declared.fault.ManifestFault.{ManifestFault}
use Rattle.ice_manifest_reading.specs.declared.entry.Entry.{Entry}
use Rattle.ice_manifest_reading.specs.declared.entry.Live.{Live}
use Rattle.ice_manifest_reading.specs.Manifests.{kept, entries_kept}

-- the entry, if it is kept
abbrev pub if_kept : Bool → Entry → List Entry
if_kept true e = e ∷ []
if_kept false e = []

-- what one live entry gives: its entry if it is kept, and what is told of it
abbrev pub kept_each : (Live → Bool) → Live → List Entry
kept_each keeps live = entries_kept keeps (live ∷ [])

abbrev pub told_each : {T : Type 0} → (Live → T) → Live → List T
told_each tells live = tells live ∷ []

-- what was read, behind what was there before; or the fault
abbrev pub behind : {X : Type 0} → List X → Result (List X) ManifestFault → Result (List X) ManifestFault
behind front read = read >>= λ more. Ok (front ++ more)

-- what the live entries give; a fault is one also where it is that of an entry that would give nothing
abbrev pub given_of : {X : Type 0} → (Live → List X) → Result (List Live) ManifestFault → Result (List X) ManifestFault
given_of gives read = read >>= λ found. Ok (flat_map gives found)

-- what is given once an object was read, behind what was given before it
abbrev pub given_behind :
    {X : Type 0} → (Live → List X) → List X → Result (Option Live) ManifestFault → Result (List X) ManifestFault
given_behind gives front read = read >>= λ live. Ok (front ++ flat_map gives (kept (live ∷ [])))

-- the same of a live entry
abbrev pub live_behind :
    {X : Type 0} → (Live → List X) → List X → Result Live ManifestFault → Result (List X) ManifestFault
live_behind gives front read = read >>= λ live. Ok (front ++ gives live)
