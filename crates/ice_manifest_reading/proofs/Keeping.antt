-- What is kept where every entry is.
use Rattle.std.proofs.Common.{◌≡◌, true, List, [], ◌∷◌, filter, Result, Ok, Err, refl, ap}
use Rattle.contract_words.specs.Outcome.{◌>>=◌}
use Rattle.ice_manifest_fields.specs.declared.fault.ManifestFault.{ManifestFault}
use Rattle.ice_manifest_reading.specs.declared.entry.Live.{Live}
use Rattle.ice_manifest_reading.specs.Manifests.{entries, kept_of}

every_one : (ls : List Live) → filter (λ l. true) ls ≡ ls
every_one [] = refl
every_one (l ∷ ls) = ap (λ (rest : List Live). l ∷ rest) (every_one ls)

pub all_kept : (read : Result (List Live) ManifestFault)
    → kept_of (λ l. true) read ≡ (read >>= λ found. Ok (entries found))
all_kept (Ok found) = ap (λ (ls : List Live). Ok (entries ls)) (every_one found)
all_kept (Err f) = refl
