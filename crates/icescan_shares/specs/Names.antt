-- The name of a scan: the digest of what the scan is made of. Each part is preceded by its length or by which kind it is,
-- so that equal texts are of equal parts.
use Rattle.std.specs.Prelude.{◌≡◌, ◌<◌, ◌^◌, ℕ, List, [], ◌∷◌, ◌++◌, length, Option, None, Some}
use Rattle.std.specs.Int.{cast_signed, cast_unsigned, to_be_bytes, w64}
use Rattle.sha2.specs.Sha256.{sha256}
use Rattle.ice_meta.specs.declared.metadata.Target.{Target}
use Rattle.ice_meta.specs.declared.metadata.Target.TheVariants as target
use Rattle.icescan_text.specs.declared.request.Request.{Request}

-- bytes, and before them how many they are, in eight bytes, the highest first
abbrev pub run : List ℕ → List ℕ
run bytes = to_be_bytes w64 (length bytes) ++ bytes

-- which snapshot is asked for
abbrev pub target_text : Target → List ℕ
target_text target.Main = 0 ∷ []
target_text (target.Ref name) = 1 ∷ run name
target_text (target.Snapshot id) = 2 ∷ to_be_bytes w64 (cast_unsigned w64 id)

-- the text of the filter, where there is one
abbrev pub filter_text : Option (List ℕ) → List ℕ
filter_text None = 0 ∷ []
filter_text (Some text) = 1 ∷ run text

-- what a scan is made of: the table's metadata, the manifest list, the snapshot and the filter that are asked for
abbrev pub scan_text : List ℕ → List ℕ → Request → List ℕ
scan_text metadata list request =
    run metadata ++ (run list ++ (target_text request.target ++ filter_text request.filter))

abbrev pub scan_name : List ℕ → List ℕ → Request → List ℕ
scan_name metadata list request = sha256 (scan_text metadata list request)

-- the parts are of lengths and numbers that 64 bits have, as any in memory are
abbrev pub IsShort : List ℕ → Type 0
IsShort bytes = length bytes < 2 ^ 64

abbrev pub IsSmallTarget : Target → Type 0
IsSmallTarget target.Main = Unit {0}
IsSmallTarget (target.Ref name) = IsShort name
IsSmallTarget (target.Snapshot id) = cast_signed w64 (cast_unsigned w64 id) ≡ id

abbrev pub IsSmallFilter : Option (List ℕ) → Type 0
IsSmallFilter None = Unit {0}
IsSmallFilter (Some text) = IsShort text

abbrev pub IsSmall : List ℕ → List ℕ → Request → Type 0
IsSmall metadata list request =
    IsShort metadata × IsShort list × IsSmallTarget request.target × IsSmallFilter request.filter
