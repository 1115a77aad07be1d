-- What reads gave: also of files that may change from one read to the next.
use Rattle.std.specs.Prelude.{◌≡◌, ℕ, List, [], ◌∷◌, Option, Some, None}
use Rattle.ice_manifest_reading.specs.declared.row.Row.{Row}
use Rattle.ice_state.specs.Contents.{Content, World, reading_of}
use Rattle.ice_state.specs.Readings.{Reading}
use Rattle.ice_state.specs.Scans.{Scanned}

-- what a read of a path may give: the bytes of a file, or that there is none
abbrev pub Giving : Type 1
Giving = List ℕ → Option (List ℕ) → Type 0

-- reads give what a world has
abbrev pub AreOf : Giving → World → Type 0
AreOf gives world = (path : List ℕ) (found : Option (List ℕ)) → gives path found → world path ≡ found

-- a manifest that was taken was read from bytes that a read of its path gave
abbrev pub IsSlotGiven : Giving → Scanned → Row → Option Reading → Type 0
IsSlotGiven gives scan row None = Unit {0}
IsSlotGiven gives scan row (Some reading) = (bytes : List ℕ) × gives row.path (Some bytes)
    × (reading ≡ reading_of scan row bytes)

abbrev pub AreSlotsGiven : Giving → Scanned → List Row → Content → Type 0
AreSlotsGiven gives scan [] ss = Unit {0}
AreSlotsGiven gives scan (row ∷ rows) [] = Unit {0}
AreSlotsGiven gives scan (row ∷ rows) (s ∷ ss) = IsSlotGiven gives scan row s × AreSlotsGiven gives scan rows ss

-- each manifest that was taken was read from bytes that a read of its path gave
abbrev pub IsGiven : Giving → Scanned → Content → Type 0
IsGiven gives scan c = AreSlotsGiven gives scan scan.wanted c
