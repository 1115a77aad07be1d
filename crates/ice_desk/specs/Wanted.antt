-- Reading the manifests of a scan that were not taken yet.
use Rattle.std.specs.Prelude.{◌≡◌, ℕ, Bool, List, [], ◌∷◌, length, map, Some, None}
use Rattle.ice_manifest_reading.specs.declared.row.Row.{Row}
use Rattle.ice_state.specs.Contents.{Content, World, content}
use Rattle.ice_state.specs.Scans.{Scanned}
use Rattle.ice_desk.specs.declared.fault.WantedFault.{WantedFault}
use Rattle.ice_desk.specs.declared.fault.WantedFault.TheVariants.{Absent, Device, Memory}
use Rattle.ice_desk.specs.Worlds.{EndsAt, EndsAtAbsent}

-- the rows that were not taken
abbrev pub untaken : Content → List Row → List Row
untaken [] rows = []
untaken (s ∷ ss) [] = []
untaken (Some reading ∷ ss) (row ∷ rows) = untaken ss rows
untaken (None ∷ ss) (row ∷ rows) = row ∷ untaken ss rows

abbrev pub paths_of : List Row → List (List ℕ)
paths_of rows = map (λ row. row.path) rows

-- the paths that are read, in the order of the wanted rows
abbrev pub reads_of : Scanned → Content → List (List ℕ)
reads_of scan c = paths_of (untaken c scan.wanted)

-- the content is that of a set of wanted rows
pub record IsContentOf (world : World) (scan : Scanned) (c : Content) (ts : List Bool) : Type 0 where
  pub flags : length ts ≡ length scan.wanted
  pub is : c ≡ content world scan ts

-- why reading these paths in turn ends: at the first that is not there, at one whose read may fail, or when out
-- of memory
abbrev pub MayStop : World → (List ℕ → Type 0) → List (List ℕ) → WantedFault → Type 0
MayStop world may_fail paths (Absent path) = EndsAtAbsent world paths path
MayStop world may_fail paths (Device path) = EndsAt world may_fail paths path
MayStop world may_fail paths Memory = Unit {0}
