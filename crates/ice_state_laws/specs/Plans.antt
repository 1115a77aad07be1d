-- The plan of a snapshot in words of rows, manifests and live entries: what is in it, in which order, and why there is
-- none. Apache Iceberg table spec, version 2, "Scan Planning".
use Rattle.std.specs.Prelude.{◌≡◌, ◌↔◌, ◌≤◌, ℕ, true, false, List, map, Some, Err}
use Rattle.std.specs.List.{Contains, flat_map}
use Rattle.std.specs.List.Sorted.{IsStrictlySortedBy}
use Rattle.std.specs.Cmp.Lexicographic.{slice_cmp}
use Rattle.std.specs.Ordering.{nat_cmp}
use Rattle.ice_value.specs.declared.file_content.FileContent.{FileContent}
use Rattle.ice_value.specs.declared.file_content.FileContent.TheVariants.{Data, PositionDeletes, EqualityDeletes}
use Rattle.ice_meta.specs.declared.spec.Spec.{Spec}
use Rattle.ice_manifest_reading.specs.declared.entry.Entry.{Entry}
use Rattle.ice_manifest_reading.specs.declared.entry.Live.{Live}
use Rattle.ice_manifest_fields.specs.declared.fault.ManifestFault.{ManifestFault}
use Rattle.ice_manifest_reading.specs.declared.row.Row.{Row}
use Rattle.ice_state.specs.Applying.{Applies}
use Rattle.ice_state.specs.Contents.{World, manifest_of}
use Rattle.ice_state.specs.Lines.{OwnedLine}
use Rattle.ice_state.specs.Pruning.{Pruner, kept}
use Rattle.ice_state.specs.Scans.{row_before}
use Rattle.ice_state.specs.Shares.{IsLeastShared, count_at}
use Rattle.ice_state.specs.Snapshots.{live}

-- ---- what is live

-- the entry is live in the manifest of one of the rows
abbrev pub IsLive : World → List Spec → List Row → Live → Type 0
IsLive world specs rows l = (row : Row) × Contains rows row × Contains (live world specs row) l

-- a live data file of which the partition values are kept, and the bounds
abbrev pub IsKeptFile : Pruner → World → List Spec → List Row → Entry → Type 0
IsKeptFile p world specs rows x = (l : Live) × IsLive world specs rows l × (l.entry ≡ x) × (x.file.content ≡ Data)
    × (p.meets x.spec_id x.file.tuple ≡ true) × (p.bounds l.bounds ≡ true)

-- a live delete file of this content that applies to the data file
abbrev pub IsDeleteOf : FileContent → World → List Spec → List Row → Entry → Entry → Type 0
IsDeleteOf content world specs rows x d = (l : Live) × IsLive world specs rows l × (l.entry ≡ d)
    × (d.file.content ≡ content) × Applies x d

-- ---- the plan

-- the plan has a line of this file
abbrev pub HasLine : List OwnedLine → Entry → Type 0
HasLine plan x = (line : OwnedLine) × Contains plan line × (line.file ≡ x)

-- no line of the plan is of this file
abbrev pub Lacks : List OwnedLine → Entry → Type 0
Lacks plan x = HasLine plan x → ⊥

-- each has a lesser path than those behind it, so that no two have one path
abbrev pub AreByPath : List Entry → Type 0
AreByPath xs = IsStrictlySortedBy (slice_cmp nat_cmp) (map (λ x. x.file.path) xs)

-- the row's manifest is there and can't be read, for this fault
abbrev pub IsBad : World → List Spec → Row → ManifestFault → Type 0
IsBad world specs row fault = (bytes : List ℕ) × (world row.path ≡ Some bytes)
    × (manifest_of specs row bytes ≡ Err fault)

abbrev pub NoneIsBad : Pruner → World → List Spec → List Row → Type 0
NoneIsBad p world specs rows = (row : Row) (fault : ManifestFault) → Contains rows row → p.wants row ≡ true
    → IsBad world specs row fault → ⊥

-- The plan of these rows: no wanted row is bad, and no two kept entries share a path. The files of its lines are the
-- data files that are kept; a line has the live delete files that apply to its file, of all rows; and both stand by
-- path.
pub record IsPlan (p : Pruner) (world : World) (specs : List Spec) (rows : List Row) (plan : List OwnedLine)
    : Type 0 where
  pub good : NoneIsBad p world specs rows
  pub apart : (path : List ℕ) → count_at (kept p (flat_map (live world specs) rows)) path ≤ 1
  pub files : (x : Entry) → HasLine plan x ↔ IsKeptFile p world specs rows x
  pub positions : (line : OwnedLine) (d : Entry) → Contains plan line
      → Contains line.positions d ↔ IsDeleteOf PositionDeletes world specs rows line.file d
  pub equalities : (line : OwnedLine) (d : Entry) → Contains plan line
      → Contains line.equalities d ↔ IsDeleteOf EqualityDeletes world specs rows line.file d
  pub by_path : AreByPath (map (λ line. line.file) plan)
  pub positions_by_path : (line : OwnedLine) → Contains plan line → AreByPath line.positions
  pub equalities_by_path : (line : OwnedLine) → Contains plan line → AreByPath line.equalities

-- ---- why there is none

-- of the wanted rows that are bad, one with the least path has this path and this fault
abbrev pub IsLeastBad : Pruner → World → List Spec → List Row → List ℕ → ManifestFault → Type 0
IsLeastBad p world specs rows path fault = (row : Row) × Contains rows row × (p.wants row ≡ true)
    × IsBad world specs row fault × (row.path ≡ path)
    × ((other : Row) (its : ManifestFault) → Contains rows other → p.wants other ≡ true → IsBad world specs other its
    → row_before other row ≡ false)

-- no wanted row is bad, and this is the least path that two kept entries share
abbrev pub IsPathTwice : Pruner → World → List Spec → List Row → List ℕ → Type 0
IsPathTwice p world specs rows path = NoneIsBad p world specs rows
    × IsLeastShared (kept p (flat_map (live world specs) rows)) path
