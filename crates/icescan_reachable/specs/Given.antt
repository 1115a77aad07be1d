-- The lines of the files that a table reaches, of bytes that reads gave: also where files change from one read to the
-- next. `Reaches` says in other words which files these are.
use Rattle.std.specs.Prelude.{◌≡◌, ℕ, List, [], ◌∷◌, ◌++◌, map, Option, Some, None, Ok, option_and_then}
use Rattle.ice_desk.specs.Given.{Giving}
use Rattle.ice_manifest_reading.specs.Lists.{in_order}
use Rattle.ice_manifest_reading.specs.Manifests.{live_of}
use Rattle.ice_manifest_reading.specs.declared.entry.Live.{Live}
use Rattle.ice_manifest_reading.specs.declared.row.Row.{Row}
use Rattle.ice_meta.specs.Targets.{Described, metadata_of}
use Rattle.ice_meta.specs.declared.snapshot.Snapshot.{Snapshot}
use Rattle.ice_meta.specs.declared.spec.Spec.{Spec}
use Rattle.icescan_print.specs.Written.{Appends}
use Rattle.icescan_reachable.specs.Lines.{entry_line, line, lines_text, once_in_order}
use Rattle.icescan_reachable.specs.Named.{own_lines}
use Rattle.icescan_reachable.specs.declared.kind.FileKind.TheVariants as kind
use Rattle.icescan_text.specs.Reads.{AreRowsGiven}

-- lines, with those of the manifest lists of these snapshots behind them; each snapshot has to have one
abbrev pub lists_behind : List Snapshot → List (List ℕ) → Option (List (List ℕ))
lists_behind [] lines = Some lines
lists_behind (snapshot ∷ snapshots) lines =
    option_and_then (λ list. lists_behind snapshots (lines ++ line kind.List list ∷ [])) snapshot.manifest_list

-- Rows, and those of the manifest lists of these snapshots among them, of which reads gave the bytes. They stand in the
-- order of their paths, equal ones once: a manifest that snapshots share has one row.
abbrev pub AreRowsBehind : Giving → List Row → List Snapshot → List Row → Type 0
AreRowsBehind gives rows [] all = all ≡ rows
AreRowsBehind gives rows (snapshot ∷ snapshots) all = (list : List ℕ) × (snapshot.manifest_list ≡ Some list)
    × (more : List Row) × AreRowsGiven gives list more × AreRowsBehind gives (in_order (rows ++ more)) snapshots all

-- A spec without partition fields: which files a manifest has does not depend on their partition values.
abbrev pub bare_spec : Row → Spec
bare_spec row = record { id = row.spec_id; fields = [] }

-- the lines of the files of live entries
abbrev pub live_line : Live → List ℕ
live_line live = entry_line live.entry

abbrev pub live_lines : List Live → List (List ℕ)
live_lines found = map live_line found

-- the live entries of a row's manifest, of which a read gave the bytes
abbrev pub AreLiveGiven : Giving → Row → List Live → Type 0
AreLiveGiven gives row found =
    (bytes : List ℕ) × gives row.path (Some bytes) × (live_of row (bare_spec row) bytes ≡ Ok found)

-- where there is a row, these are bytes that a read of its manifest gave
abbrev pub IsHeld : Giving → Option Row → List ℕ → Type 0
IsHeld gives None bytes = Unit {0}
IsHeld gives (Some row) bytes = gives row.path (Some bytes)

-- lines, with those of the manifests of these rows and of the files of their live entries behind them
abbrev pub AreManifestsBehind : Giving → List (List ℕ) → List Row → List (List ℕ) → Type 0
AreManifestsBehind gives lines [] all = all ≡ lines
AreManifestsBehind gives lines (row ∷ rows) all = (found : List Live) × AreLiveGiven gives row found
    × AreManifestsBehind gives ((lines ++ line kind.Manifest row.path ∷ []) ++ live_lines found) rows all

-- The lines of the files that this metadata reaches, which is at a path: in the order of their bytes, equal ones once.
pub record AreLinesGiven (gives : Giving) (path : List ℕ) (metadata : Described) (lines : List (List ℕ)) : Type 0 where
  pub own : List (List ℕ)
  pub lists : List (List ℕ)
  pub rows : List Row
  pub all : List (List ℕ)
  pub of_metadata : own_lines path metadata.json ≡ Some own
  pub of_snapshots : lists_behind metadata.table.snapshots own ≡ Some lists
  pub listed : AreRowsBehind gives [] metadata.table.snapshots rows
  pub read : AreManifestsBehind gives lists rows all
  pub are : lines ≡ once_in_order all

-- the same of metadata that a read of the path gave
pub record AreLinesGivenAt (gives : Giving) (path : List ℕ) (lines : List (List ℕ)) : Type 0 where
  pub bytes : List ℕ
  pub metadata : Described
  pub given : gives path (Some bytes)
  pub says : metadata_of bytes ≡ Ok metadata
  pub are : AreLinesGiven gives path metadata lines

-- what was written is the text of such lines
abbrev pub WroteReached : Giving → List ℕ → Option (List ℕ) → Option (List ℕ) → Type 0
WroteReached gives path output output' =
    (lines : List (List ℕ)) × AreLinesGivenAt gives path lines × Appends output output' (lines_text lines)
