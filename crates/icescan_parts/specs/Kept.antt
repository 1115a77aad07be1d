-- The lines of the files that a table reaches without some of its snapshots, and of those that these alone reach, of
-- bytes that reads gave.
use Rattle.std.specs.Prelude.{◌≡◌, Bool, true, false, ℕ, ℤ, List, [], ◌++◌, codes, Option, Some, Ok}
use Rattle.ice_desk.specs.Given.{Giving}
use Rattle.icescan_forms.specs.declared.format.Format.{Format}
use Rattle.icescan_forms.specs.declared.part.Part.{Part}
use Rattle.icescan_forms.specs.declared.part.Part.TheVariants as part
use Rattle.ice_manifest_reading.specs.declared.row.Row.{Row}
use Rattle.ice_meta.specs.Targets.{Described, metadata_of}
use Rattle.icescan_parts.specs.Alone.{alone}
use Rattle.icescan_parts.specs.Gone.{kept, own_kept}
use Rattle.icescan_parts.specs.Ids.{listed}
use Rattle.icescan_parts.specs.Told.{lines_in}
use Rattle.icescan_print.specs.Written.{Appends}
use Rattle.icescan_reachable.specs.Given.{AreLinesGiven, AreLinesGivenAt, AreManifestsBehind, AreRowsBehind}
use Rattle.icescan_reachable.specs.Given.{lists_behind}
use Rattle.icescan_reachable.specs.Lines.{once_in_order}

module _ (gives : Giving) (gone : List ℤ) (path : List ℕ) where
  -- The lines of the files that this metadata reaches, which is at the path, without the snapshots that go: in the
  -- order of their bytes, equal ones once.
  pub record AreLinesKept (metadata : Described) (lines : List (List ℕ)) : Type 0 where
    pub own : List (List ℕ)
    pub lists : List (List ℕ)
    pub rows : List Row
    pub all : List (List ℕ)
    pub of_metadata : own_kept gone path metadata.json ≡ Some own
    pub of_snapshots : lists_behind (kept gone metadata.table.snapshots) own ≡ Some lists
    pub listed : AreRowsBehind gives [] (kept gone metadata.table.snapshots) rows
    pub read : AreManifestsBehind gives lists rows all
    pub are : lines ≡ once_in_order all

  -- The lines of the files that the snapshots that go alone reach: of all lines those whose paths no line of a file has
  -- that is reached without these snapshots.
  pub record AreLinesLetGo (metadata : Described) (lines : List (List ℕ)) : Type 0 where
    pub all : List (List ℕ)
    pub rest : List (List ℕ)
    pub reached : AreLinesGiven gives path metadata all
    pub stay : AreLinesKept metadata rest
    pub are : lines ≡ alone all rest

  -- the same of metadata that a read of the path gave
  pub record AreLinesKeptAt (lines : List (List ℕ)) : Type 0 where
    pub bytes : List ℕ
    pub metadata : Described
    pub given : gives path (Some bytes)
    pub says : metadata_of bytes ≡ Ok metadata
    pub are : AreLinesKept metadata lines

  pub record AreLinesLetGoAt (lines : List (List ℕ)) : Type 0 where
    pub bytes : List ℕ
    pub metadata : Described
    pub given : gives path (Some bytes)
    pub says : metadata_of bytes ≡ Ok metadata
    pub are : AreLinesLetGo metadata lines

-- the lines of the part that is asked for of what the metadata at a path reaches; a text lists the snapshots that go
abbrev pub ArePartLines : Giving → Part → List ℕ → List (List ℕ) → Type 0
ArePartLines gives part.All path lines = AreLinesGivenAt gives path lines
ArePartLines gives (part.Only snapshots) path lines =
    (gone : List ℤ) × (listed gone ≡ codes "," ++ snapshots) × AreLinesLetGoAt gives gone path lines
ArePartLines gives (part.Without snapshots) path lines =
    (gone : List ℤ) × (listed gone ≡ codes "," ++ snapshots) × AreLinesKeptAt gives gone path lines

-- what was written are such lines in a form
abbrev pub WrotePart : Giving → Format → Part → List ℕ → Option (List ℕ) → Option (List ℕ) → Type 0
WrotePart gives form part path output output' =
    (lines : List (List ℕ)) × ArePartLines gives part path lines × Appends output output' (lines_in form lines)

-- some snapshots alone, or what is reached without them
abbrev pub part_by : Bool → List ℕ → Part
part_by true snapshots = part.Only snapshots
part_by false snapshots = part.Without snapshots
