-- Which fault is told of a manifest list or a manifest. The order of the faults is this program's own.
use Rattle.std.specs.Prelude.{◌≡◌, ◌↔◌, ℕ, ◌<◌, false, List, ◌∷◌, ◌++◌, length, Option, Some, Err}
use Rattle.std.specs.Cmp.Lexicographic.{slice_cmp}
use Rattle.std.specs.Ordering.{nat_cmp, is_lt}
use Rattle.std.specs.Set.{distinct_count}
use Rattle.avro_schema.specs.Tree.{Fields, structure}
use Rattle.avro_file.specs.declared.fault.AvroFault.{AvroFault}
use Rattle.avro_file.specs.Value.{Value}
use Rattle.ice_meta.specs.declared.spec.Spec.{Spec}
use Rattle.ice_manifest_fields.specs.declared.fault.ListFault.{ListFault}
use Rattle.ice_manifest_fields.specs.declared.fault.ListFault.TheVariants.{ManifestTwice, TooManyRows}
use Rattle.ice_manifest_fields.specs.declared.fault.ManifestFault.{ManifestFault}
use Rattle.ice_manifest_reading.specs.declared.row.Row.{Row}
use Rattle.ice_manifest_reading.specs.declared.entry.Live.{Live}
use Rattle.ice_manifest_fields.specs.Naming.{in_list, in_manifest}
use Rattle.ice_manifest_reading.specs.Lists.{says_row, same_row, rows_of}
use Rattle.ice_manifest_reading.specs.Manifests.{entry_of, live_of}
use Rattle.ice_manifest_reading.specs.Laws.{IsList, IsManifest, SayRows, SayEntries, HasRows, HasEachPathOnce, HasTwo}

-- ---- the first fault

-- where an object of a list is at fault and none before it is, its fault is told, whatever comes after it
abbrev pub TellsTheFirstRow : Type 0
TellsTheFirstRow = (bytes : List ℕ) (fs : Fields) (before after : List Value) (v : Value)
    (ending : Option AvroFault) (rows : List Row) (f : ListFault)
    → IsList bytes fs (before ++ v ∷ after) ending → SayRows fs before rows → says_row fs v ≡ Err f
    → rows_of bytes ≡ Err f

-- where no object of a list is at fault, the container's fault is told that comes after them
abbrev pub TellsTheListsEnd : Type 0
TellsTheListsEnd = (bytes : List ℕ) (fs : Fields) (vs : List Value) (rows : List Row) (f : AvroFault)
    → IsList bytes fs vs (Some f) → SayRows fs vs rows → rows_of bytes ≡ Err (in_list.of_container f)

-- where an object of a manifest is at fault and none before it is, its fault is told, whatever comes after it
abbrev pub TellsTheFirstEntry : Type 0
TellsTheFirstEntry = (row : Row) (spec : Spec) (bytes : List ℕ) (fs : Fields) (before after : List Value) (v : Value)
    (ending : Option AvroFault) (read : List (Option Live)) (f : ManifestFault)
    → IsManifest spec bytes fs (before ++ v ∷ after) ending → SayEntries row spec fs 0 before read
    → entry_of row spec (length before) (structure fs, v) ≡ Err f
    → live_of row spec bytes ≡ Err f

-- where no object of a manifest is at fault, the container's fault is told that comes after them
abbrev pub TellsTheManifestsEnd : Type 0
TellsTheManifestsEnd = (row : Row) (spec : Spec) (bytes : List ℕ) (fs : Fields) (vs : List Value)
    (read : List (Option Live)) (f : AvroFault)
    → IsManifest spec bytes fs vs (Some f) → SayEntries row spec fs 0 vs read
    → live_of row spec bytes ≡ Err (in_manifest.of_container f)

-- ---- the faults of all rows together

-- of the paths that two different rows have, the least
abbrev pub IsLeastTwice : List Row → List ℕ → Type 0
IsLeastTwice rows path = HasTwo rows path
    × ((other : List ℕ) → HasTwo rows other → is_lt (slice_cmp nat_cmp other path) ≡ false)

-- a path is refused exactly where the list has no fault before and two different rows have it, and no lesser one
abbrev pub RefusesAPathExactly : Type 0
RefusesAPathExactly = (bytes path : List ℕ) → rows_of bytes ≡ Err (ManifestTwice path) ↔ (rows : List Row)
    × HasRows bytes rows × IsLeastTwice rows path

-- there are too many rows exactly where the list has no fault before, no two different rows have one path, and there
-- are more than 65,536, equal ones counted once
abbrev pub RefusesManyExactly : Type 0
RefusesManyExactly = (bytes : List ℕ) → rows_of bytes ≡ Err TooManyRows ↔ (rows : List Row) × HasRows bytes rows
    × HasEachPathOnce rows × (65536 < distinct_count same_row rows)
