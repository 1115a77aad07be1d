-- What became of the manifests of rows, and of their live files.
use Rattle.std.specs.Prelude.{◌≡◌, ◌⊎◌, ℕ, Bool, true, false, List, [], ◌∷◌, ◌++◌, map, Option, Some, None}
use Rattle.std.specs.Prelude.{option_map, Ok, if◌then◌else◌}
use Rattle.std.specs.List.{flat_map}
use Rattle.ice_desk.specs.Given.{Giving}
use Rattle.ice_desk.specs.Worlds.{EndsAt}
use Rattle.icescan_explain.specs.Asking.{ice_filter_tests, tests_of}
use Rattle.icescan_explain.specs.Fates.{file_verdict, is_kept, row_fate, row_verdict}
use Rattle.icescan_explain.specs.declared.tests.FilterTests.{FilterTests}
use Rattle.icescan_explain.specs.declared.tests.SpecTests.{SpecTests}
use Rattle.icescan_explain.specs.declared.verdict.Verdict.{Verdict}
use Rattle.ice_filter.specs.declared.bound.BoundPredicate.{BoundPredicate}
use Rattle.ice_filter.specs.declared.parts.Part.{Part}
use Rattle.ice_manifest_reading.specs.Manifests.{live_of}
use Rattle.ice_manifest_reading.specs.declared.entry.Live.{Live}
use Rattle.ice_manifest_reading.specs.declared.row.Row.{Row}
use Rattle.ice_meta.specs.declared.spec.Spec.{Spec}
use Rattle.ice_state.specs.Contents.{World}
use Rattle.ice_state.specs.Scans.{Scanned, scan_of}
use Rattle.ice_state.specs.Snapshots.{live_or_none}
use Rattle.icescan_text.specs.Reads.{MayEnd, file_in}
use Rattle.icescan_text.specs.declared.fault.RunFault.TheVariants as run
use Rattle.icescan_text.specs.declared.fault.RunFault.{RunFault}

-- the live files of a row's manifest by a spec: none where it is absent or bad
abbrev pub lives_at : World → SpecTests → Row → List Live
lives_at world of_spec row = live_or_none (option_map (live_of row of_spec.spec) (world row.path))

-- whether the manifest of a row is read
abbrev pub is_wanted_by : Option SpecTests → Row → Bool
is_wanted_by None row = false
is_wanted_by (Some of_spec) row = is_kept (row_fate of_spec row)

abbrev pub is_wanted : FilterTests → Row → Bool
is_wanted tests row = is_wanted_by (tests_of tests row.spec_id) row

-- what became of a row's live files, where its manifest is read
abbrev pub files_told : FilterTests → World → SpecTests → Row → List Verdict
files_told tests world of_spec row =
    if is_kept (row_fate of_spec row) then map (file_verdict tests of_spec) (lives_at world of_spec row) else []

-- what became of a row's manifest, and behind it of its live files; of no row the spec is missing
abbrev pub told_by : FilterTests → World → Row → Option SpecTests → List Verdict
told_by tests world row None = []
told_by tests world row (Some of_spec) = row_verdict of_spec row ∷ files_told tests world of_spec row

abbrev pub row_told : FilterTests → World → Row → List Verdict
row_told tests world row = told_by tests world row (tests_of tests row.spec_id)

-- the same of all rows
abbrev pub rows_told : FilterTests → World → List Row → List Verdict
rows_told tests world rows = flat_map (row_told tests world) rows

-- the tests are those of a filter through these specs
abbrev pub AreFor : FilterTests → List Spec → List (Part BoundPredicate) → Type 0
AreFor tests specs filter = (columns : List (List ℕ)) × (tests ≡ ice_filter_tests specs filter columns)

-- the scan is one of rows by the specs and the filter that the tests are for
abbrev pub IsScanFor : FilterTests → Scanned → Type 0
IsScanFor tests scan = (rows : List Row) × (specs : List Spec) × (filter : List (Part BoundPredicate))
    × AreFor tests specs filter × (scan_of rows specs filter ≡ Ok scan)

-- why telling of a row ends: memory ran out, or its manifest, which is wanted, can't be had
abbrev pub MayEndRow : FilterTests → World → (List ℕ → Type 0) → Row → RunFault → Type 0
MayEndRow tests world may_fail row fault = (fault ≡ run.Memory) ⊎ ((is_wanted tests row ≡ true)
    × MayEnd (file_in world row.path) (EndsAt world may_fail (row.path ∷ [])) ⊥ fault)

-- ---- over any files

-- this is told of a row, of bytes that a read of its path gave where its manifest is read
abbrev pub IsToldOf : Giving → FilterTests → Row → List Verdict → Type 0
IsToldOf gives tests row told = (bytes : List ℕ) × (is_wanted tests row ≡ true → gives row.path (Some bytes))
    × (told ≡ row_told tests (λ path. Some bytes) row)

-- this is told of rows, one after the other
abbrev pub AreToldOf : Giving → FilterTests → List Row → List Verdict → Type 0
AreToldOf gives tests [] told = told ≡ []
AreToldOf gives tests (row ∷ rows) told = (first : List Verdict) × (others : List Verdict)
    × IsToldOf gives tests row first × AreToldOf gives tests rows others × (told ≡ first ++ others)
