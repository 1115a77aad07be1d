-- Versions whose rows are covered: the summaries of each row are true of the partition values of its live entries
-- (Apache Iceberg table spec v2, "Manifest Lists": `field_summary`).
use Rattle.std.specs.Prelude.{◌≡◌, ℕ, List, Some, None}
use Rattle.std.specs.FinMap.{get}
use Rattle.std.specs.List.{AllByRecursion}
use Rattle.ice_meta.specs.declared.spec.Spec.{Spec}
use Rattle.ice_manifest.specs.declared.new_file.NewFile.{NewFile}
use Rattle.ice_state.specs.Covering.{AreCovered, RowCovers}
use Rattle.ice_catalog_changes.specs.declared.change.Commit.{Commit}
use Rattle.ice_catalog_versions.specs.Adding.{NewManifest, next_sequence, row_of}
use Rattle.ice_catalog_versions.specs.Bases.{base_rows, current_list, table_specs}
use Rattle.ice_catalog_versions.specs.Histories.{History, start, state_of, step}
use Rattle.ice_catalog_versions.specs.Live.{HasBaseAndChange, IsGrown, new_manifests}
use Rattle.ice_catalog_versions.specs.Refusals.{refusal}
use Rattle.ice_catalog_versions.specs.States.{State}
use Rattle.ice_catalog_versions.specs.Staying.{AreNewTo}

-- the row of a new manifest covers the tuples of its files
abbrev pub CoversFiles : List Spec → ℕ → NewManifest → Type 0
CoversFiles specs sequence added =
    AllByRecursion (λ (f : NewFile). RowCovers specs (row_of sequence added) f.tuple) added.files

-- each row of the current snapshot covers the tuples of its live entries, by the table's partition specs
abbrev pub HasCoveredRows : State → Type 0
HasCoveredRows s = AreCovered (get s.world) (table_specs s.metadata.table) (base_rows s.world s.metadata.table)

-- a table without a current snapshot has no rows to cover
abbrev pub EmptyIsCovered : Type 0
EmptyIsCovered = (s : State) → current_list s.metadata.table ≡ None → HasCoveredRows s

-- the row of each manifest that a commit adds covers the tuples of its files
abbrev pub NewRowsCover : Type 0
NewRowsCover = (s : State) (c : Commit) → refusal s c ≡ None
    → AllByRecursion (CoversFiles (table_specs s.metadata.table) (next_sequence s.metadata.table)) (new_manifests s c)

-- a commit that leaves the base's live entries and adds its own leaves covered rows where the base's were
abbrev pub KeepsCovering : Type 0
KeepsCovering = (s t : State) (c : Commit) → step (Some s) c ≡ Some t → HasBaseAndChange s c t
    → HasCoveredRows s → HasCoveredRows t

-- The rows of the opening are covered, and the files of each commit since then were new: this speaks of data alone.
pub record BeganCovered (h : History) : Type 0 where
  pub opening : (s : State) → start h.opening ≡ Some s → HasCoveredRows s
  pub new : AreNewTo (start h.opening) h.journal

-- so what a history leaves has covered rows, where each of its commits added to what was there
abbrev pub StaysCovered : Type 0
StaysCovered = (h : History) (s : State) → IsGrown h → BeganCovered h → state_of h ≡ Some s → HasCoveredRows s
