-- What commits leave as it was.
use Rattle.std.proofs.Common.{◌≡◌, ℕ, Bool, true, false, List, [], ◌∷◌, Ordering, Less, Equal, Greater, refl, sym, ◌∙◌}
use Rattle.std.proofs.Common.{ap, subst}
use Rattle.std.specs.Prelude.{Option, Some, None, Result}
use Rattle.std.specs.Cmp.Lexicographic.{slice_cmp, nat_list_cmp_total}
use Rattle.std.specs.FinMap.{get, get-insert, insert}
use Rattle.std.specs.List.{AllByRecursion}
use Rattle.std.specs.Option.{option_and_then}
use Rattle.std.specs.Ordering.{eq_by_cmp, is_eq, nat_cmp}
use Rattle.std.specs.Result.{result_ok}
use Rattle.std.proofs.lemmas.Map.Lookups.{exact_bytes}
use Rattle.ice_meta.specs.Committing.{next_table}
use Rattle.ice_meta.specs.Targets.{schema_for}
use Rattle.ice_meta.specs.declared.commit.NewSnapshot.{NewSnapshot}
use Rattle.ice_meta.specs.declared.metadata.Target.TheVariants.{Main}
use Rattle.ice_meta.specs.declared.schema.Schema.{Schema}
use Rattle.ice_meta.specs.declared.spec.Spec.{Spec}
use Rattle.ice_meta.specs.declared.table.Table.{Table}
use Rattle.ice_manifest_reading.specs.Lists.{rows_of}
use Rattle.ice_manifest_reading.specs.Manifests.{entries_of}
use Rattle.ice_manifest_reading.specs.declared.entry.Entry.{Entry}
use Rattle.ice_manifest_reading.specs.declared.row.Row.{Row}
use Rattle.ice_catalog_changes.specs.declared.change.Commit.{Commit}
use Rattle.ice_catalog_changes.specs.declared.fault.PrepareFault.{PrepareFault}
use Rattle.ice_catalog_changes.specs.NewFiles.{Added}
use Rattle.ice_catalog_versions.specs.declared.world.World.{World}
use Rattle.ice_catalog_versions.specs.Adding.{added, next, snapshot_of}
use Rattle.ice_catalog_versions.specs.Applying.{apply, unless}
use Rattle.ice_catalog_versions.specs.Bases.{manifest_at, read_at, spec_in, specs_under, table_specs}
use Rattle.ice_catalog_versions.specs.Histories.{replay, step}
use Rattle.ice_catalog_versions.specs.Refusals.{refusal}
use Rattle.ice_catalog_versions.specs.States.{State, with_files}
use Rattle.ice_catalog_versions.specs.Staying.{AreNewTo, IsNewTo, KeepsEntries, KeepsFiles, KeepsRows}

-- ---- one commit

abbrev pub same_path : List ℕ → List ℕ → Bool
same_path = eq_by_cmp (slice_cmp nat_cmp)

is_equal : (o : Ordering) → is_eq o ≡ true → o ≡ Equal
is_equal Less e = absurd cc
is_equal Equal e = refl
is_equal Greater e = absurd cc

-- a path that is there is none that isn't
apart : (w : World) (path bytes other : List ℕ) → get w path ≡ Some bytes → get w other ≡ None
    → same_path path other ≡ false
apart w path bytes other here none =
    let P : (b : Bool) → same_path path other ≡ b → same_path path other ≡ false =
    λ b. elim b as (λ b. same_path path other ≡ b → same_path path other ≡ false) [
      | true ↦ λ e.
          let same : path ≡ other = exact_bytes path other (is_equal (slice_cmp nat_cmp path other) e) in
          let no : Some bytes ≡ None = sym here ∙ (ap (get w) same ∙ none) in
          absurd cc
      | false ↦ λ e. e
    ] in
    P (same_path path other) refl

all_apart : (w : World) (path bytes : List ℕ) (fs : Added) → get w path ≡ Some bytes
    → AllByRecursion (λ (f : List ℕ × List ℕ). get w f.0 ≡ None) fs
    → AllByRecursion (λ (f : List ℕ × List ℕ). same_path path f.0 ≡ false) fs
all_apart w path bytes [] here new = tt
all_apart w path bytes (f ∷ fs) here new = (apart w path bytes f.0 here new.0, all_apart w path bytes fs here new.1)

pub untouched : (w : World) (path bytes : List ℕ) (fs : Added)
    → AllByRecursion (λ (f : List ℕ × List ℕ). same_path path f.0 ≡ false) fs → get w path ≡ Some bytes
    → get (with_files w fs) path ≡ Some bytes
untouched w path bytes [] other here = here
untouched w path bytes (f ∷ fs) other here = untouched (insert w f.0 f.1) path bytes fs other.1
    (get-insert nat_list_cmp_total w f.0 f.1 path ∙ rw other.0 here)

module _ (s : State) (c : Commit) (new : IsNewTo s c) where
  file_stays : (path bytes : List ℕ) → get s.world path ≡ Some bytes → get (next s c).world path ≡ Some bytes
  unfolding next
  file_stays path bytes here = untouched s.world path bytes (added s c) (all_apart s.world path bytes (added s c) here
      new) here

  read_stays : {X E : Type 0} (read : List ℕ → Result X E) (path : List ℕ) (x : X) → read_at s.world read path ≡ Some x
      → read_at (next s c).world read path ≡ Some x
  read_stays {X} {E} read path x h = here (get s.world path) refl h where
    here : (o : Option (List ℕ)) → get s.world path ≡ o → option_and_then (λ bytes. result_ok (read bytes)) o ≡ Some x
        → read_at (next s c).world read path ≡ Some x
    here None e h = absurd cc
    here (Some bytes) e h = ap (option_and_then (λ bytes. result_ok (read bytes))) (file_stays path bytes e) ∙ h

  pub entries_stay : (specs : List Spec) (row : Row) (found : List Entry) → manifest_at s.world specs row ≡ Some found
      → manifest_at (next s c).world specs row ≡ Some found
  entries_stay specs row found h = here (spec_in specs row.spec_id) h where
    here : (o : Option Spec) → option_and_then (λ spec. read_at s.world (entries_of row spec) row.path) o ≡ Some found
        → option_and_then (λ spec. read_at (next s c).world (entries_of row spec) row.path) o ≡ Some found
    here None h = absurd cc
    here (Some spec) h = read_stays (entries_of row spec) row.path found h

specs_same : (o : Option Schema) (t : Table) (added : NewSnapshot)
    → specs_under o (next_table t added) ≡ specs_under o t
specs_same None t added = refl
specs_same (Some schema) t added = refl

pub specs_stay : (s : State) (c : Commit) → table_specs (next s c).metadata.table ≡ table_specs s.metadata.table
unfolding next table_specs schema_for
specs_stay s c = specs_same (schema_for Main s.metadata.table) s.metadata.table (snapshot_of s.metadata.table c)

-- ---- commits in turn

pub stepped : (s t : State) (c : Commit) → step (Some s) c ≡ Some t → next s c ≡ t
unfolding apply
stepped s t c e = here (refusal s c) e where
  here : (r : Option PrepareFault) → result_ok (unless r (next s c)) ≡ Some t → next s c ≡ t
  here None e = cc
  here (Some f) e = absurd cc

pub from_none : (cs : List Commit) → replay None cs ≡ None
from_none [] = refl
from_none (c ∷ cs) = from_none cs

-- what each commit keeps, all keep
kept : (P : State → Type 0) → ((s : State) (c : Commit) → IsNewTo s c → P s → P (next s c))
    → (s t : State) (cs : List Commit) → AreNewTo (Some s) cs → replay (Some s) cs ≡ Some t → P s → P t
kept P one s t [] new is p = let same : s ≡ t = cc in subst P same p
kept P one s t (c ∷ cs) new is p =
    let Q : Option State → Type 0 = λ o. step (Some s) c ≡ o → AreNewTo o cs → replay o cs ≡ Some t → P t in
    let R : (o : Option State) → Q o =
    λ o. elim o as Q [
      | None ↦ λ e more is. let no : None ≡ Some t = sym (from_none cs) ∙ is in absurd cc
      | Some q ↦ λ e more is. kept P one q t cs more is (subst P (stepped s q c e) (one s c new.0 p))
    ] in
    R (step (Some s) c) refl new.1 is

pub keeps_files : KeepsFiles
keeps_files s t cs path bytes lead here = kept (λ s. get s.world path ≡ Some bytes) (λ s c new. file_stays s c new path
    bytes) s t cs lead.0 lead.1 here

pub keeps_rows : KeepsRows
keeps_rows s t cs path rows lead here = kept (λ s. read_at s.world rows_of path ≡ Some rows) (λ s c new. read_stays s c
    new rows_of path rows) s t cs lead.0 lead.1 here

pub keeps_entries : KeepsEntries
keeps_entries s t cs row found lead here =
    let P : State → Type 0 = λ s. manifest_at s.world (table_specs s.metadata.table) row ≡ Some found in
    kept P (λ s c new h. subst (λ (specs : List Spec). manifest_at (next s c).world specs row ≡ Some found)
    (sym (specs_stay s c)) (entries_stay s c new (table_specs s.metadata.table) row found h)) s t cs lead.0 lead.1
    here
