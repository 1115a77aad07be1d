-- Where the summaries tell the truth, rows with kept entries are wanted.
use Rattle.std.proofs.Common.{◌≡◌, ℤ, List, [], ◌∷◌, sym, ap, ◌∙◌, Bool, true, false, cond, map, inl, inr, Option, Some}
use Rattle.std.proofs.Common.{None, subst}
use Rattle.std.specs.List.{list_any, find, AllByRecursion}
use Rattle.std.specs.Ordering.{int_eq}
use Rattle.ice_value.specs.declared.cell.Cell.{Cell}
use Rattle.ice_value.specs.declared.file_bounds.Summary.{Summary}
use Rattle.ice_meta.specs.declared.spec.PartitionField.{PartitionField}
use Rattle.ice_meta.specs.declared.spec.Spec.{Spec}
use Rattle.ice_project.specs.Fields.{field_of}
use Rattle.ice_project.specs.Summaries.{AreSummariesOf}
use Rattle.ice_manifest_reading.specs.declared.entry.Live.{Live}
use Rattle.ice_manifest_reading.specs.declared.row.Row.{Row}
use Rattle.ice_state.specs.Contents.{World}
use Rattle.ice_state.specs.Covering.{Covers, RowCovers, AreCovered, HasSoundSummaries}
use Rattle.ice_state.specs.Pruning.{Pruner, keeps}
use Rattle.ice_state.specs.Snapshots.{live, AreKeptWanted}
use Rattle.ice_state.proofs.Filters.{or_true, and_true}
use Rattle.ice_state.proofs.OfSpecs.{live_of_row}

wanted_by : (p : Pruner) (specs : List Spec) (row : Row) → HasSoundSummaries specs p → (xs : List Live)
    → AllByRecursion (λ (l : Live). l.entry.spec_id ≡ row.spec_id) xs →
    AllByRecursion (λ (l : Live). RowCovers specs row l.entry.file.tuple) xs → list_any (keeps p) xs ≡ true
    → p.wants row ≡ true
wanted_by p specs row sound [] of covers h = cc
wanted_by p specs row sound (x ∷ xs) of covers h =
    elim (or_true (keeps p x) (list_any (keeps p) xs) h) as (λ _. p.wants row ≡ true) [
      | inl k ↦ sound row x.entry.file.tuple covers.0 (ap (λ id. p.meets id x.entry.file.tuple) (sym of.0) ∙
          (and_true _ _ k).0)
      | inr r ↦ wanted_by p specs row sound xs of.1 covers.1 r
    ]

pub kept_wanted_of : (p : Pruner) (world : World) (specs : List Spec) (rows : List Row) → HasSoundSummaries specs p
    → AreCovered world specs rows → AreKeptWanted p (live world specs) rows
kept_wanted_of p world specs [] sound covered = tt
kept_wanted_of p world specs (row ∷ rows) sound covered = (
  wanted_by p specs row sound (live world specs row) (live_of_row world specs row) covered.0,
  kept_wanted_of p world
      specs rows sound covered.1,
)

-- ---- specs without fields

found_without : (specs : List Spec) (id : ℤ) (spec : Spec) → AllByRecursion (λ (s : Spec). s.fields ≡ []) specs
    → find (λ (s : Spec). int_eq s.id id) specs ≡ Some spec → spec.fields ≡ []
found_without [] id spec all h = cc
found_without (x ∷ xs) id spec all h =
    let P : (b : Bool) → cond b (Some x) (find (λ (s : Spec). int_eq s.id id) xs) ≡ Some spec → spec.fields ≡ [] =
    λ b. elim b as (λ v. cond v (Some x) (find (λ (s : Spec). int_eq s.id id) xs) ≡ Some spec → spec.fields ≡ []) [
      | true ↦ λ e. let same : x ≡ spec = cc in ap (λ (s : Spec). s.fields) (sym same) ∙ all.0
      | false ↦ λ e. found_without xs id spec all.1 e
    ] in
    P (int_eq x.id id) h

covers_nothing : (spec : Spec) (summaries : Option (List Summary)) (tuple : List Cell) → spec.fields ≡ []
    → Covers spec summaries tuple
covers_nothing spec None tuple none = tt
covers_nothing spec (Some summaries) tuple none = λ same. subst (λ (fields : List PartitionField). AreSummariesOf
    (map field_of fields) summaries tuple) (sym none) tt

covers_all : (specs : List Spec) (row : Row) → AllByRecursion (λ (s : Spec). s.fields ≡ []) specs → (xs : List Live)
    → AllByRecursion (λ (l : Live). RowCovers specs row l.entry.file.tuple) xs
covers_all specs row all [] = tt
covers_all specs row all (x ∷ xs) = (
  λ spec is. covers_nothing spec row.partitions x.entry.file.tuple
      (found_without specs row.spec_id spec all is),
  covers_all specs row all xs,
)

pub covered_without_fields : (world : World) (specs : List Spec) (rows : List Row)
    → AllByRecursion (λ (s : Spec). s.fields ≡ []) specs → AreCovered world specs rows
covered_without_fields world specs [] all = tt
covered_without_fields world specs (row ∷ rows) all = (
  covers_all specs row all (live world specs row),
  covered_without_fields world specs rows all,
)
