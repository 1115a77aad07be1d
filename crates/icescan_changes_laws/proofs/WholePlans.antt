-- The changes between the rows that two snapshots do not share are those between their whole plans.
use Rattle.std.proofs.Common.{◌≡◌, ◌<◌, ℕ, zero, suc, Bool, true, false, ◌&&◌, ◌||◌, not, List, [], ◌∷◌, ◌++◌, filter}
use Rattle.std.proofs.Common.{cond, length, replicate, arith, refl, sym, ap, subst, ◌∙◌, inl, inr, Option, Some, None, is_some}
use Rattle.std.proofs.Common.{is_none, option_map, slice_index_or}
use Rattle.std.specs.Prelude.{Result, Ok, Err, IsSome}
use Rattle.std.specs.List.{AllByRecursion, Contains, flat_map, list_all, list_any}
use Rattle.std.specs.List.Sorted.{IsStrictlySortedBy}
use Rattle.std.proofs.Math.Path.{fun_ext}
use Rattle.std.proofs.lemmas.List.Kept.{IsStrictlySortedBy-filter}
use Rattle.contract_words.specs.Outcome.{◌>>=◌}
use Rattle.contract_words.proofs.Sorted.{sorted_from_sort}
use Rattle.ice_filter.specs.declared.bound.BoundPredicate.{BoundPredicate}
use Rattle.ice_filter.specs.declared.parts.Part.{Part}
use Rattle.ice_manifest_fields.specs.declared.fault.ManifestFault.{ManifestFault}
use Rattle.ice_manifest_reading.specs.Equality.{same_equal, same_is}
use Rattle.ice_manifest_reading.specs.Lists.{path_order, same_row}
use Rattle.ice_manifest_reading.specs.declared.entry.Live.{Live}
use Rattle.ice_manifest_reading.specs.declared.row.ManifestContent.{ManifestContent}
use Rattle.ice_manifest_reading.specs.declared.row.ManifestContent.TheVariants as manifest
use Rattle.ice_manifest_reading.specs.declared.row.Row.{Row}
use Rattle.ice_meta.specs.Targets.{bound_specs}
use Rattle.ice_meta.specs.declared.schema.Schema.{Schema}
use Rattle.ice_meta.specs.declared.spec.Spec.{Spec}
use Rattle.ice_meta.specs.declared.table.Table.{Table}
use Rattle.ice_state.specs.Contents.{Content, HasEach, IsOf, World, content, every_row, is_row_taken, manifest_of}
use Rattle.ice_state.specs.Contents.{reading_of, slots_of}
use Rattle.ice_state.specs.Lines.{OwnedLine}
use Rattle.ice_manifest_reading.specs.Manifests.{entries}
use Rattle.ice_state.specs.Outcomes.{by_path, first_or, outcome, plan_over, twice}
use Rattle.ice_state.specs.Pruning.{everything, kept, pruner_of}
use Rattle.ice_state.specs.Scans.{IsScanOf, Scanned, by_row_path, row_before, scan_of, scan_with, wanted_rows, without_spec}
use Rattle.ice_state.specs.Scans.{unless_missing}
use Rattle.ice_state.specs.Snapshots.{fault_or_none, live_or_none, plan_of_snapshot}
use Rattle.ice_state.specs.Specs.{spec_of}
use Rattle.ice_state.specs.declared.fault.FinishFault.{FinishFault}
use Rattle.ice_state.proofs.Scans.{made, row_order, scan_made, wanted_known}
use Rattle.ice_state_laws.proofs.Lists.{at_head, first_or_behind, in_none}
use Rattle.ice_state_laws.specs.Finishing.{TookAll}
use Rattle.ice_state.proofs.Elements.{contains_more}
use Rattle.icescan_changes.specs.Changes.{line_changes}
use Rattle.icescan_changes_laws.proofs.Schemas.{as_unbound, lacks_as_unbound}
use Rattle.icescan_changes_laws.specs.Shared.{AreShared, HasDeletesOf, MayLeaveOut}
use Rattle.icescan_requests.specs.Plans.{over_wanted_rows, rows_plan, scan_in}
use Rattle.icescan_shared_manifests.proofs.Searches.{sorted_of}
use Rattle.icescan_shared_manifests.specs.Shared.{has_deletes_of, has_row, have_same_deletes, is_of_data, is_shared, unshared}
use Rattle.icescan_text.proofs.Steps.{each_present, has_each, step}
use Rattle.icescan_text.specs.Faults.{of_finish, of_scan}
use Rattle.icescan_text.specs.Reads.{all_present, as_run}
use Rattle.icescan_text.specs.declared.fault.RunFault.{RunFault}

as_read : {A E : Type 0} (of : E → RunFault) (read : Result A E) (x : A) → as_run of read ≡ Ok x → read ≡ Ok x
as_read of (Ok y) x h = let e : y ≡ x = cc in ap Ok e
as_read of (Err e) x h = cc

-- ---- the content of every row

slots_length : (world : World) (scan : Scanned) (rows : List Row)
    → length (slots_of world scan (replicate (length rows) true) rows) ≡ length rows
slots_length world scan [] = refl
slots_length world scan (row ∷ rows) = ap suc (slots_length world scan rows)

some_read : (scan : Scanned) (row : Row) (bytes : Option (List ℕ)) → is_some bytes ≡ true
    → is_some (option_map (reading_of scan row) bytes) ≡ true
some_read scan row None h = h
some_read scan row (Some bytes) h = refl

slots_taken : (world : World) (scan : Scanned) (rows : List Row) (i : ℕ) → HasEach world rows → i < length rows
    → is_row_taken (slots_of world scan (replicate (length rows) true) rows) i ≡ true
slots_taken world scan [] i has lt = absurd (omega arith)
slots_taken world scan (row ∷ rows) zero has lt = some_read scan row (world row.path) has.0
slots_taken world scan (row ∷ rows) (suc i) has lt = slots_taken world scan rows i has.1 (omega arith)

-- ---- rows that are all wanted

kept_all : (P : Row → Type 0) (p : Row → Bool) (rows : List Row) → AllByRecursion P rows
    → AllByRecursion P (filter p rows)
kept_all P p [] h = tt
kept_all P p (row ∷ rows) h = elim (p row) as (λ b. AllByRecursion P (cond b (row ∷ filter p rows) (filter p rows)))
    [ true ↦ (h.0, kept_all P p rows h.1) | false ↦ kept_all P p rows h.1 ]

in_order : (rows : List Row) → IsStrictlySortedBy path_order rows → by_row_path rows ≡ rows
in_order rows up = sym (sorted_from_sort row_before row_order rows rows (sorted_of rows up) (λ x. refl))

some_of : {A : Type 0} (found : Option A) → is_none found ≡ false → IsSome found
some_of None h = absurd cc
some_of (Some x) h = refl

lacking : (b : Bool) (row : Row) (rest : List Row) → cond b (row ∷ rest) rest ≡ [] → (b ≡ false) × (rest ≡ [])
lacking true row rest h = absurd cc
lacking false row rest h = (refl, h)

-- ---- the plan of rows is that of a snapshot of them

-- what is known where there is a plan
pub record IsPlanned (world : World) (specs : List Spec) (rows : List Row) (plan : List OwnedLine) : Type 0 where
  pub there : HasEach world rows
  pub known : without_spec specs rows ≡ []
  pub is : plan_of_snapshot (pruner_of [] specs) world specs rows ≡ Ok plan

module _ (wants_all : (specs : List Spec) (row : Row) → IsSome (spec_of specs row.spec_id)
    → (pruner_of [] specs).wants row ≡ true) where
  all_wanted : (specs : List Spec) (rows : List Row) → without_spec specs rows ≡ []
      → wanted_rows (pruner_of [] specs) rows ≡ rows
  all_wanted specs [] h = refl
  all_wanted specs (row ∷ rows) h =
      let first = lacking (is_none (spec_of specs row.spec_id)) row (without_spec specs rows) h in
      let wants = wants_all specs row (some_of (spec_of specs row.spec_id) first.0) in
      ap (λ b. cond b (row ∷ wanted_rows (pruner_of [] specs) rows) (wanted_rows (pruner_of [] specs) rows)) wants
      ∙ ap (λ (rest : List Row). row ∷ rest) (all_wanted specs rows first.1)

  module _ (taken : (world : World) (rows : List Row) (specs : List Spec) (scan : Scanned) (ts : List Bool)
      → IsScanOf rows specs scan → IsOf scan (content world scan ts) → TookAll scan (content world scan ts)
      → outcome scan (content world scan ts) ≡ plan_of_snapshot (pruner_of scan.filter specs) world specs scan.wanted)
      (world : World) (specs : List Spec) (rows : List Row) (up : IsStrictlySortedBy path_order rows) where
    known_rows : without_spec specs (by_row_path rows) ≡ [] → without_spec specs rows ≡ []
    known_rows h = ap (without_spec specs) (sym (in_order rows up)) ∙ h

    all_rows : without_spec specs rows ≡ [] → wanted_rows (pruner_of [] specs) (by_row_path rows) ≡ rows
    all_rows h = ap (wanted_rows (pruner_of [] specs)) (in_order rows up) ∙ all_wanted specs rows h

    -- the outcome of all rows of the scan
    outcome_is : (scan : Scanned) → scan_of rows specs [] ≡ Ok scan → scan.wanted ≡ rows → HasEach world scan.wanted
        → outcome scan (content world scan (every_row scan)) ≡ plan_of_snapshot (pruner_of [] specs) world specs rows
    outcome_is scan is all has =
        let m = made rows specs [] scan is in
        taken world rows specs scan (every_row scan) m.1 (slots_length world scan scan.wanted)
        (λ i lt. slots_taken world scan scan.wanted i has lt)
        ∙ ap (λ (parts : List (Part BoundPredicate)). plan_of_snapshot (pruner_of parts specs) world specs scan.wanted)
        m.0
        ∙ ap (plan_of_snapshot (pruner_of [] specs) world specs) all

    pub planned : (plan : List OwnedLine) → rows_plan over_wanted_rows world specs [] rows ≡ Ok plan
        → IsPlanned world specs rows plan
    unfolding rows_plan
    planned plan h =
        let scan = step (scan_in specs [] rows) _ plan h in
        let there = step (all_present world scan.0.wanted) _ plan scan.2 in
        let is : scan_of rows specs [] ≡ Ok scan.0 = as_read of_scan (scan_of rows specs []) scan.0 scan.1 in
        let m = scan_made rows specs [] scan.0 is in
        let known = known_rows m.0 in
        let all : scan.0.wanted ≡ rows = sym (ap (λ (s : Scanned). s.wanted) m.1) ∙ all_rows known in
        let has = has_each world scan.0.wanted there.1 in
        let outcome_of_all = outcome scan.0 (content world scan.0 (every_row scan.0)) in
        record {
          there = subst (HasEach world) all has;
          known = known;
          is = sym (outcome_is scan.0 is all has) ∙ as_read of_finish outcome_of_all plan there.2;
        }

    pub plan_there : (plan : List OwnedLine) → IsPlanned world specs rows plan
        → rows_plan over_wanted_rows world specs [] rows ≡ Ok plan
    unfolding rows_plan
    plan_there plan h =
        let scan = scan_with rows specs [] in
        let all : scan.wanted ≡ rows = all_rows h.known in
        let is : scan_of rows specs [] ≡ Ok scan =
        ap (λ (rs : List Row). unless_missing (without_spec specs rs) scan) (in_order rows up)
        ∙ ap (λ (rs : List Row). unless_missing rs scan) h.known in
        let has : HasEach world scan.wanted = subst (HasEach world) (sym all) h.there in
        rw (
          ap (as_run of_scan) is,
          each_present world scan.wanted has,
          outcome_is scan is all has ∙ h.is,
        ) refl

-- ---- specs that are bound to another schema

-- the plan of a snapshot by what its manifests have
abbrev plan_by : (Row → List ℕ → Result (List Live) ManifestFault) → World → List Row
    → Result (List OwnedLine) FinishFault
plan_by read world rows =
    let live : Row → List Live = λ row. live_or_none (option_map (read row) (world row.path)) in
    let bad : Row → List FinishFault = λ row. fault_or_none row (option_map (read row) (world row.path)) in
    let all = flat_map live (by_row_path rows) in
    let kept_entries = by_path (kept everything all) in
    first_or (flat_map bad (filter everything.wants (by_row_path rows)) ++ twice kept_entries)
    (plan_over (by_path (entries all)) kept_entries)

module _ (unfiltered : (world : World) (rows : List Row) (specs : List Spec) (scan : Scanned)
    → scan_of rows specs [] ≡ Ok scan
    → plan_of_snapshot (pruner_of [] specs) world specs rows ≡ plan_of_snapshot everything world specs rows)
    (world : World) (t : Table) (from to : Schema) (rows : List Row) (up : IsStrictlySortedBy path_order rows) where
  reads_same : manifest_of (bound_specs from t) ≡ manifest_of (bound_specs to t)
  reads_same = fun_ext (λ row. fun_ext (λ bytes. as_unbound from t row bytes ∙ sym (as_unbound to t row bytes)))

  lacks_same : (rs : List Row) → without_spec (bound_specs from t) rs ≡ without_spec (bound_specs to t) rs
  lacks_same [] = refl
  lacks_same (row ∷ rs) =
      let first = lacks_as_unbound from t row.spec_id ∙ sym (lacks_as_unbound to t row.spec_id) in
      ap (λ b. cond b (row ∷ without_spec (bound_specs from t) rs) (without_spec (bound_specs from t) rs)) first
      ∙ ap (λ (rest : List Row). cond (is_none (spec_of (bound_specs to t) row.spec_id)) (row ∷ rest) rest)
      (lacks_same rs)

  scan_there : (specs : List Spec) → without_spec specs rows ≡ [] → scan_of rows specs [] ≡ Ok (scan_with rows specs [])
  scan_there specs h =
      ap (λ (rs : List Row). unless_missing (without_spec specs rs) (scan_with rows specs [])) (in_order rows up)
      ∙ ap (λ (rs : List Row). unless_missing rs (scan_with rows specs [])) h

  pub rebound : (plan : List OwnedLine) → IsPlanned world (bound_specs from t) rows plan
      → IsPlanned world (bound_specs to t) rows plan
  rebound plan h =
      let known = sym (lacks_same rows) ∙ h.known in
      record {
        there = h.there;
        known = known;
        is = unfiltered world rows (bound_specs to t) _ (scan_there (bound_specs to t) known)
            ∙ ap (λ read. plan_by read world rows) (sym reads_same)
            ∙ sym (unfiltered world rows (bound_specs from t) _ (scan_there (bound_specs from t) h.known)) ∙ h.is;
      }

-- ---- what is left out

in_any : (rows : List Row) (row : Row) → Contains rows row → has_row rows row ≡ true
in_any [] row c = absurd (in_none row c)
in_any (r ∷ rows) row c = elim (first_or_behind r row rows c) as (λ _. (same_row r row || has_row rows row) ≡ true) [
  | inl e ↦ ap (λ b. b || has_row rows row) (same_equal r row e)
  | inr m ↦ or_true (same_row r row) (in_any rows row m)
] where
  or_true : (a : Bool) {b : Bool} → b ≡ true → (a || b) ≡ true
  or_true true h = refl
  or_true false h = h

from_any : (rows : List Row) (row : Row) → has_row rows row ≡ true → Contains rows row
from_any [] row h = absurd cc
from_any (r ∷ rows) row h = cases (from_any rows row) (same_row r row) refl h where
  cases : (has_row rows row ≡ true → Contains rows row) → (b : Bool) → same_row r row ≡ b
      → (b || has_row rows row) ≡ true → Contains (r ∷ rows) row
  cases behind true is k = subst (Contains (r ∷ rows)) (same_is r row is) (at_head r rows)
  cases behind false is k = contains_more r row rows (behind k)

filter_same : (p q : Row → Bool) (rows : List Row) → ((row : Row) → Contains rows row → p row ≡ q row)
    → filter p rows ≡ filter q rows
filter_same p q [] h = refl
filter_same p q (row ∷ rows) h =
    ap (λ b. cond b (row ∷ filter p rows) (filter p rows)) (h row (at_head row rows))
    ∙ ap (λ (rest : List Row). cond (q row) (row ∷ rest) rest)
    (filter_same p q rows (λ r c. h r (contains_more row r rows c)))

both_true : (a b : Bool) → (a && b) ≡ true → (a ≡ true) × (b ≡ true)
both_true true b h = (refl, h)
both_true false b h = absurd cc

not_false : (b : Bool) → not b ≡ false → b ≡ true
not_false true h = refl
not_false false h = absurd cc

data_is : (c : ManifestContent) (row : Row) → row.content ≡ c → is_of_data row ≡ true → row.content ≡ manifest.Data
data_is manifest.Data row e h = e
data_is manifest.Deletes row e h = let clash : is_of_data row ≡ false = rw e refl in absurd cc

deletes_in : (others rows : List Row) → has_deletes_of others rows ≡ true → HasDeletesOf others rows
deletes_in others [] h row c is = absurd (in_none row c)
deletes_in others (r ∷ rows) h row c is =
    let here = both_true (is_of_data r || has_row others r) (has_deletes_of others rows) h in
    elim (first_or_behind r row rows c) as (λ _. Contains others row) [
      | inl e ↦
          (let deletes : is_of_data r ≡ false = rw (ap (λ (x : Row). x.content) e ∙ is) refl in
          subst (Contains others) e (from_any others r (sym (ap (λ b. b || has_row others r) deletes) ∙ here.0)))
      | inr m ↦ deletes_in others rows here.1 row m is
    ]

module _ (before after : List Row) where
  -- whether a row is planned of both
  abbrev pub stays : Row → Bool
  stays row = not (is_of_data row && (has_row before row && has_row after row))

  pub first_own : filter stays before ≡ unshared after before
  first_own = filter_same stays (λ row. not (is_shared after row)) before
      (λ row c. ap (λ b. not (is_of_data row && (b && has_row after row))) (in_any before row c))

  and_true : (a b : Bool) → b ≡ true → (a && b) ≡ a
  and_true true b h = h
  and_true false b h = refl

  pub second_own : filter stays after ≡ unshared before after
  second_own = filter_same stays (λ row. not (is_shared before row)) after
      (λ row c. ap (λ b. not (is_of_data row && b))
      (and_true (has_row before row) (has_row after row) (in_any after row c)))

  parts : (row : Row) → stays row ≡ false
      → (row.content ≡ manifest.Data) × (has_row before row ≡ true) × (has_row after row ≡ true)
  parts row h =
      let all = both_true (is_of_data row) (has_row before row && has_row after row) (not_false _ h) in
      let two = both_true (has_row before row) (has_row after row) all.1 in
      (data_is row.content row refl all.0, two.0, two.1)

  pub may_leave_out : have_same_deletes before after ≡ true → MayLeaveOut stays before after
  may_leave_out h =
      let two = both_true (has_deletes_of after before) (has_deletes_of before after) h in
      record {
        of_earlier = λ row c gone. let p = parts row gone in (p.0, from_any after row p.2);
        of_later = λ row c gone. let p = parts row gone in (p.0, from_any before row p.1);
        deletes = deletes_in after before two.0;
        deletes_back = deletes_in before after two.1;
      }

-- ---- the plans of what is not shared

pub own_planned : (world : World) (specs : List Spec) (keeps : Row → Bool) (rows : List Row)
    (plan first : List OwnedLine) → IsPlanned world specs rows plan
    → plan_of_snapshot (pruner_of [] specs) world specs (filter keeps rows) ≡ Ok first
    → IsPlanned world specs (filter keeps rows) first
own_planned world specs keeps rows plan first h is = record {
  there = kept_all (λ row. is_some (world row.path) ≡ true) keeps rows h.there;
  known = wanted_known specs keeps rows h.known;
  is = is;
}
