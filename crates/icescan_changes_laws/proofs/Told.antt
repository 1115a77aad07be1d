-- The changes that are asked for are those between two whole plans.
use Rattle.std.proofs.Common.{◌≡◌, ℕ, Bool, true, false, ◌&&◌, List, [], filter, refl, sym, ap, subst, ◌∙◌}
use Rattle.std.specs.Prelude.{Result, Ok, Err, IsSome, is_none}
use Rattle.std.specs.List.Sorted.{IsStrictlySortedBy}
use Rattle.std.proofs.lemmas.List.Kept.{IsStrictlySortedBy-filter}
use Rattle.contract_words.specs.Outcome.{◌>>=◌}
use Rattle.ice_filter.specs.declared.bound.BoundPredicate.{BoundPredicate}
use Rattle.ice_filter.specs.declared.parts.Part.{Part}
use Rattle.ice_manifest_reading.specs.Lists.{path_order}
use Rattle.ice_manifest_reading.specs.declared.row.Row.{Row}
use Rattle.ice_meta.specs.Targets.{Described, bound_specs}
use Rattle.ice_meta.specs.declared.schema.Schema.{Schema}
use Rattle.ice_meta.specs.declared.spec.Spec.{Spec}
use Rattle.ice_meta.specs.declared.table.Table.{Table}
use Rattle.ice_state.specs.Contents.{IsOf, World, content}
use Rattle.ice_state.specs.Lines.{OwnedLine}
use Rattle.ice_state.specs.Outcomes.{outcome}
use Rattle.ice_state.specs.Pruning.{everything, pruner_of}
use Rattle.ice_state.specs.Scans.{IsScanOf, Scanned, scan_of}
use Rattle.ice_state.specs.Snapshots.{plan_of_snapshot}
use Rattle.ice_state.specs.Specs.{spec_of}
use Rattle.ice_state_laws.specs.Finishing.{TookAll}
use Rattle.icescan_changes.specs.Answers.{changes_between, changes_in, changes_told, plan_of}
use Rattle.icescan_changes.specs.Changes.{line_changes}
use Rattle.icescan_changes.specs.JsonLines.{objects_of}
use Rattle.icescan_changes.specs.Lineage.{lineage_of}
use Rattle.icescan_changes.specs.Texts.{text_of}
use Rattle.icescan_changes_laws.proofs.Requests.{SelectsAll, one_described, selects_all}
use Rattle.icescan_changes_laws.proofs.WholePlans.{IsPlanned, first_own, may_leave_out, own_planned, plan_there, planned}
use Rattle.icescan_changes_laws.proofs.WholePlans.{rebound, second_own, stays}
use Rattle.icescan_changes_laws.specs.Shared.{MayLeaveOut}
use Rattle.icescan_forms.specs.declared.format.Format.{Format}
use Rattle.icescan_forms.specs.declared.format.Format.TheVariants as format
use Rattle.icescan_requests.specs.Plans.{answer_by, over_wanted_rows, rows_plan, selected_rows, wanted_answer}
use Rattle.icescan_requests.specs.Selections.{selected}
use Rattle.icescan_requests.specs.declared.selected_rows.SelectedRows.{SelectedRows}
use Rattle.icescan_requests.specs.declared.selection.Selection.{Selection}
use Rattle.icescan_shared_manifests.specs.Both.{both_rows, is_unfiltered, leaves_out, planned_of, without_shared}
use Rattle.icescan_shared_manifests.specs.Shared.{have_same_deletes, unshared}
use Rattle.icescan_shared_manifests.specs.declared.both_rows.BothRows.{BothRows}
use Rattle.icescan_text.proofs.Steps.{step}
use Rattle.icescan_text.specs.Reads.{rows_at}
use Rattle.icescan_text.specs.declared.request.ChangesRequest.{ChangesRequest}
use Rattle.icescan_text.specs.declared.request.Request.{Request}

both_true : (a b : Bool) → (a && b) ≡ true → (a ≡ true) × (b ≡ true)
both_true true b h = (refl, h)
both_true false b h = absurd cc

told_same : (form : Format) (first second earlier later : List OwnedLine)
    → line_changes first second ≡ line_changes earlier later
    → changes_told form first second ≡ changes_told form earlier later
told_same format.Text first second earlier later h = ap text_of h
told_same format.Json first second earlier later h = ap objects_of h

-- by specs and a filter that are named otherwise
module _ (world : World) (specs others : List Spec) (parts : List (Part BoundPredicate)) (rows : List Row)
    (plan : List OwnedLine) (same : specs ≡ others) (none : parts ≡ []) where
  onto : rows_plan over_wanted_rows world specs parts rows ≡ Ok plan
      → rows_plan over_wanted_rows world others [] rows ≡ Ok plan
  onto h = subst (λ ss. rows_plan over_wanted_rows world ss [] rows ≡ Ok plan) same
      (subst (λ ps. rows_plan over_wanted_rows world specs ps rows ≡ Ok plan) none h)

  back : rows_plan over_wanted_rows world others [] rows ≡ Ok plan
      → rows_plan over_wanted_rows world specs parts rows ≡ Ok plan
  back h = subst (λ ps. rows_plan over_wanted_rows world specs ps rows ≡ Ok plan) (sym none)
      (subst (λ ss. rows_plan over_wanted_rows world ss [] rows ≡ Ok plan) (sym same) h)

-- what a request with a plan selects
pub record IsAnswered (world : World) (metadata : List ℕ) (request : Request) (plan : List OwnedLine) : Type 0 where
  pub selection : Selection
  pub asked : selected metadata request ≡ Ok selection
  pub rows : List Row
  pub listed : rows_at world selection.list ≡ Ok rows
  pub planned : rows_plan over_wanted_rows world selection.specs selection.filter.parts rows ≡ Ok plan

answered : (world : World) (metadata : List ℕ) (request : Request) (plan : List OwnedLine)
    → wanted_answer world metadata request ≡ Ok plan → IsAnswered world metadata request plan
unfolding answer_by
answered world metadata request plan h =
    let asked = step (selected metadata request) _ plan h in
    let rows = step (rows_at world asked.0.list) _ plan asked.2 in
    record { selection = asked.0; asked = asked.1; rows = rows.0; listed = rows.1; planned = rows.2 }

abbrev selected_of : Selection → List Row → SelectedRows
selected_of s rows = record { rows = rows; specs = s.specs; filter = s.filter }

found : (world : World) (metadata : List ℕ) (request : Request) (plan : List OwnedLine)
    (is : IsAnswered world metadata request plan)
    → selected_rows world metadata request ≡ Ok (selected_of is.selection is.rows)
unfolding selected_rows
found world metadata request plan is = rw (is.asked, is.listed) refl

module _ (wants_all : (specs : List Spec) (row : Row) → IsSome (spec_of specs row.spec_id)
    → (pruner_of [] specs).wants row ≡ true)
    (taken : (world : World) (rows : List Row) (specs : List Spec) (scan : Scanned) (ts : List Bool)
    → IsScanOf rows specs scan → IsOf scan (content world scan ts) → TookAll scan (content world scan ts)
    → outcome scan (content world scan ts) ≡ plan_of_snapshot (pruner_of scan.filter specs) world specs scan.wanted)
    (unfiltered : (world : World) (rows : List Row) (specs : List Spec) (scan : Scanned)
    → scan_of rows specs [] ≡ Ok scan
    → plan_of_snapshot (pruner_of [] specs) world specs rows ≡ plan_of_snapshot everything world specs rows)
    (shared : (world : World) (specs : List Spec) (parts : List (Part BoundPredicate)) (keeps : Row → Bool)
    (before after : List Row) (earlier later : List OwnedLine) → MayLeaveOut keeps before after
    → plan_of_snapshot (pruner_of parts specs) world specs before ≡ Ok earlier
    → plan_of_snapshot (pruner_of parts specs) world specs after ≡ Ok later
    → (first : List OwnedLine) × (second : List OwnedLine)
    × (plan_of_snapshot (pruner_of parts specs) world specs (filter keeps before) ≡ Ok first)
    × (plan_of_snapshot (pruner_of parts specs) world specs (filter keeps after) ≡ Ok second)
    × (line_changes first second ≡ line_changes earlier later))
    (rising : (world : World) (path : List ℕ) (rows : List Row) → rows_at world path ≡ Ok rows
    → IsStrictlySortedBy path_order rows)
    (world : World) where
  -- the plans of what is not shared, by specs that may be bound to two schemas
  module _ (t : Table) (from to : Schema) (before after : List Row) (up : IsStrictlySortedBy path_order before)
      (up_after : IsStrictlySortedBy path_order after) (same : have_same_deletes before after ≡ true)
      (earlier later : List OwnedLine)
      (was : rows_plan over_wanted_rows world (bound_specs from t) [] before ≡ Ok earlier)
      (is : rows_plan over_wanted_rows world (bound_specs to t) [] after ≡ Ok later) where
    pub own_plans : (first : List OwnedLine) × (second : List OwnedLine)
        × (rows_plan over_wanted_rows world (bound_specs from t) [] (unshared after before) ≡ Ok first)
        × (rows_plan over_wanted_rows world (bound_specs to t) [] (unshared before after) ≡ Ok second)
        × (line_changes first second ≡ line_changes earlier later)
    own_plans =
        let specs = bound_specs from t in
        let keeps = stays before after in
        let old = planned wants_all taken world specs before up earlier was in
        let new = rebound unfiltered world t to from after up_after later
        (planned wants_all taken world (bound_specs to t) after up_after later is) in
        let made = shared world specs [] keeps before after earlier later (may_leave_out before after same) old.is
        new.is in
        let rises = IsStrictlySortedBy-filter path_order keeps before up in
        let rises_after = IsStrictlySortedBy-filter path_order keeps after up_after in
        let one = own_planned world specs keeps before earlier made.0 old made.2 in
        let two = rebound unfiltered world t from to (filter keeps after) rises_after made.1
        (own_planned world specs keeps after later made.1 new made.3) in (
          made.0,
          made.1,
          subst (λ rows. rows_plan over_wanted_rows world specs [] rows ≡ Ok made.0) (first_own before after)
              (plan_there wants_all taken world specs (filter keeps before) rises made.0 one),
          subst (λ rows. rows_plan over_wanted_rows world (bound_specs to t) [] rows ≡ Ok made.1)
              (second_own before after)
              (plan_there wants_all taken world (bound_specs to t) (filter keeps after) rises_after made.1 two),
          made.4,
        )

  module _ (form : Format) (metadata : List ℕ) (request : ChangesRequest) (earlier later : List OwnedLine)
      (was : IsAnswered world metadata request.earlier earlier)
      (is : IsAnswered world metadata request.later later) where
    abbrev old : SelectedRows
    old = selected_of was.selection was.rows

    abbrev new : SelectedRows
    new = selected_of is.selection is.rows

    unshared_told : leaves_out request old new ≡ true
        → changes_between form world (planned_of true old new) ≡ Ok (changes_told form earlier later)
    unfolding changes_between
    unshared_told h =
        let all = both_true (is_unfiltered request) (have_same_deletes was.rows is.rows) h in
        let none = both_true (is_none request.earlier.filter) (is_none request.later.filter) all.0 in
        let one = selects_all metadata request.earlier was.selection none.0 was.asked in
        let two = selects_all metadata request.later is.selection none.1 is.asked in
        let same : two.described ≡ one.described = one_described _ two.described one.described two.of_metadata
        one.of_metadata in
        let t = one.described.table in
        let specs : is.selection.specs ≡ bound_specs two.schema t =
        two.specs ∙ ap (λ (d : Described). bound_specs two.schema d.table) same in
        let plans = own_plans t one.schema two.schema was.rows is.rows
        (rising world was.selection.list was.rows was.listed) (rising world is.selection.list is.rows is.listed)
        all.1 earlier later
        (onto world was.selection.specs (bound_specs one.schema t) was.selection.filter.parts was.rows earlier
        one.specs one.parts was.planned)
        (onto world is.selection.specs (bound_specs two.schema t) is.selection.filter.parts is.rows later specs
        two.parts is.planned) in
        let first : plan_of world (without_shared is.rows old) ≡ Ok plans.0 =
        back world was.selection.specs (bound_specs one.schema t) was.selection.filter.parts
        (unshared is.rows was.rows) plans.0 one.specs one.parts plans.2 in
        let second : plan_of world (without_shared was.rows new) ≡ Ok plans.1 =
        back world is.selection.specs (bound_specs two.schema t) is.selection.filter.parts
        (unshared was.rows is.rows) plans.1 specs two.parts plans.3 in
        rw (first, second) (ap Ok (told_same form plans.0 plans.1 earlier later plans.4))

    by_cases : (b : Bool) → leaves_out request old new ≡ b
        → changes_between form world (planned_of b old new) ≡ Ok (changes_told form earlier later)
    unfolding changes_between
    by_cases true h = unshared_told h
    by_cases false h = rw (was.planned, is.planned) refl

    pub between : changes_between form world (planned_of (leaves_out request old new) old new)
        ≡ Ok (changes_told form earlier later)
    between = by_cases (leaves_out request old new) refl

    pub rows_of_both : both_rows world metadata request ≡ Ok (planned_of (leaves_out request old new) old new)
    unfolding both_rows
    rows_of_both = rw (
      found world metadata request.earlier earlier was,
      found world metadata request.later later is,
    ) refl

  pub told : (form : Format) (metadata : List ℕ) (request : ChangesRequest) (earlier later : List OwnedLine)
      → lineage_of metadata request ≡ Ok tt → wanted_answer world metadata request.earlier ≡ Ok earlier
      → wanted_answer world metadata request.later ≡ Ok later
      → changes_in form world metadata request ≡ Ok (changes_told form earlier later)
  unfolding changes_in
  told form metadata request earlier later follows was is =
      let one = answered world metadata request.earlier earlier was in
      let two = answered world metadata request.later later is in
      rw (follows, rows_of_both form metadata request earlier later one two)
      (between form metadata request earlier later one two)
