-- The plans of bytes that reads gave.
use Rattle.std.proofs.Common.{ℕ, List, subst}
use Rattle.std.specs.Prelude.{Option, Result, Ok, Err, IfOk, OnOk}
use Rattle.std.proofs.lemmas.Result.{on_ok_weaker}
use Rattle.ice_desk.proofs.Given.{more_given}
use Rattle.ice_desk.specs.Given.{Giving}
use Rattle.ice_filter.specs.declared.bound.BoundPredicate.{BoundPredicate}
use Rattle.ice_filter.specs.declared.parts.Part.{Part}
use Rattle.ice_manifest_reading.specs.declared.row.Row.{Row}
use Rattle.ice_filter.specs.declared.bound.Bound.{Bound}
use Rattle.ice_meta.specs.declared.spec.Spec.{Spec}
use Rattle.ice_state.specs.Lines.{OwnedLine}
use Rattle.icescan_print.specs.PlanTexts.{plan_text}
use Rattle.icescan_print.specs.Written.{Appends}
use Rattle.icescan_requests.specs.GivenPlans.{AreSelectedOfGiven, IsPlanOfGiven, IsRowsPlanOfGiven}
use Rattle.icescan_requests.specs.GivenPlans.{WrotePlanThat}
use Rattle.icescan_requests.specs.declared.selected_rows.SelectedRows.{SelectedRows}
use Rattle.icescan_text.specs.Reads.{AreRowsGiven}
use Rattle.icescan_text.specs.declared.fault.RunFault.{RunFault}
use Rattle.icescan_text.specs.declared.request.Request.{Request}

-- the plan of the rows that were selected, by what was selected
pub planned_as_selected : (gives : Giving) (metadata : List ℕ) (request : Request) (found : SelectedRows)
    (plan : List OwnedLine) (h : AreSelectedOfGiven gives metadata request found)
    → IsRowsPlanOfGiven gives found.specs found.filter.parts found.rows plan
    → IsRowsPlanOfGiven gives h.selection.specs h.selection.filter.parts found.rows plan
planned_as_selected gives metadata request found plan h planned =
    subst (λ (specs : List Spec). IsRowsPlanOfGiven gives specs h.selection.filter.parts found.rows plan) h.specs_are
    (subst (λ (filter : Bound). IsRowsPlanOfGiven gives found.specs filter.parts found.rows plan) h.filter_is planned)

pub plan_of_selected : (gives : Giving) (metadata : List ℕ) (request : Request) (found : SelectedRows)
    (plan : List OwnedLine) → AreSelectedOfGiven gives metadata request found
    → IsRowsPlanOfGiven gives found.specs found.filter.parts found.rows plan
    → IsPlanOfGiven gives metadata request plan
plan_of_selected gives metadata request found plan h planned = record {
  selection = h.selection;
  asked = h.asked;
  rows = found.rows;
  listed = h.listed;
  planned = planned_as_selected gives metadata request found plan h planned;
}

-- two facts of a value are one
pub ok_both : {A E : Type 0} (r : Result A E) (P Q : A → Type 0) → IfOk r P → IfOk r Q → IfOk r (λ x. P x × Q x)
ok_both (Ok x) P Q p q = (p, q)
ok_both (Err e) P Q p q = tt

-- the text of a plan that is so
pub wrote_that : (so : List OwnedLine → Type 0) (plan : List OwnedLine) (result : Result Unit RunFault)
    (o o' : Option (List ℕ)) → so plan → OnOk result (Appends o o' (plan_text plan))
    → OnOk result (WrotePlanThat so o o')
wrote_that so plan result o o' is all = on_ok_weaker result (λ text. (plan, is, text)) all

-- reads that may give more
module _ (gives more : Giving) (wider : (path : List ℕ) (found : Option (List ℕ)) → gives path found → more path found)
  where
    pub more_rows : (list : List ℕ) (rows : List Row) → AreRowsGiven gives list rows → AreRowsGiven more list rows
    more_rows list rows h = (h.0, wider list _ h.1, h.2)

    pub more_rows_plans : (specs : List Spec) (filter : List (Part BoundPredicate)) (rows : List Row)
        (plan : List OwnedLine)
        → IsRowsPlanOfGiven gives specs filter rows plan → IsRowsPlanOfGiven more specs filter rows plan
    more_rows_plans specs filter rows plan h = record {
      scan = h.scan;
      scan_is = h.scan_is;
      content = h.content;
      of_scan = h.of_scan;
      whole = h.whole;
      given = more_given gives more wider h.scan h.scan.wanted h.content h.given;
      is = h.is;
    }

    pub more_plans : (metadata : List ℕ) (request : Request) (plan : List OwnedLine)
        → IsPlanOfGiven gives metadata request plan → IsPlanOfGiven more metadata request plan
    more_plans metadata request plan h = record {
      selection = h.selection;
      asked = h.asked;
      rows = h.rows;
      listed = more_rows h.selection.list h.rows h.listed;
      planned = more_rows_plans h.selection.specs h.selection.filter.parts h.rows plan h.planned;
    }
