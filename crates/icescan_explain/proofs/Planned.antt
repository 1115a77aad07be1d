-- An explanation is that of a plan.
use Rattle.std.proofs.Common.{◌≡◌, ℕ, List, refl, subst}
use Rattle.std.specs.Prelude.{Result, Ok, Err, ◌↔◌}
use Rattle.std.specs.List.Sorted.{IsPermutation}
use Rattle.contract_words.specs.Outcome.{◌>>=◌}
use Rattle.icescan_explain.specs.Columns.{columns_in}
use Rattle.icescan_explain.specs.Explanations.{explained, rows_explained, tests_for}
use Rattle.icescan_explain.specs.RowsTold.{rows_told}
use Rattle.icescan_explain.specs.Told.{paths_kept, paths_planned}
use Rattle.icescan_explain.specs.declared.manifests.Explanation.{Explanation}
use Rattle.icescan_explain.proofs.Kept.{same_files}
use Rattle.ice_manifest_reading.specs.declared.row.Row.{Row}
use Rattle.icescan_requests.specs.Plans.{answer_by, over_wanted_rows, rows_plan, scan_in}
use Rattle.icescan_requests.specs.Selections.{selected}
use Rattle.icescan_requests.specs.declared.selection.Selection.{Selection}
use Rattle.ice_state.specs.Contents.{World, content, every_row}
use Rattle.ice_state.specs.Lines.{OwnedLine}
use Rattle.ice_state.specs.Outcomes.{outcome}
use Rattle.ice_state.specs.Scans.{by_row_path, scan_of}
use Rattle.icescan_text.proofs.Steps.{step}
use Rattle.icescan_text.specs.Faults.{of_finish, of_scan}
use Rattle.icescan_text.specs.Reads.{all_present, as_run, rows_at}
use Rattle.icescan_text.specs.declared.fault.RunFault.{RunFault}
use Rattle.icescan_text.specs.declared.request.Request.{Request}

-- an explanation of an answer
abbrev with_verdicts : World → Selection → Request → List Row → Result (List OwnedLine) RunFault
    → Result Explanation RunFault
with_verdicts world selection request rows answer = answer >>= λ plan. Ok (record {
  plan = plan;
  verdicts = rows_told (tests_for selection request) world (by_row_path rows);
})

-- what two answers that are alike but for the verdicts have in common
pub record AreAlike (answer : Result (List OwnedLine) RunFault) (told : Result Explanation RunFault) : Type 0 where
  pub plan : (p : List OwnedLine) → answer ≡ Ok p → (x : Explanation) × (told ≡ Ok x) × (x.plan ≡ p)
  pub refused : (e : RunFault) → (told ≡ Err e) ↔ (answer ≡ Err e)

with_alike : (world : World) (selection : Selection) (request : Request) (rows : List Row)
    (answer : Result (List OwnedLine) RunFault) → AreAlike answer (with_verdicts world selection request rows answer)
with_alike world selection request rows (Ok plan) = record {
  plan = λ p h. (_, refl, cc);
  refused = λ e. ((λ h. absurd cc), (λ h. absurd cc));
}
with_alike world selection request rows (Err f) = record {
  plan = λ p h. absurd cc;
  refused = λ e. ((λ h. cc), (λ h. cc));
}

refused_alike : {A : Type 0} (f : RunFault) (next : A → Result (List OwnedLine) RunFault)
    (more : A → Result Explanation RunFault) → AreAlike (Err f) (Err f)
refused_alike f next more = record {
  plan = λ p h. absurd cc;
  refused = λ e. ((λ h. cc), (λ h. cc));
}

steps_alike : {A : Type 0} (r : Result A RunFault) (next : A → Result (List OwnedLine) RunFault)
    (more : A → Result Explanation RunFault) → ((x : A) → AreAlike (next x) (more x))
    → AreAlike (r >>= next) (r >>= more)
steps_alike (Ok x) next more h = h x
steps_alike (Err f) next more h = refused_alike f next more

rows_alike : (world : World) (selection : Selection) (request : Request) (rows : List Row)
    → AreAlike (rows_plan over_wanted_rows world selection.specs selection.filter.parts rows)
    (rows_explained world selection request rows)
unfolding rows_explained
rows_alike world selection request rows = with_alike world selection request rows
    (rows_plan over_wanted_rows world selection.specs selection.filter.parts rows)

pub alike : (world : World) (metadata : List ℕ) (request : Request)
    → AreAlike (answer_by over_wanted_rows world metadata request) (explained world metadata request)
unfolding answer_by explained
alike world metadata request = steps_alike (selected metadata request) _ _ (λ selection.
    steps_alike (rows_at world selection.list) _ _ (λ rows. rows_alike world selection request rows))

-- ---- the files that are told as kept

of_part : {A E : Type 0} (of : E → RunFault) (r : Result A E) (x : A) → as_run of r ≡ Ok x → r ≡ Ok x
of_part of (Ok y) x h = cc
of_part of (Err e) x h = absurd cc

pub kept_are_planned : (world : World) (metadata : List ℕ) (request : Request) (x : Explanation)
    → explained world metadata request ≡ Ok x → IsPermutation (paths_kept x.verdicts) (paths_planned x.plan)
unfolding explained rows_explained rows_plan
kept_are_planned world metadata request x h =
    let one = step (selected metadata request) _ x h in
    let two = step (rows_at world one.0.list) _ x one.2 in
    let three = step (rows_plan over_wanted_rows world one.0.specs one.0.filter.parts two.0) _ x two.2 in
    let four = step (scan_in one.0.specs one.0.filter.parts two.0) _ three.0 three.1 in
    let five = step (all_present world four.0.wanted) _ three.0 four.2 in
    let found = same_files world one.0.specs one.0.filter.parts (columns_in request.filter) two.0 four.0 three.0
    (of_part of_scan (scan_of two.0 one.0.specs one.0.filter.parts) four.0 four.1)
    (of_part of_finish (outcome four.0 (content world four.0 (every_row four.0))) three.0 five.2) in
    let made : Explanation = record {
      plan = three.0;
      verdicts = rows_told (tests_for one.0 request) world (by_row_path two.0);
    } in
    let is : made ≡ x = cc three.2 in
    subst (λ (y : Explanation). IsPermutation (paths_kept y.verdicts) (paths_planned y.plan)) is found
