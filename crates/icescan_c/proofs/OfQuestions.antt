-- The scan of what a question selects is of that question.
use Rattle.std.proofs.Common.{◌≡◌, ◌∙◌, List, [], ◌∷◌, Ok, sym, ap, subst}
use Rattle.ice_filter.specs.declared.bound.BoundPredicate.{BoundPredicate}
use Rattle.ice_filter.specs.declared.parts.Part.{Part}
use Rattle.ice_manifest_reading.specs.declared.row.Row.{Row}
use Rattle.ice_meta.specs.declared.spec.Spec.{Spec}
use Rattle.icescan_requests.specs.declared.selection.Selection.{Selection}
use Rattle.ice_state.specs.Scans.{Scanned, by_row_path, scan_of, scan_with, unless_missing, without_spec}
use Rattle.ice_state.specs.Specs.{by_id}
use Rattle.icescan_c.specs.Kept.{IsAnswer, IsOfQuestion}
use Rattle.icescan_c.specs.declared.questions.Question.{Question}

none_missing : (missing : List Row) (made scan : Scanned) → unless_missing missing made ≡ Ok scan → made ≡ scan
none_missing [] made scan e = cc
none_missing (row ∷ rows) made scan e = absurd cc

-- by rows, specs and a filter that are those of the selection
pub of_selection : (p q : Question) (s t : Scanned) (selection : Selection) (rows : List Row) (specs : List Spec)
    (filter : List (Part BoundPredicate)) → p ≡ q → s ≡ t → IsAnswer q selection → specs ≡ selection.specs
    → filter ≡ selection.filter.parts → scan_of rows specs filter ≡ Ok t → IsOfQuestion p s
of_selection p q s t selection rows specs filter one same answer e f made =
    let is = same ∙ sym (none_missing (without_spec specs (by_row_path rows)) (scan_with rows specs filter) t made) in
    record {
      selection = selection;
      answer = subst (λ (x : Question). IsAnswer x selection) (sym one) answer;
      specs = ap (λ (x : Scanned). x.specs) is ∙ ap by_id e;
      filter = ap (λ (x : Scanned). x.filter) is ∙ f;
    }
