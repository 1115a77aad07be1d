-- The lines of verdicts, one behind the other.
use Rattle.std.proofs.Common.{◌≡◌, ℕ, zero, suc, ◌<◌, List, [], ◌∷◌, ◌++◌, length, map, slice_get, get_or, Some}
use Rattle.std.proofs.Common.{arith, sym, ap, ◌∙◌}
use Rattle.std.specs.List.{concat, flat_map}
use Rattle.std.proofs.lemmas.List.Concat.{concat_is}
use Rattle.std.proofs.lemmas.List.Folds.{flat_map-map}
use Rattle.icescan_explain.specs.JsonLines.{explanation_objects, explanation_told, totals_told}
use Rattle.icescan_explain.specs.JsonLines.{verdict_object, verdict_told}
use Rattle.icescan_explain.specs.Texts.{explanation_text, verdict_text}
use Rattle.icescan_explain.specs.declared.manifests.Explanation.{Explanation}
use Rattle.icescan_forms.specs.declared.format.Format.{Format}
use Rattle.icescan_forms.specs.declared.format.Format.TheVariants as format

-- the text of what stands at a place
pub line_at : {X : Type 0} (text : X → List ℕ) (xs : List X) (i : ℕ) (x : X) (t : List ℕ) → i < length xs
    → x ≡ get_or xs i x → slice_get (map text xs) i ≡ Some t → t ≡ text x
line_at text [] i x t l is at = absurd (omega (arith, l))
line_at text (y ∷ ys) zero x t l is at =
    let here : text y ≡ t = cc in
    sym here ∙ ap text (sym is)
line_at text (y ∷ ys) (suc i) x t l is at = line_at text ys i x t (omega (arith, l)) is at

joined : {X : Type 0} (text : X → List ℕ) (xs : List X) → concat (map text xs) ≡ flat_map text xs
joined text xs = concat_is (map text xs) ∙ flat_map-map (λ t. t) text xs

-- an explanation in a form is the lines of its verdicts, and then the last lines
pub explanation_is : (form : Format) (x : Explanation) → explanation_told form x
    ≡ concat (map (verdict_told form x.plan) x.verdicts) ++ totals_told form x.verdicts
unfolding explanation_text explanation_objects
explanation_is format.Text x = ap (λ t. t ++ totals_told format.Text x.verdicts)
    (sym (joined (verdict_text x.plan) x.verdicts))
explanation_is format.Json x = ap (λ t. t ++ totals_told format.Json x.verdicts)
    (sym (joined (verdict_object x.plan) x.verdicts))
