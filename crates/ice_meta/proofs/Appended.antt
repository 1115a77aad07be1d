-- The fields of a schema, one after the other.
use Rattle.std.proofs.Common.{◌≡◌, ℕ, ◌+◌, ◌<◌, ◌≤◌, List, [], ◌∷◌, ◌++◌, length, get_or, drop, sym, ap, ◌∙◌}
use Rattle.std.proofs.Math.ListN.{drop_of_length-le}
use Rattle.serde_json.specs.declared.value.Value.{Value}
use Rattle.serde_json.specs.Data.{Data, Items, item}
use Rattle.serde_json.specs.View.{view, items_view}
use Rattle.ice_meta.specs.SchemaTexts.{field_of, each_field}
use Rattle.ice_meta_json.proofs.Joined.{step_of, joined, joined_none, joined_last}

-- one field more
pub fields_on : (nested : Data → Data) (xs : List Value) (i : ℕ) (x : Value) (vs : List Value) (v : Value) (all : Items)
    → i < length xs → x ≡ get_or xs i x → view v ≡ field_of nested (view x)
    → joined (items_view vs) (each_field nested (items_view (drop i xs))) ≡ all
    → joined (items_view (vs ++ v ∷ [])) (each_field nested (items_view (drop (i + 1) xs))) ≡ all
fields_on nested xs i x vs v all lt is made so_far =
    let rest = each_field nested (items_view (drop (i + 1) xs)) in
    joined_last vs v rest ∙ ap (λ (d : Data). joined (items_view vs) (item d rest)) made ∙ ap
    (λ ys. joined (items_view vs) (each_field nested (items_view ys))) (sym (step_of xs i x lt is)) ∙ so_far

pub fields_over : (nested : Data → Data) (xs : List Value) (i : ℕ) (ds all : Items) → length xs ≤ i
    → joined ds (each_field nested (items_view (drop i xs))) ≡ all → ds ≡ all
fields_over nested xs i ds all past so_far = sym (joined_none ds) ∙ ap
    (λ ys. joined ds (each_field nested (items_view ys))) (sym (drop_of_length-le xs past)) ∙ so_far
