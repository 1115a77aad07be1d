-- Items that a loop makes one after the other.
use Rattle.std.proofs.Common.{◌≡◌, ℕ, ◌+◌, ◌<◌, ◌≤◌, List, [], ◌∷◌, ◌++◌, length, get_or, drop, drop-cons, add-one}
use Rattle.std.proofs.Common.{refl, sym, ap, ◌∙◌}
use Rattle.std.proofs.Math.ListN.{drop_of_length-le}
use Rattle.serde_json.specs.declared.value.Value.{Value}
use Rattle.serde_json.specs.Data.{Data, Items, no_items, item}
use Rattle.serde_json.specs.View.{view, items_view}
use Rattle.ice_meta_json.specs.Objects.{at_end}
use Rattle.ice_meta_json.specs.Upgraded.{numbered, each_numbered}

pub step_of : {A : Type 0} (xs : List A) (i : ℕ) (x : A) → i < length xs → x ≡ get_or xs i x
    → drop i xs ≡ x ∷ drop (i + 1) xs
step_of xs i x lt is = drop-cons xs i x lt ∙ rw (← is, add-one) refl

pub items_at_end : (vs : List Value) (v : Value) → items_view (vs ++ v ∷ []) ≡ at_end (view v) (items_view vs)
items_at_end [] v = refl
items_at_end (w ∷ vs) v = ap (item (view w)) (items_at_end vs v)

-- items, and others behind them
abbrev pub joined : Items → Items → Items
joined no_items es = es
joined (item d ds) es = item d (joined ds es)

pub joined_none : (ds : Items) → joined ds no_items ≡ ds
joined_none no_items = refl
joined_none (item d ds) = ap (item d) (joined_none ds)

pub joined_last : (vs : List Value) (v : Value) (es : Items)
    → joined (items_view (vs ++ v ∷ [])) es ≡ joined (items_view vs) (item (view v) es)
joined_last [] v es = refl
joined_last (w ∷ vs) v es = ap (item (view w)) (joined_last vs v es)

-- one snapshot more
pub numbered_on : (xs : List Value) (i : ℕ) (x : Value) (vs : List Value) (v : Value) (all : Items)
    → i < length xs → x ≡ get_or xs i x → view v ≡ numbered (view x)
    → joined (items_view vs) (each_numbered (items_view (drop i xs))) ≡ all
    → joined (items_view (vs ++ v ∷ [])) (each_numbered (items_view (drop (i + 1) xs))) ≡ all
numbered_on xs i x vs v all lt is made so_far =
    let rest = each_numbered (items_view (drop (i + 1) xs)) in
    joined_last vs v rest ∙ ap (λ (d : Data). joined (items_view vs) (item d rest)) made ∙ ap
    (λ ys. joined (items_view vs) (each_numbered (items_view ys))) (sym (step_of xs i x lt is)) ∙ so_far

pub numbered_over : (xs : List Value) (i : ℕ) (ds all : Items) → length xs ≤ i
    → joined ds (each_numbered (items_view (drop i xs))) ≡ all → ds ≡ all
numbered_over xs i ds all past so_far = sym (joined_none ds) ∙ ap
    (λ ys. joined ds (each_numbered (items_view ys))) (sym (drop_of_length-le xs past)) ∙ so_far
