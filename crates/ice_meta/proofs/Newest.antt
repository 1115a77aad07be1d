-- The last item of an array.
use Rattle.std.proofs.Common.{◌≡◌, ℕ, ◌-◌, suc, List, [], ◌∷◌, length, Option, None, Some, slice_get, Bor, refl, ap}
use Rattle.std.proofs.Common.{◌∙◌, arith}
use Rattle.std.specs.Option.{option_map, option_copied}
use Rattle.serde_json.specs.Data.{Data}
use Rattle.serde_json.specs.View.{items_view, view}
use Rattle.serde_json.specs.declared.value.Value.{Value}
use Rattle.ice_meta.specs.Logs.{last_behind, last_of}

last_seen : (v : Value) (vs : List Value) → option_map view (slice_get (v ∷ vs) (length vs))
    ≡ Some (last_behind (view v) (items_view vs))
last_seen v [] = refl
last_seen v (w ∷ ws) = last_seen w ws

copied : (r : Option (Bor Value)) → option_map (λ item. view item.now) r ≡ option_map view (option_copied r)
copied None = refl
copied (Some item) = refl

pub last_is : (r : Option (Bor Value)) (vs : List Value) → option_copied r ≡ slice_get vs (length vs - 1)
    → option_map (λ item. view item.now) r ≡ last_of (items_view vs)
last_is r [] h = copied r ∙ ap (option_map view) h
last_is r (v ∷ vs) h =
    let n : length (v ∷ vs) - 1 ≡ length vs = omega arith in
    copied r ∙ ap (option_map view) h ∙ ap (λ (k : ℕ). option_map view (slice_get (v ∷ vs) k)) n ∙ last_seen v vs
