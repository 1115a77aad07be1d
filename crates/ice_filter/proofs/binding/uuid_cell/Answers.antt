use Rattle.std.proofs.Common.{◌≡◌, ◌∙◌, ap, ℕ, true, false, List, Option, None, Some, refl}
use Rattle.std.specs.Option.{option_map}
use Rattle.uuid.specs.Text.{parsed as uuid_in}
use Rattle.ice_value.specs.declared.cell.Cell.TheVariants.{Bytes}
use Rattle.ice_filter.proofs.binding.uuid_cell.Goals as goal

no_bytes : (o : Option (List ℕ)) → (((u : List ℕ) × (o ≡ Some u)) → false ≡ true) → None ≡ option_map Bytes o
no_bytes None h = refl
no_bytes (Some u) h = let e : false ≡ true = h (u, refl) in absurd cc

no_uuid : (text seen : List ℕ) → seen ≡ text → (((u : List ℕ) × (uuid_in seen ≡ Some u)) → false ≡ true)
    → None ≡ option_map Bytes (uuid_in text)
no_uuid text seen e h = no_bytes (uuid_in text) (λ p. h (p.0, ap uuid_in e ∙ p.1))

pub returns-in-Err : goal.returns-in-Err
returns-in-Err c = no_uuid c.args.text.now c.as_str.result.now c.as_str.ensures c.in-Err.ensures.ok.1
