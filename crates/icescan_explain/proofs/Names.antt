-- The names of a spec's fields, listed once.
use Rattle.std.proofs.Common.{◌≡◌, ◌∙◌, ℕ, List, ap, slice_get}
use Rattle.std.proofs.lemmas.Option.{slice_get-map}
use Rattle.ice_meta.specs.declared.spec.PartitionField.{PartitionField}
use Rattle.ice_meta.specs.declared.spec.Spec.{Spec}
use Rattle.icescan_explain.specs.Alone.{field_name, names_of}

-- the name at a position of the list is that of the field there
pub name_listed : (spec : Spec) (names : List (List ℕ)) (k : ℕ) → names ≡ names_of spec.fields
    → slice_get names k ≡ field_name spec k
name_listed spec names k is =
    ap (λ (ns : List (List ℕ)). slice_get ns k) is ∙ slice_get-map (λ (f : PartitionField). f.name) spec.fields k
