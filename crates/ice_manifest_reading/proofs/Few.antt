-- An entry has a status, so a manifest has no more entries than bytes.
use Rattle.std.proofs.Common.{◌≡◌, ℤ, pos, Bool, true, false, cond, Some, Ok, refl, sym, subst, ◌||◌}
use Rattle.std.specs.Ordering.{int_eq}
use Rattle.std.specs.Option.{option_eq}
use Rattle.avro_schema.specs.Tree.{Tree, null, boolean, int, long, float, double, symbols, octets, string, fixed}
use Rattle.avro_schema.specs.Tree.{structure, array, map, union, Fields, no_fields, field}
use Rattle.avro_file.specs.Spelling.{takes_bytes, some_takes_bytes}
use Rattle.ice_meta.specs.declared.spec.Spec.{Spec}
use Rattle.ice_manifest_fields.specs.Types.{is_whole, fits}
use Rattle.ice_manifest_fields.specs.Schemas.{fields_in, type_at, required}
use Rattle.ice_manifest_reading.specs.ManifestSchemas.{entry_fields}
use Rattle.ice_manifest_reading.proofs.Guards.{went_on}
use Rattle.ice_manifest_reading.proofs.Records.{must_have}

whole_takes_bytes : (t : Tree) → fits is_whole t ≡ true → takes_bytes t ≡ true
unfolding fits takes_bytes
whole_takes_bytes null fit = absurd cc
whole_takes_bytes boolean fit = absurd cc
whole_takes_bytes int fit = refl
whole_takes_bytes long fit = refl
whole_takes_bytes float fit = absurd cc
whole_takes_bytes double fit = absurd cc
whole_takes_bytes (octets k) fit = absurd cc
whole_takes_bytes string fit = absurd cc
whole_takes_bytes (fixed n k) fit = absurd cc
whole_takes_bytes (symbols n) fit = absurd cc
whole_takes_bytes (structure fs) fit = absurd cc
whole_takes_bytes (array t id k) fit = absurd cc
whole_takes_bytes (map t) fit = absurd cc
whole_takes_bytes (union bs) fit = refl

either_is : (b c : Bool) → c ≡ true → (b || c) ≡ true
either_is true c h = refl
either_is false c h = h

fields_take_bytes : (id : ℤ) (fs : Fields) (u : Tree) → type_at id fs ≡ Some u → fits is_whole u ≡ true
    → some_takes_bytes fs ≡ true
unfolding type_at some_takes_bytes
fields_take_bytes id no_fields u here fit = absurd cc
fields_take_bytes id (field own t fs) u here fit =
    let step : (b : Bool) → cond b (Some t) (type_at id fs) ≡ Some u → (takes_bytes t || some_takes_bytes fs) ≡ true =
    λ b. elim b as (λ x. cond x (Some t) (type_at id fs) ≡ Some u → (takes_bytes t || some_takes_bytes fs) ≡ true) [
      | true ↦ λ e.
          let same : t ≡ u = cc in
          rw (whole_takes_bytes t (subst (λ (v : Tree). fits is_whole v ≡ true) (sym same) fit)) refl
      | false ↦ λ e. either_is (takes_bytes t) (some_takes_bytes fs) (fields_take_bytes id fs u e fit)
    ] in
    step (option_eq int_eq own (Some id)) here

tree_takes_bytes : (s u : Tree) → type_at (pos 0) (fields_in s) ≡ Some u → fits is_whole u ≡ true → takes_bytes s ≡ true
unfolding type_at takes_bytes
tree_takes_bytes null u here fit = absurd cc
tree_takes_bytes boolean u here fit = refl
tree_takes_bytes int u here fit = refl
tree_takes_bytes long u here fit = refl
tree_takes_bytes float u here fit = refl
tree_takes_bytes double u here fit = refl
tree_takes_bytes (octets k) u here fit = refl
tree_takes_bytes string u here fit = refl
tree_takes_bytes (fixed n k) u here fit = absurd cc
tree_takes_bytes (symbols n) u here fit = refl
tree_takes_bytes (structure fs) u here fit = fields_take_bytes (pos 0) fs u here fit
tree_takes_bytes (array t id k) u here fit = refl
tree_takes_bytes (map t) u here fit = refl
tree_takes_bytes (union bs) u here fit = refl

-- a schema that has the fields of entries
pub entries_take_bytes : (spec : Spec) (s : Tree) → entry_fields spec (fields_in s) ≡ Ok tt → takes_bytes s ≡ true
unfolding entry_fields required
entries_take_bytes spec s e =
    let status = went_on (required is_whole (pos 0) (fields_in s)) _ tt e in
    let there = must_have is_whole (pos 0) (type_at (pos 0) (fields_in s)) status.0 status.1 in
    tree_takes_bytes s status.0 there.0 there.1
