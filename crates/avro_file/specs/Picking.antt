-- What stands at a field of an object: fields are found by their ids, never by their names.
-- Apache Iceberg table spec v2, 'Column Projection'; Avro 1.11.1 specification, 'Records' and 'Unions'.
use Rattle.std.specs.Prelude.{ℕ, zero, suc, ℤ, List, [], ◌∷◌, Option, Some, None, if◌then◌else◌}
use Rattle.std.specs.Ordering.{int_eq}
use Rattle.std.specs.Option.{option_eq}
use Rattle.avro_schema.specs.Tree.{Tree, structure, union, Fields, field, Branches, no_branches, branch}
use Rattle.avro_file.specs.Value.{Value, nothing, fields, chosen, Values, value}

-- a value, and the type that it is read by
abbrev pub Typed : Type 0
Typed = Tree × Value

-- a type on the way has no such field; or a null is met, on the way or there; or a value stands there
pub data Picked : Type 0 where
  absent : Picked
  null_met : Picked
  present : Typed → Picked

-- a value of the n-th branch
abbrev pub of_branch : Branches → ℕ → Value → Option Typed
of_branch no_branches n v = None
of_branch (branch t bs) zero v = Some (t, v)
of_branch (branch t bs) (suc n) v = of_branch bs n v

-- the value itself; of a union the value of the branch that it chose
abbrev pub bare : Typed → Option Typed
bare (union bs, chosen n v) = of_branch bs n v
bare x = Some x

-- the one field with this id, among a record's fields and their values
abbrev pub field_value : ℤ → Fields → Values → Option Typed
field_value id (field own t fs) (value v vs) = if option_eq int_eq own (Some id) then Some (t, v)
    else field_value id fs vs
field_value id fs vs = None

-- the field with this id, where the value is a record that has one
abbrev pub field_with : ℤ → Typed → Option Typed
field_with id (structure fs, fields vs) = field_value id fs vs
field_with id x = None

abbrev pub unless_null : (Typed → Picked) → Typed → Picked
unless_null next (t, nothing) = null_met
unless_null next x = next x

abbrev pub unless_absent : (Typed → Picked) → Option Typed → Picked
unless_absent next None = absent
unless_absent next (Some x) = next x

-- the way of ids from an object down, through records and through the branch that each union chose
abbrev pub pick : List ℤ → Typed → Picked
pick [] x = unless_absent (unless_null present) (bare x)
pick (id ∷ ids) x = unless_absent (unless_null (λ y. unless_absent (pick ids) (field_with id y))) (bare x)
