-- Where a field stands in its record.
use Rattle.std.specs.Prelude.{◌≡◌, Ok, ℕ, ℤ, ◌+◌, Bool, false, ◌&&◌, nat_eq, Option, Some, None, if◌then◌else◌}
use Rattle.std.specs.Ordering.{int_eq}
use Rattle.std.specs.Option.{option_eq}
use Rattle.avro_schema.specs.Tree.{Tree, structure, Fields, no_fields, field}
use Rattle.ice_manifest_fields.specs.Fields.{within_32}
use Rattle.ice_manifest_fields.specs.declared.columns.ColumnMap.{ColumnMap}

-- the position of the field with this id, among fields of which the first stands at a position
unfoldable pub place_from : ℕ → ℤ → Fields → Option ℕ
place_from k id no_fields = None
place_from k id (field own t fs) = if option_eq int_eq own (Some id) then Some k else place_from (k + 1) id fs

abbrev pub place_of : ℤ → Fields → Option ℕ
place_of id fs = place_from 0 id fs

-- a pair of the map has its key first, and what it says second
abbrev pub lies_as_pairs : ColumnMap → Tree → Bool
lies_as_pairs m (structure fs) =
    option_eq nat_eq (place_of m.key fs) (Some 0) && option_eq nat_eq (place_of m.said fs) (Some 1)
lies_as_pairs m t = false

-- the pair's key is a number of 32 bits, whatever field it is asked for as
abbrev pub IsKey : {T : Type 0} → ℤ × T → Type 0
IsKey pair = (id : ℤ) → within_32 id pair.0 ≡ Ok pair.0
