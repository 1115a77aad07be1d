-- What C is told of a partition value.
use Rattle.std.specs.Prelude.{◌≡◌, ℕ, ℤ, pos, List, [], Option, if◌then◌else◌}
use Rattle.ice_value.specs.declared.cell.Cell.{Cell}
use Rattle.ice_value.specs.declared.cell.Cell.TheVariants.{Null, Whole, Text, Bytes}
use Rattle.ice_value.specs.declared.cell.Cell.TheVariants.{Bool as Flag}
use Rattle.ice_value.specs.declared.column_type.ColumnType.{ColumnType}
use Rattle.icescan_c_files.specs.Lent.{AreLent}
use Rattle.icescan_c_files.specs.Types.{told_type}
use Rattle.icescan_c_files.specs.declared.value.Value.{Value}

-- its kind, its whole number, its bytes, and its type where that is known
pub record IsValue (kind : ℕ) (number : ℤ) (bytes : List ℕ) (known : Option ColumnType) (value : Value) : Type 0 where
  pub of_kind : value.kind ≡ kind
  pub whole : value.whole ≡ number
  pub lent : AreLent value.bytes bytes
  pub typed : value.value_type ≡ told_type known

-- a null is 0, a boolean 1, a whole number 2, a text 3 and a byte string 4
abbrev pub IsValueOf : Cell → Option ColumnType → Value → Type 0
IsValueOf Null known value = IsValue 0 (pos 0) [] known value
IsValueOf (Flag truth) known value = IsValue 1 (if truth then pos 1 else pos 0) [] known value
IsValueOf (Whole number) known value = IsValue 2 number [] known value
IsValueOf (Text text) known value = IsValue 3 (pos 0) text known value
IsValueOf (Bytes bytes) known value = IsValue 4 (pos 0) bytes known value
