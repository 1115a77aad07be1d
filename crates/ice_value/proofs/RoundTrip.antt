-- What is written is read as the same value.
use Rattle.std.proofs.Common.{◌≡◌, ℕ, ℤ, pos, negsuc, Bool, true, false, cond, List, None, Some, length, refl, ap, ◌∙◌}
use Rattle.std.proofs.Common.{arith, SFits, nat_eq}
use Rattle.std.specs.Int.{w32, w64, cast_signed, cast_unsigned, from_le_bytes, to_le_bytes}
use Rattle.std.proofs.lemmas.Int.{ints, to_z-of_z}
use Rattle.std.proofs.lemmas.Nat.{from_le_bytes-to_le_bytes_4, from_le_bytes-to_le_bytes_8}
use Rattle.std.proofs.lemmas.Bool.Decides.{nat_tests}
use Rattle.ice_value.specs.declared.column_type.ColumnType.{ColumnType}
use Rattle.ice_value.specs.declared.column_type.ColumnType.TheVariants.{Boolean, Int, Long, Date, Time, Timestamp}
use Rattle.ice_value.specs.declared.column_type.ColumnType.TheVariants.{Timestamptz, String, Uuid, Fixed, Binary}
use Rattle.ice_value.specs.declared.cell.Cell.{Cell}
use Rattle.ice_value.specs.declared.cell.Cell.TheVariants.{Bool as Flag, Whole, Text, Bytes}
use Rattle.ice_value.specs.Bounds.{cell_in, fits_int, fits_long, int_bytes, long_bytes, is_value, bytes_of, written}

of_int : (z : ℤ) → fits_int z ≡ true → SFits w32 z
of_int (pos n) h = grind (arith, ints, nat_tests)
of_int (negsuc n) h = grind (arith, ints, nat_tests)

of_long : (z : ℤ) → fits_long z ≡ true → SFits w64 z
of_long (pos n) h = grind (arith, ints, nat_tests)
of_long (negsuc n) h = grind (arith, ints, nat_tests)

back_32 : (z : ℤ) → SFits w32 z → cast_signed w32 (from_le_bytes w32 (to_le_bytes w32 (cast_unsigned w32 z))) ≡ z
back_32 z f = ap (cast_signed w32) (from_le_bytes-to_le_bytes_4 (cast_unsigned w32 z) (omega (arith, ints))) ∙ to_z-of_z
    w32 z f

back_64 : (z : ℤ) → SFits w64 z → cast_signed w64 (from_le_bytes w64 (to_le_bytes w64 (cast_unsigned w64 z))) ≡ z
back_64 z f = ap (cast_signed w64) (from_le_bytes-to_le_bytes_8 (cast_unsigned w64 z) (omega (arith, ints))) ∙ to_z-of_z
    w64 z f

int_read : (z : ℤ) → fits_int z ≡ true → cell_in Int (int_bytes z) ≡ Some (Whole z)
int_read z h = ap (λ (y : ℤ). Some (Whole y)) (back_32 z (of_int z h))

long_read : (z : ℤ) → fits_long z ≡ true → cell_in Time (long_bytes z) ≡ Some (Whole z)
long_read z h = ap (λ (y : ℤ). Some (Whole y)) (back_64 z (of_long z h))

flag_read : (truth : Bool) → cell_in Boolean (bytes_of Boolean (Flag truth)) ≡ Some (Flag truth)
flag_read true = refl
flag_read false = refl

sized_read : (size : ℕ) (value : List ℕ) → nat_eq (length value) size ≡ true
    → cell_in (Fixed size) value ≡ Some (Bytes value)
sized_read size value h = rw h refl

-- the bytes of a value are read as that value
read_value : (t : ColumnType) (c : Cell) → is_value t c ≡ true → cell_in t (bytes_of t c) ≡ Some c
read_value Boolean (Flag truth) h = flag_read truth
read_value Int (Whole z) h = int_read z h
read_value Date (Whole z) h = int_read z h
read_value Long (Whole z) h = long_read z h
read_value Time (Whole z) h = long_read z h
read_value Timestamp (Whole z) h = long_read z h
read_value Timestamptz (Whole z) h = long_read z h
read_value String (Text text) h = rw h refl
read_value Uuid (Bytes u) h = sized_read 16 u h
read_value (Fixed size) (Bytes value) h = sized_read size value h
read_value Binary (Bytes value) h = refl
read_value _ _ h = absurd cc

if_written : (t : ColumnType) (c : Cell) (b : Bool) (given bs : List ℕ) → cond b (Some given) None ≡ Some bs
    → (b ≡ true → cell_in t given ≡ Some c) → cell_in t bs ≡ Some c
if_written t c true given bs e h = let same : given ≡ bs = cc in rw (← same) (h refl)
if_written t c false given bs e h = absurd cc

pub read_back : (t : ColumnType) (c : Cell) (bs : List ℕ) → written t c ≡ Some bs → cell_in t bs ≡ Some c
read_back t c bs h = if_written t c (is_value t c) (bytes_of t c) bs h (read_value t c)
