-- Decimals as texts (Apache Iceberg table spec v2, "JSON single-value serialization": a decimal is its digits with the
-- point where its scale says). (45 is the hyphen, 46 the point, 48 the digit 0.)
use Rattle.std.specs.Prelude.{ℕ, ◌-◌, ◌&&◌, nat_lt, nat_le, Bool, List, [], ◌∷◌, ◌++◌, length, take, drop}
use Rattle.std.specs.Prelude.{if◌then◌else◌, ℤ, pos, negsuc, replicate, slice_index, unsigned_abs}
use Rattle.std.specs.Fmt.{decimal}
use Rattle.std.specs.Int.{cast_signed, from_be_bytes, w128}

-- what stands before the bytes of a number, the highest first, in a longer one
abbrev pub sign_byte : List ℕ → ℕ
sign_byte bytes = if nat_lt (slice_index bytes 0) 128 then 0 else 255

-- 16 bytes of the same number
abbrev pub widened : List ℕ → List ℕ
widened bytes = replicate (16 - length bytes) (sign_byte bytes) ++ bytes

-- the number of 16 bytes or fewer, in two's complement
abbrev pub unscaled : List ℕ → ℤ
unscaled bytes = cast_signed w128 (from_be_bytes w128 (widened bytes))

-- a decimal of so many digits behind the point is written as one where it has at most 38 digits behind the point, and
-- from 1 to 16 bytes
abbrev pub is_decimal : ℕ → List ℕ → Bool
is_decimal scale bytes = nat_le scale 38 && (nat_lt 0 (length bytes) && nat_le (length bytes) 16)

abbrev pub minus_if : ℤ → List ℕ
minus_if (pos n) = []
minus_if (negsuc n) = 45 ∷ []

-- the point before so many of the digits, and zeros before them where there are too few
abbrev pub with_point : ℕ → List ℕ → List ℕ
with_point scale ds =
    if nat_lt scale (length ds) then take (length ds - scale) ds ++ 46 ∷ drop (length ds - scale) ds
    else 48 ∷ 46 ∷ (replicate (scale - length ds) 48 ++ ds)

-- the digits, with a point where any stand behind it
abbrev pub scaled : ℕ → List ℕ → List ℕ
scaled scale ds = if nat_lt 0 scale then with_point scale ds else ds

abbrev pub decimal_text : ℕ → ℤ → List ℕ
decimal_text scale z = minus_if z ++ scaled scale (decimal (unsigned_abs z))
