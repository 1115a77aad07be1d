-- The texts that name transforms (Apache Iceberg table spec v2, "Partition Transforms"). A number N or W is written in
-- decimal digits, without a sign and without a leading zero, from 1 to 2147483647.
use Rattle.std.specs.Prelude.{◌≡◌, ℕ, ◌+◌, ◌-◌, ◌*◌, ◌==◌, ◌&&◌, ◌||◌, Bool, false, List, [], ◌∷◌, ◌++◌, length, drop}
use Rattle.std.specs.Prelude.{codes, Option, None, Some, if◌then◌else◌, nat_lt, nat_eq, is_some}
use Rattle.std.specs.Fmt.{decimal}
use Rattle.std.specs.Option.{option_and_then}
use Rattle.std.specs.List.{starts_with}
use Rattle.std.specs.Str.{bytes_eq}
use Rattle.ice_transform.specs.Parameters.{parameter_if}
use Rattle.ice_transform.specs.declared.transform.Transform.{Transform}
use Rattle.ice_transform.specs.declared.transform.Transform.TheVariants.{Identity, Bucket, Truncate, Year, Month, Day}
use Rattle.ice_transform.specs.declared.transform.Transform.TheVariants.{Hour, Void, Unknown}

-- the number after one more digit, where it stays below 2 ^ 32
abbrev pub with_digit : ℕ → ℕ → Option ℕ
with_digit n b = if nat_lt 47 b && nat_lt b 58 && nat_lt (n * 10 + (b - 48)) 0x1_0000_0000 then Some (n * 10 + (b - 48))
    else None

-- the number that the digits write after those of n, where a closing bracket follows them and ends the text
abbrev pub number_after : ℕ → List ℕ → Option ℕ
number_after n [] = None
number_after n (b ∷ []) = if b == 93 then Some n else None
number_after n (b ∷ c ∷ bs) = option_and_then (λ m. number_after m (c ∷ bs)) (with_digit n b)

-- the number of a transform, before the closing bracket
abbrev pub parameter_before_bracket : List ℕ → Option ℕ
parameter_before_bracket [] = None
parameter_before_bracket (b ∷ bs) = if b == 48 then None else option_and_then parameter_if (number_after 0 (b ∷ bs))

-- the number of a transform whose text begins so
abbrev pub parameter_in : List ℕ → List ℕ → Option ℕ
parameter_in front text = if starts_with nat_eq text front then parameter_before_bracket (drop (length front) text)
    else None

-- a known transform without a number has this text
abbrev pub is_plain_name : List ℕ → Bool
is_plain_name text =
    bytes_eq text (codes "identity") || bytes_eq text (codes "year") || bytes_eq text (codes "month") ||
    bytes_eq text (codes "day")
    || bytes_eq text (codes "hour") || bytes_eq text (codes "void")

-- a known transform has this text
abbrev pub is_name : List ℕ → Bool
is_name text =
    is_plain_name text || is_some (parameter_in (codes "bucket[") text) ||
    is_some (parameter_in (codes "truncate[") text)

-- the transform of a text; a text that no known transform has is kept
abbrev pub IsNamed : Transform → List ℕ → Type 0
IsNamed Identity text = text ≡ codes "identity"
IsNamed (Bucket buckets) text = parameter_in (codes "bucket[") text ≡ Some buckets.number
IsNamed (Truncate width) text = parameter_in (codes "truncate[") text ≡ Some width.number
IsNamed Year text = text ≡ codes "year"
IsNamed Month text = text ≡ codes "month"
IsNamed Day text = text ≡ codes "day"
IsNamed Hour text = text ≡ codes "hour"
IsNamed Void text = text ≡ codes "void"
IsNamed (Unknown kept) text = (kept ≡ text) × (is_name text ≡ false)

-- the text of a transform
abbrev pub name_of : Transform → List ℕ
name_of Identity = codes "identity"
name_of (Bucket buckets) = codes "bucket[" ++ (decimal buckets.number ++ codes "]")
name_of (Truncate width) = codes "truncate[" ++ (decimal width.number ++ codes "]")
name_of Year = codes "year"
name_of Month = codes "month"
name_of Day = codes "day"
name_of Hour = codes "hour"
name_of Void = codes "void"
name_of (Unknown kept) = kept

-- a transform that a text names: an unknown one doesn't keep the text of a known one
abbrev pub IsOfText : Transform → Type 0
IsOfText (Unknown kept) = is_name kept ≡ false
IsOfText _ = Unit {0}
