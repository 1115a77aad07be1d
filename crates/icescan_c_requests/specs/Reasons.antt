-- The letter and the number with which a fault's line begins, behind the nine bytes `icescan: `, as in `F2` and `M10`.
use Rattle.std.specs.Prelude.{ℕ, ◌+◌, ◌*◌, ◌-◌, List, Option, Some, None, slice_get, if◌then◌else◌, nat_lt}
use Rattle.std.specs.Prelude.{◌&&◌}
use Rattle.icescan_c_requests.specs.declared.reason.Reason.{Reason}

abbrev pub digit_of : ℕ → Option ℕ
digit_of byte = if nat_lt 47 byte && nat_lt byte 58 then Some (byte - 48) else None

-- a number of one digit or two, which begins with these bytes
abbrev pub two_digits : Option ℕ → Option ℕ → Option ℕ
two_digits (Some tens) (Some ones) = Some (10 * tens + ones)
two_digits ones other = ones

abbrev pub number_of : ℕ → ℕ → Option ℕ
number_of first second = two_digits (digit_of first) (digit_of second)

-- 0 and 0 where no number stands behind the letter
abbrev pub reason_of : ℕ → Option ℕ → Reason
reason_of letter (Some number) = record { letter = letter; number = number }
reason_of letter None = record { letter = 0; number = 0 }

abbrev pub reason_from : Option ℕ → Option ℕ → Option ℕ → Reason
reason_from (Some letter) (Some first) (Some second) = reason_of letter (number_of first second)
reason_from letter first second = reason_of 0 None

abbrev pub reason_in : List ℕ → Reason
reason_in line = reason_from (slice_get line 9) (slice_get line 10) (slice_get line 11)
