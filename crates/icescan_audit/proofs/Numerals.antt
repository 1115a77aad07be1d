-- Texts of whole numbers.
use Rattle.std.proofs.Common.{◌≡◌, ℕ, Bool, true, false, List, [], ◌∷◌, length, refl, sym, Some, None}
use Rattle.std.specs.Prelude.{◌^◌, ◌<◌, ◌&&◌, nat_lt, if◌then◌else◌}
use Rattle.std.specs.List.{list_all}
use Rattle.std.specs.Char.{digit_value}
use Rattle.std.specs.Str.Parse.{AllDigits, IsNumeral, digits_value, without_leading_plus}
use Rattle.std.proofs.lemmas.Bool.{ltb-true, lt-ltb}
use Rattle.icescan_audit.specs.Summaries.{is_numeral, number_in}

both : (a b : Bool) → a && b ≡ true → (a ≡ true) × (b ≡ true)
both true true e = (refl, refl)
both true false e = absurd cc
both false b e = absurd cc

together : (a b : Bool) → a ≡ true → b ≡ true → a && b ≡ true
together true true e f = refl
together true false e f = absurd cc
together false b e f = absurd cc

abbrev are_digits : List ℕ → Bool
are_digits ds = list_all (λ d. nat_lt (digit_value d) 10) ds

all_digits : (ds : List ℕ) → are_digits ds ≡ true → AllDigits 10 ds
all_digits [] e = tt
all_digits (d ∷ ds) e =
    let parts = both (nat_lt (digit_value d) 10) (are_digits ds) e in
    (ltb-true _ _ parts.0, all_digits ds parts.1)

digits_all : (ds : List ℕ) → AllDigits 10 ds → are_digits ds ≡ true
digits_all [] h = refl
digits_all (d ∷ ds) h =
    together (nat_lt (digit_value d) 10) (are_digits ds) (lt-ltb _ _ h.0) (digits_all ds h.1)

abbrev IsShort : List ℕ → Type 0
IsShort ds = IsNumeral 10 ds × (digits_value 10 ds < 2 ^ 64)

abbrev is_short : List ℕ → Bool
is_short ds = is_numeral ds && nat_lt (digits_value 10 ds) (2 ^ 64)

to_short : (ds : List ℕ) → is_short ds ≡ true → IsShort ds
to_short ds e =
    let parts = both (is_numeral ds) (nat_lt (digits_value 10 ds) (2 ^ 64)) e in
    let numeral = both (nat_lt 0 (length ds)) (are_digits ds) parts.0 in
    ((ltb-true _ _ numeral.0, all_digits ds numeral.1), ltb-true _ _ parts.1)

from_short : (ds : List ℕ) → IsShort ds → is_short ds ≡ true
from_short ds h = together (is_numeral ds) (nat_lt (digits_value 10 ds) (2 ^ 64))
    (together (nat_lt 0 (length ds)) (are_digits ds) (lt-ltb _ _ h.0.0) (digits_all ds h.0.1)) (lt-ltb _ _ h.1)

none_where : (b : Bool) (ds : List ℕ) → is_short ds ≡ b → (IsShort ds → ⊥)
    → (if b then Some (digits_value 10 ds) else None) ≡ None
none_where true ds is never = absurd (never (to_short ds is))
none_where false ds is never = refl

-- a text that is read as a number, and one that is not
pub number_read : (text : List ℕ) (n : ℕ) → IsShort (without_leading_plus text)
    → n ≡ digits_value 10 (without_leading_plus text) → Some n ≡ number_in text
number_read text n h is = rw (from_short (without_leading_plus text) h, is) refl

pub none_read : (text : List ℕ) → (IsShort (without_leading_plus text) → ⊥) → None ≡ number_in text
none_read text never =
    let ds = without_leading_plus text in
    sym (none_where (is_short ds) ds refl never)
