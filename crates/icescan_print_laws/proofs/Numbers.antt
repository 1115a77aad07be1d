-- Numbers and paths as words, and back.
use Rattle.std.proofs.Common.{◌≡◌, ℕ, zero, suc, ◌^◌, ◌<◌, ◌≤◌, ◌/◌, ◌%◌, List, [], ◌∷◌, ◌++◌, length, map, Bool, true}
use Rattle.std.proofs.Common.{false, ◌==◌, refl, ap, ◌∙◌, arith, tests, ℤ, pos, negsuc, append-nil}
use Rattle.std.specs.Prelude.{if◌then◌else◌, codes}
use Rattle.std.specs.List.{AllByRecursion, All, flat_map}
use Rattle.std.specs.Fmt.{decimal, signed_decimal, digits, digits_onto, digit_glyph}
use Rattle.std.specs.Str.{bytes_eq}
use Rattle.std.specs.Str.Parse.{digits_value, signed_digits_value}
use Rattle.std.proofs.lemmas.Fmt.{decimal_is_IsNumeral, decimal_nonempty}
use Rattle.std.proofs.lemmas.List.Elements.{All-cons, All-nil}
use Rattle.std.proofs.lemmas.List.Splits.{slice_split_none, slice_split_at}
use Rattle.icescan_print.specs.Escaping.{hex_digit, is_escaped, escaped_byte, escaped}
use Rattle.ice_value.specs.Bounds.{fits_long}
use Rattle.icescan_print.specs.PlanTexts.{ids_text}
use Rattle.icescan_print_laws.specs.PlanTold.{parts, ids_told}
use Rattle.icescan_print_laws.proofs.Words.{IsWord}

-- ---- paths

word_append : (v w : List ℕ) → IsWord v → IsWord w → IsWord (v ++ w)
word_append [] w a b = b
word_append (x ∷ v) w a b = (a.0, word_append v w a.1 b)

byte_word : (b : ℕ) → IsWord (escaped_byte b)
byte_word b = go (is_escaped b) refl where
  high : (n : ℕ) → 32 < hex_digit n
  high n = grind (arith, tests)

  go : (t : Bool) → is_escaped b ≡ t → IsWord (escaped_byte b)
  go true e = rw e (omega arith, (omega arith, (high (b / 16), (high (b % 16), tt))))
  go false e = rw e (grind (arith, tests), tt)

pub path_word : (bytes : List ℕ) → IsWord (escaped bytes)
path_word [] = tt
path_word (b ∷ bytes) = word_append (escaped_byte b) (escaped bytes) (byte_word b) (path_word bytes)

-- ---- numbers

-- decimal digits
abbrev pub AreDigits : List ℕ → Type 0
AreDigits ds = AllByRecursion (λ d. (48 ≤ d) × (d ≤ 57)) ds

last_digit : (n : ℕ) → (48 ≤ digit_glyph false (n % 10)) × (digit_glyph false (n % 10) ≤ 57)
last_digit n = (grind (arith, tests), grind (arith, tests))

either : (t : Bool) (v w : List ℕ) → AreDigits v → AreDigits w → AreDigits (if t then v else w)
either true v w a b = a
either false v w a b = b

onto_digits : (k n : ℕ) (acc : List ℕ) → AreDigits acc → AreDigits (digits_onto k 10 false n acc)
onto_digits zero n acc h = h
onto_digits (suc k) n acc h =
    let last = last_digit n in
    either (n / 10 == 0) (digit_glyph false (n % 10) ∷ acc) _ (last, h)
    (onto_digits k (n / 10) (digit_glyph false (n % 10) ∷ acc) (last, h))

pub decimal_digits : (n : ℕ) → AreDigits (decimal n)
unfolding digits
decimal_digits n = onto_digits 64 n [] tt

digits_word : (ds : List ℕ) → AreDigits ds → IsWord ds
digits_word [] h = tt
digits_word (d ∷ ds) h = (omega (arith, h.0.0), digits_word ds h.1)

pub decimal_word : (n : ℕ) → IsWord (decimal n)
decimal_word n = digits_word (decimal n) (decimal_digits n)

pub signed_word : (z : ℤ) → IsWord (signed_decimal z)
signed_word (pos n) = decimal_word n
signed_word (negsuc n) = (omega arith, decimal_word (suc n))

pub number_back : (n : ℕ) → n < 2 ^ 64 → digits_value 10 (decimal n) ≡ n
number_back n h = (decimal_is_IsNumeral n h).1

-- digits are read without a sign
unsigned : (ds : List ℕ) → AreDigits ds → signed_digits_value 10 ds ≡ pos (digits_value 10 ds)
unsigned [] h = refl
unsigned (d ∷ ds) h =
    let e : (d == 45) ≡ false = grind (arith, tests, h.0.0) in
    let f : (d == 43) ≡ false = grind (arith, tests, h.0.0) in
    rw (e, f) refl

pub signed_back : (z : ℤ) → fits_long z ≡ true → signed_digits_value 10 (signed_decimal z) ≡ z
signed_back (pos n) h =
    let l : n < 2 ^ 63 = grind (arith, tests) in
    unsigned (decimal n) (decimal_digits n) ∙ ap pos (number_back n (omega arith))
signed_back (negsuc n) h =
    let l : n < 2 ^ 63 = grind (arith, tests) in
    rw (number_back (suc n) (omega arith)) refl

-- ---- lists of ids

abbrev LacksComma : List ℕ → Type 0
LacksComma w = All (λ b. (b == 44) ≡ false) w

digits_lack : (ds : List ℕ) → AreDigits ds → LacksComma ds
digits_lack [] h = All-nil (λ b. (b == 44) ≡ false)
digits_lack (d ∷ ds) h =
    let e : (d == 44) ≡ false = grind (arith, tests, h.0.0) in
    All-cons (λ b. (b == 44) ≡ false) d ds e (digits_lack ds h.1)

id_lacks : (z : ℤ) → LacksComma (signed_decimal z)
id_lacks (pos n) = digits_lack (decimal n) (decimal_digits n)
id_lacks (negsuc n) =
    let rest = digits_lack (decimal (suc n)) (decimal_digits (suc n)) in
    All-cons (λ b. (b == 44) ≡ false) 45 (decimal (suc n)) refl rest

abbrev more_ids : List ℤ → List ℕ
more_ids ids = flat_map (λ i. 44 ∷ signed_decimal i) ids

ids_parts : (id : ℤ) (ids : List ℤ) → parts 44 (signed_decimal id ++ more_ids ids) ≡ map signed_decimal (id ∷ ids)
ids_parts id [] =
    rw (append-nil (signed_decimal id)) (slice_split_none (λ b. b == 44) (signed_decimal id) (id_lacks id))
ids_parts id (i ∷ ids) =
    slice_split_at (λ b. b == 44) (signed_decimal id) 44 (signed_decimal i ++ more_ids ids) (id_lacks id) refl
    ∙ ap (λ l. signed_decimal id ∷ l) (ids_parts i ids)

ids_read : (ids : List ℤ) → AllByRecursion (λ id. fits_long id ≡ true) ids
    → map (signed_digits_value 10) (map signed_decimal ids) ≡ ids
ids_read [] h = refl
ids_read (id ∷ ids) h = rw (signed_back id h.0, ids_read ids h.1) refl

-- what begins with a digit, or is longer than a dash, is no dash
some_digit : (ds rest : List ℕ) → AreDigits ds → 0 < length ds → bytes_eq (ds ++ rest) (codes "-") ≡ false
some_digit [] rest h some = absurd (omega arith)
some_digit (d ∷ ds) rest h some =
    let e : (d == 45) ≡ false = grind (arith, tests, h.0.0) in
    rw e refl

minus_digit : (ds rest : List ℕ) → 0 < length ds → bytes_eq (45 ∷ (ds ++ rest)) (codes "-") ≡ false
minus_digit [] rest some = absurd (omega arith)
minus_digit (d ∷ ds) rest some = refl

no_dash : (id : ℤ) (rest : List ℕ) → fits_long id ≡ true
    → bytes_eq (signed_decimal id ++ rest) (codes "-") ≡ false
no_dash (pos n) rest h =
    let l : n < 2 ^ 63 = grind (arith, tests) in
    some_digit (decimal n) rest (decimal_digits n) (decimal_nonempty n (omega arith))
no_dash (negsuc n) rest h =
    let l : n < 2 ^ 63 = grind (arith, tests) in
    minus_digit (decimal (suc n)) rest (decimal_nonempty (suc n) (omega arith))

pub ids_back : (ids : List ℤ) → AllByRecursion (λ id. fits_long id ≡ true) ids → ids_told (ids_text ids) ≡ ids
ids_back [] h = refl
ids_back (id ∷ ids) h =
    rw (no_dash id (more_ids ids) h.0, ids_parts id ids) (ids_read (id ∷ ids) h)

more_word : (ids : List ℤ) → IsWord (more_ids ids)
more_word [] = tt
more_word (i ∷ ids) = (omega arith, word_append (signed_decimal i) (more_ids ids) (signed_word i) (more_word ids))

pub ids_word : (ids : List ℤ) → IsWord (ids_text ids)
ids_word [] = (omega arith, tt)
ids_word (id ∷ ids) = word_append (signed_decimal id) (more_ids ids) (signed_word id) (more_word ids)
