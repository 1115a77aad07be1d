-- Numbers.
use Rattle.std.proofs.Common.{◌≡◌, ℕ, ℤ, pos, ◌+◌, ◌-◌, ◌*◌, ◌<◌, ◌≤◌, ◌^◌, ◌==◌, ◌-ℤ◌, ◌≤ℤ◌, ◌<ℤ◌}
use Rattle.std.proofs.Common.{neg_ℤ, Bool, true, false, cond, nat_lt, List, [], ◌∷◌, ◌++◌, length, Option, Some, None}
use Rattle.std.proofs.Common.{refl, sym, ap, subst, ◌∙◌, inl, inr, arith}
use Rattle.std.proofs.lemmas.Int.{ints}
use Rattle.std.specs.Char.{digit_value}
use Rattle.std.specs.Str.Parse.{AllDigits, IsNumeral, digits_value, digits_value_after}
use Rattle.std.proofs.lemmas.Bool.{ltb-true, ltb-false, le-ltb, lt-ltb}
use Rattle.std.proofs.lemmas.Bool.Decides.{nat_tests}
use Rattle.std.proofs.Math.Seq.{take-append_seam}
use Rattle.ice_filter.specs.declared.token.Token.{Token}
use Rattle.ice_filter.specs.declared.token.Token.TheVariants as token
use Rattle.ice_filter.specs.Lexing.{Sized, is_separator, is_letter, is_digit, run_from, magnitude_from, number_of}
use Rattle.ice_filter.specs.Lexing.{digits_at}
use Rattle.ice_filter.specs.Lexing.{front_at}
use Rattle.ice_filter_laws.specs.Spelling.{Fits, WritesNumber}
use Rattle.ice_filter_laws.proofs.Passing.{AllPass, Stops, run_is, run_of, all_pass_append}
use Rattle.ice_filter_laws.proofs.Reading.{IsRead, Reading, IsFound}

digit_is : (d : ℕ) → is_digit d ≡ true → digit_value d < 10
digit_is d h = grind (arith, nat_tests)

is_digit_of : (d : ℕ) → digit_value d < 10 → is_digit d ≡ true
is_digit_of d h = grind (arith, nat_tests)

digit_counts : (d : ℕ) → is_digit d ≡ true → digit_value d ≡ d - 48
digit_counts d h = grind (arith, nat_tests)

all_digits : (ds : List ℕ) → AllPass is_digit ds → AllDigits 10 ds
all_digits [] h = tt
all_digits (d ∷ ds) h = (digit_is d h.0, all_digits ds h.1)

pass_digits : (ds : List ℕ) → AllDigits 10 ds → AllPass is_digit ds
pass_digits [] h = tt
pass_digits (d ∷ ds) h = (is_digit_of d h.0, pass_digits ds h.1)

-- ---- their value

at_least : (n : ℕ) (ds : List ℕ) → n ≤ digits_value_after 10 n ds
at_least n [] = omega arith
at_least n (d ∷ ds) = omega (arith, at_least (n * 10 + digit_value d) ds)

abbrev Value : ℕ → Option ℕ
Value v = cond (nat_lt 0x8000_0000_0000_0000 v) None (Some v)

value_more : (n d : ℕ) (ds : List ℕ) (t : Bool) → nat_lt 0x8000_0000_0000_0000 (n * 10 + (d - 48)) ≡ t
    → is_digit d ≡ true → (n * 10 + (d - 48) ≤ 0x8000_0000_0000_0000 → magnitude_from (n * 10 + (d - 48)) ds
    ≡ Value (digits_value_after 10 (n * 10 + (d - 48)) ds))
    → magnitude_from n (d ∷ ds) ≡ Value (digits_value_after 10 n (d ∷ ds))
unfolding magnitude_from
value_more n d ds true e h later =
    let over = ltb-true 0x8000_0000_0000_0000 (n * 10 + (d - 48)) e in
    let value = digits_value_after 10 (n * 10 + (d - 48)) ds in
    let least : n * 10 + (d - 48) ≤ value = at_least (n * 10 + (d - 48)) ds in
    rw (e, digit_counts d h, lt-ltb 0x8000_0000_0000_0000 value (omega arith)) refl
value_more n d ds false e h later =
    rw (e, digit_counts d h) (later (ltb-false 0x8000_0000_0000_0000 (n * 10 + (d - 48)) e))

value_is : (n : ℕ) (ds : List ℕ) → n ≤ 0x8000_0000_0000_0000 → AllPass is_digit ds
    → magnitude_from n ds ≡ Value (digits_value_after 10 n ds)
unfolding magnitude_from
value_is n [] le h = rw (le-ltb 0x8000_0000_0000_0000 n le) refl
value_is n (d ∷ ds) le h = value_more n d ds (nat_lt 0x8000_0000_0000_0000 (n * 10 + (d - 48))) refl h.0
    (λ small. value_is (n * 10 + (d - 48)) ds small h.1)

-- the digits in front, and how many bytes there are with those before
digits_read : (minus : Bool) (k : ℕ) (ds rest : List ℕ) → AllPass is_digit ds → Stops is_digit rest
    → digits_at minus k (ds ++ rest) ≡ (number_of minus (Value (digits_value 10 ds)), k + length ds)
digits_read minus k ds rest h s =
    let count : 0 + length ds ≡ length ds = omega arith in
    let run : run_from is_digit 0 (ds ++ rest) ≡ length ds = run_is is_digit 0 ds rest h s ∙ count in
    rw (run, take-append_seam ds rest, value_is 0 ds (omega arith) h) refl

-- ---- the number

negative_is : (v : ℕ) → pos 0 -ℤ pos v ≡ neg_ℤ (pos v)
negative_is v = omega (arith, ints)

positive_small : (v : ℕ) → Fits (token.Number (pos v)) → v < 0x8000_0000_0000_0000
positive_small v h = let k : pos v <ℤ pos (2 ^ 63) = h.1 in omega (arith, ints)

negative_small : (v : ℕ) → Fits (token.Number (neg_ℤ (pos v))) → v ≤ 0x8000_0000_0000_0000
negative_small v h = let k : neg_ℤ (pos (2 ^ 63)) ≤ℤ neg_ℤ (pos v) = h.0 in omega (arith, ints)

small_positive : (v : ℕ) → v < 0x8000_0000_0000_0000 → Fits (token.Number (pos v))
small_positive v h = (omega (arith, ints), omega (arith, ints))

small_negative : (v : ℕ) → v ≤ 0x8000_0000_0000_0000 → Fits (token.Number (neg_ℤ (pos v)))
small_negative v h = (omega (arith, ints), omega (arith, ints))

positive_is : (v : ℕ) → v < 0x8000_0000_0000_0000 → number_of false (Value v) ≡ token.Number (pos v)
positive_is v h = rw (le-ltb 0x8000_0000_0000_0000 v (omega arith), lt-ltb v 0x8000_0000_0000_0000 h) refl

negated_is : (v : ℕ) → v ≤ 0x8000_0000_0000_0000 → number_of true (Value v) ≡ token.Number (neg_ℤ (pos v))
negated_is v h = rw (le-ltb 0x8000_0000_0000_0000 v h, le-ltb 0x8000_0000_0000_0000 v h) (ap (λ (z : ℤ). token.Number z)
    (negative_is v))

positive_by : (v : ℕ) (t u : Bool) → nat_lt 0x8000_0000_0000_0000 v ≡ t → nat_lt v 0x8000_0000_0000_0000 ≡ u
    → (number_of false (Value v) ≡ token.Bad → ⊥) → v < 0x8000_0000_0000_0000
positive_by v true u e k good = absurd (good (rw e refl))
positive_by v false true e k good = ltb-true v 0x8000_0000_0000_0000 k
positive_by v false false e k good = absurd (good (rw (e, k) refl))

negative_by : (v : ℕ) (t : Bool) → nat_lt 0x8000_0000_0000_0000 v ≡ t
    → (number_of true (Value v) ≡ token.Bad → ⊥) → v ≤ 0x8000_0000_0000_0000
negative_by v true e good = absurd (good (rw e refl))
negative_by v false e good = ltb-false 0x8000_0000_0000_0000 v e

-- ---- how it is read

digit_front : (d : ℕ) (bytes : List ℕ) → is_digit d ≡ true
    → (is_separator d ≡ false) × (front_at d bytes ≡ digits_at false 0 bytes)
unfolding front_at
digit_front d bytes h =
    let x : (d == 120) ≡ false = grind (arith, nat_tests) in
    let letter : is_letter d ≡ false = grind (arith, nat_tests) in
    let blank : is_separator d ≡ false = grind (arith, nat_tests) in
    (blank, rw (x, letter, h) refl)

minus_front : (d : ℕ) (bytes : List ℕ) → is_digit d ≡ true
    → front_at 45 (45 ∷ d ∷ bytes) ≡ digits_at true 1 (d ∷ bytes)
unfolding front_at
minus_front d bytes h = rw h refl

positive_read : (ds rest : List ℕ) → IsNumeral 10 ds → Stops is_digit rest
    → IsRead ds (token.Number (pos (digits_value 10 ds))) rest
positive_read [] rest h s = absurd (omega (arith, h.0))
positive_read (d ∷ ds) rest h s =
    let pass = pass_digits (d ∷ ds) h.1 in
    let front = digit_front d (d ∷ (ds ++ rest)) pass.0 in
    let v = digits_value 10 (d ∷ ds) in
    let e : front_at d (d ∷ (ds ++ rest)) ≡ (number_of false (Value v), 0 + length (d ∷ ds)) =
    front.1 ∙ digits_read false 0 (d ∷ ds) rest pass s in
    let count : 0 + length (d ∷ ds) ≡ length (d ∷ ds) = omega arith in
    (front.0, ap (λ x. x.1) e ∙ count, λ f. ap (λ x. x.0) e ∙ positive_is v (positive_small v f))

negative_read : (ds rest : List ℕ) → IsNumeral 10 ds → Stops is_digit rest
    → IsRead (45 ∷ ds) (token.Number (neg_ℤ (pos (digits_value 10 ds)))) rest
negative_read [] rest h s = absurd (omega (arith, h.0))
negative_read (d ∷ ds) rest h s =
    let pass = pass_digits (d ∷ ds) h.1 in
    let v = digits_value 10 (d ∷ ds) in
    let e : front_at 45 (45 ∷ d ∷ (ds ++ rest)) ≡ (number_of true (Value v), 1 + length (d ∷ ds)) =
    minus_front d (ds ++ rest) pass.0 ∙ digits_read true 1 (d ∷ ds) rest pass s in
    let count : 1 + length (d ∷ ds) ≡ length (45 ∷ d ∷ ds) = omega arith in
    (refl, ap (λ x. x.1) e ∙ count, λ f. ap (λ x. x.0) e ∙ negated_is v (negative_small v f))

numeral_and : (ds : List ℕ) (next : ℕ) → IsNumeral 10 ds → is_digit next ≡ true → IsNumeral 10 (ds ++ next ∷ [])
numeral_and [] next h k = absurd (omega (arith, h.0))
numeral_and (d ∷ ds) next h k =
    let pass = all_pass_append is_digit (d ∷ ds) (next ∷ []) (pass_digits (d ∷ ds) h.1) (k, tt) in
    (omega arith, all_digits ((d ∷ ds) ++ next ∷ []) pass)

positive_reading : (ds : List ℕ) → IsNumeral 10 ds → Reading is_digit ds (token.Number (pos (digits_value 10 ds)))
positive_reading ds h = record {
  read = λ rest s. positive_read ds rest h s;
  longer = λ next rest e. (
    [],
    token.Number (pos (digits_value 10 (ds ++ next ∷ []))),
    (ds ++ next ∷ [], numeral_and ds next h e, inl (refl, refl)),
  );
}

negative_reading : (ds : List ℕ) → IsNumeral 10 ds
    → Reading is_digit (45 ∷ ds) (token.Number (neg_ℤ (pos (digits_value 10 ds))))
negative_reading ds h = record {
  read = λ rest s. negative_read ds rest h s;
  longer = λ next rest e. (
    [],
    token.Number (neg_ℤ (pos (digits_value 10 (ds ++ next ∷ [])))),
    (ds ++ next ∷ [], numeral_and ds next h e, inr (refl, refl)),
  );
}

pub number_reading : (s : List ℕ) (z : ℤ) → WritesNumber s z → Reading is_digit s (token.Number z)
number_reading s z (ds, h, inl e) = rw (e.0, e.1) (positive_reading ds h)
number_reading s z (ds, h, inr e) = rw (e.0, e.1) (negative_reading ds h)

-- ---- what is found

pub positive_found : (b : ℕ) (bs : List ℕ) → is_digit b ≡ true
    → ((digits_at false 0 (b ∷ bs)).0 ≡ token.Bad → ⊥) → IsFound (b ∷ bs) (digits_at false 0 (b ∷ bs))
positive_found b bs h good =
    let r = run_of is_digit bs in
    let ds = b ∷ r.0 in
    let v = digits_value 10 ds in
    let pass : AllPass is_digit ds = (h, r.3) in
    let split : b ∷ bs ≡ ds ++ r.1 = ap (λ x. b ∷ x) r.2 in
    let e : digits_at false 0 (b ∷ bs) ≡ (number_of false (Value v), 0 + length ds) = rw split (digits_read false 0 ds
    r.1 pass r.4) in
    let small : v < 0x8000_0000_0000_0000 = positive_by v (nat_lt 0x8000_0000_0000_0000 v) (nat_lt v
    0x8000_0000_0000_0000) refl refl (λ bad. good (ap (λ x. x.0) e ∙ bad)) in
    let numeral : IsNumeral 10 ds = (omega arith, all_digits ds pass) in
    let sized : Token → ℕ → Sized = λ t k. (t, k) in
    let same : (number_of false (Value v), 0 + length ds) ≡ sized (token.Number (pos v)) (0 + length ds) =
    ap (λ (t : Token). sized t (0 + length ds)) (positive_is v small) in
    subst (λ (x : Sized). IsFound (b ∷ bs) x) (sym (e ∙ same)) (record {
      spelling = ds;
      rest = r.1;
      split = split;
      size = omega arith;
      spelled = (ds, numeral, inl (refl, refl));
      fits = small_positive v small;
      on = is_digit;
      reading = positive_reading ds numeral;
      stops = r.4;
    })

pub negative_found : (d : ℕ) (bs : List ℕ) → is_digit d ≡ true
    → ((digits_at true 1 (d ∷ bs)).0 ≡ token.Bad → ⊥) → IsFound (45 ∷ d ∷ bs) (digits_at true 1 (d ∷ bs))
negative_found d bs h good =
    let r = run_of is_digit bs in
    let ds = d ∷ r.0 in
    let v = digits_value 10 ds in
    let pass : AllPass is_digit ds = (h, r.3) in
    let split : d ∷ bs ≡ ds ++ r.1 = ap (λ x. d ∷ x) r.2 in
    let e : digits_at true 1 (d ∷ bs) ≡ (number_of true (Value v), 1 + length ds) = rw split (digits_read true 1 ds
    r.1 pass r.4) in
    let small : v ≤ 0x8000_0000_0000_0000 = negative_by v (nat_lt 0x8000_0000_0000_0000 v) refl
    (λ bad. good (ap (λ x. x.0) e ∙ bad)) in
    let numeral : IsNumeral 10 ds = (omega arith, all_digits ds pass) in
    let sized : Token → ℕ → Sized = λ t k. (t, k) in
    let same : (number_of true (Value v), 1 + length ds) ≡ sized (token.Number (neg_ℤ (pos v))) (1 + length ds) =
    ap (λ (t : Token). sized t (1 + length ds)) (negated_is v small) in
    subst (λ (x : Sized). IsFound (45 ∷ d ∷ bs) x) (sym (e ∙ same)) (record {
      spelling = 45 ∷ ds;
      rest = r.1;
      split = ap (λ x. 45 ∷ x) split;
      size = omega arith;
      spelled = (ds, numeral, inr (refl, refl));
      fits = small_negative v small;
      on = is_digit;
      reading = negative_reading ds numeral;
      stops = r.4;
    })
