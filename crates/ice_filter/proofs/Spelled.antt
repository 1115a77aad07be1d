-- Numbers, bytes and words of a filter's text as tokens.
use Rattle.std.proofs.Common.{◌≡◌, ℕ, ℤ, pos, negsuc, zero, suc, ◌+◌, ◌-◌, ◌*◌, ◌/◌, ◌%◌, ◌<◌, ◌≤◌, ◌==◌, ◌-ℤ◌, Bool}
use Rattle.std.proofs.Common.{true, false, nat_lt, List, [], ◌∷◌, ◌++◌, length, None, Some, refl, ap, ◌∙◌, append_assoc}
use Rattle.std.proofs.Common.{arith}
use Rattle.std.proofs.lemmas.Bool.{ltb-true, le-ltb, lt-ltb}
use Rattle.std.proofs.lemmas.List.{append-nil, length-append}
use Rattle.std.proofs.lemmas.Fmt.{decimal_by_steps}
use Rattle.std.proofs.Math.Seq.{take-append_seam}
use Rattle.std.specs.Fmt.{decimal, signed_decimal}
use Rattle.std.specs.Prelude.{codes, slice_index}
use Rattle.std.specs.Str.{is_utf8}
use Rattle.hex.specs.Hex.{encode_with, lower_digits}
use Rattle.ice_filter.specs.declared.predicate.Literal.{Literal}
use Rattle.ice_filter.specs.declared.predicate.Literal.TheVariants as literal
use Rattle.ice_filter.specs.declared.token.Token.{Token}
use Rattle.ice_filter.specs.declared.token.Token.TheVariants as token
use Rattle.ice_filter.specs.Grammar.{literal_token}
use Rattle.ice_filter.specs.Lexing.{Sized, is_separator, is_digit, is_hex, nibble, run_from, magnitude_from, number_of}
use Rattle.ice_filter.specs.Lexing.{digits_at, hex_from, word_of, front_at}
use Rattle.ice_filter.specs.Texts.{literal_text, truth_text, bytes_text}
use Rattle.ice_filter.proofs.Lexed.{lexed, token_front, Stop, end, blank, close, comma, dot, after, Lexes, run_over}
use Rattle.ice_filter.proofs.Lexed.{and_parts, text_lexed}
use Rattle.ice_filter.proofs.Pieced.{other}

-- ---- numbers

digit_is : (d : ℕ) → 47 < d → d < 58 → is_digit d ≡ true
digit_is d low high = rw (lt-ltb 47 d low, lt-ltb d 58 high) refl

-- the digits of a number
record Digits (n : ℕ) (ds : List ℕ) : Type 0 where
  some : 0 < length ds
  run : (k : ℕ) → run_from is_digit k ds ≡ k + length ds
  value : n ≤ 0x8000_0000_0000_0000 → magnitude_from 0 ds ≡ Some n

next_digit : (m d n : ℕ) → m * 10 + (d - 48) ≡ n → n ≤ 0x8000_0000_0000_0000 → magnitude_from m (d ∷ []) ≡ Some n
unfolding magnitude_from
next_digit m d n e le = rw (e, le-ltb 0x8000_0000_0000_0000 n le) refl

one_digit : (n : ℕ) → n < 10 → Digits n ((48 + n) ∷ [])
unfolding run_from
one_digit n h = record {
  some = omega arith;
  run = λ k. rw (digit_is (48 + n) (omega arith) (omega arith)) refl;
  value = λ le. next_digit 0 (48 + n) n (omega arith) le;
}

magnitude_step : (k m d x : ℕ) (ds : List ℕ) (t : Bool) → nat_lt 0x8000_0000_0000_0000 (k * 10 + (x - 48)) ≡ t
    → (magnitude_from (k * 10 + (x - 48)) ds ≡ Some m → magnitude_from (k * 10 + (x - 48)) (ds ++ d ∷ [])
    ≡ magnitude_from m (d ∷ []))
    → magnitude_from k (x ∷ ds) ≡ Some m → magnitude_from k (x ∷ (ds ++ d ∷ [])) ≡ magnitude_from m (d ∷ [])
unfolding magnitude_from
magnitude_step k m d x ds true e later h = let no : None ≡ Some m = rw e at h in absurd (cc)
magnitude_step k m d x ds false e later h = rw e (later (rw e at h))

magnitude_over : (k m d : ℕ) (ds : List ℕ) → magnitude_from k ds ≡ Some m
    → magnitude_from k (ds ++ d ∷ []) ≡ magnitude_from m (d ∷ [])
unfolding magnitude_from
magnitude_over k m d [] h = let same : k ≡ m = cc in ap (λ z. magnitude_from z (d ∷ [])) same
magnitude_over k m d (x ∷ ds) h = magnitude_step k m d x ds (nat_lt 0x8000_0000_0000_0000 (k * 10 + (x - 48))) refl
    (magnitude_over (k * 10 + (x - 48)) m d ds) h

last_digit : (k d : ℕ) → 47 < d → d < 58 → run_from is_digit k (d ∷ []) ≡ k + 1
unfolding run_from
last_digit k d low high = rw (digit_is d low high) refl

more_digits : (n : ℕ) (ds : List ℕ) → 10 ≤ n → Digits (n / 10) ds → Digits n (ds ++ (48 + n % 10) ∷ [])
more_digits n ds ten h = record {
  some = omega (arith, length-append ds ((48 + n % 10) ∷ []));
  run = λ k.
      let count : k + length ds + 1 ≡ k + length (ds ++ (48 + n % 10) ∷ []) =
      omega (arith, length-append ds ((48 + n % 10) ∷ [])) in
      run_over is_digit k ds ((48 + n % 10) ∷ []) (h.run k) ∙ last_digit (k + length ds) (48 + n % 10) (omega arith)
      (omega arith) ∙ count;
  value = λ le. magnitude_over 0 (n / 10) (48 + n % 10) ds (h.value (omega arith)) ∙ next_digit (n / 10) (48 + n % 10) n
      (omega arith) le;
}

decimal_digits : (n : ℕ) → n ≤ 0x8000_0000_0000_0000 → Digits n (decimal n)
decimal_digits n le = decimal_by_steps Digits one_digit more_digits n (omega arith)

run_ends : (n : ℕ) (s : Stop) → run_from is_digit n (after s) ≡ n
unfolding run_from
run_ends n end = refl
run_ends n (blank bs) = refl
run_ends n (close bs) = refl
run_ends n (comma bs) = refl
run_ends n (dot bs) = refl

digits_read : (minus : Bool) (k n : ℕ) (ds : List ℕ) (s : Stop) → Digits n ds → n ≤ 0x8000_0000_0000_0000
    → digits_at minus k (ds ++ after s) ≡ (number_of minus (Some n), k + length ds)
digits_read minus k n ds s h le =
    let zero_more : 0 + length ds ≡ length ds = omega arith in
    let run : run_from is_digit 0 (ds ++ after s) ≡ length ds = run_over is_digit 0 ds (after s) (h.run 0) ∙ run_ends
    (0 + length ds) s ∙ zero_more in
    rw (run, take-append_seam ds (after s), h.value le) refl

first_passes : (d : ℕ) (ds : List ℕ) (t : Bool) → is_digit d ≡ t → run_from is_digit 0 (d ∷ ds) ≡ 0 + suc (length ds)
    → t ≡ true
unfolding run_from
first_passes d ds true e h = refl
first_passes d ds false e h = let no : 0 ≡ 0 + suc (length ds) = rw e at h in absurd (omega arith)

digit_front : (d : ℕ) (bytes : List ℕ) → is_digit d ≡ true
    → (is_separator d ≡ false) × (front_at d bytes ≡ digits_at false 0 bytes)
unfolding front_at
digit_front d bytes h =
    let e = and_parts (nat_lt 47 d) (nat_lt d 58) h in
    let low : 47 < d = ltb-true 47 d e.0 in
    let high : d < 58 = ltb-true d 58 e.1 in
    let x = other d 120 (λ f. absurd (omega arith)) in
    let u = other d 95 (λ f. absurd (omega arith)) in
    let a = other d 32 (λ f. absurd (omega arith)) in
    let b = other d 9 (λ f. absurd (omega arith)) in
    let c = other d 10 (λ f. absurd (omega arith)) in
    let r = other d 13 (λ f. absurd (omega arith)) in
    (rw (a, b, c, r) refl, rw (x, le-ltb 96 d (omega arith), le-ltb 64 d (omega arith), u, e.0, e.1) refl)

positive : (n : ℕ) (ds : List ℕ) (s : Stop) → Digits n ds → n < 0x8000_0000_0000_0000
    → lexed 0 (ds ++ after s) ≡ token.Number (pos n) ∷ lexed 0 (after s)
positive n [] s h small = absurd (omega (arith, h.some))
positive n (d ∷ ds) s h small =
    let first : is_digit d ≡ true = first_passes d ds (is_digit d) refl (h.run 0) in
    let front = digit_front d (d ∷ (ds ++ after s)) first in
    let count : 0 + suc (length ds) ≡ suc (length ds) = omega arith in
    token_front d ds (after s) (token.Number (pos n)) front.0
    (front.1 ∙ digits_read false 0 n (d ∷ ds) s h (omega arith) ∙ rw (lt-ltb n 0x8000_0000_0000_0000 small, count) refl)

pub negated : (n : ℕ) → pos 0 -ℤ pos (suc n) ≡ negsuc n
negated n =
    let less = lt-ltb 0 (suc n) (omega arith) in
    let rest : suc n - 1 ≡ n = omega arith in
    rw (less, rest) refl

negative : (n : ℕ) (ds : List ℕ) (s : Stop) → Digits (suc n) ds → suc n ≤ 0x8000_0000_0000_0000
    → lexed 0 (45 ∷ (ds ++ after s)) ≡ token.Number (negsuc n) ∷ lexed 0 (after s)
unfolding front_at
negative n [] s h small = absurd (omega (arith, h.some))
negative n (d ∷ ds) s h small =
    let first : is_digit d ≡ true = first_passes d ds (is_digit d) refl (h.run 0) in
    let e = and_parts (nat_lt 47 d) (nat_lt d 58) first in
    let count : 1 + suc (length ds) ≡ suc (suc (length ds)) = omega arith in
    let value : number_of true (Some (suc n)) ≡ token.Number (negsuc n) = rw (le-ltb 0x8000_0000_0000_0000 (suc n)
    small) (ap (λ (z : ℤ). token.Number z) (negated n)) in
    let sized : Token → ℕ → Sized = λ t k. (t, k) in
    token_front 45 (d ∷ ds) (after s) (token.Number (negsuc n)) refl
    (rw (e.0, e.1) (digits_read true 1 (suc n) (d ∷ ds) s h small
    ∙ ap (λ (t : Token). sized t (1 + suc (length ds))) value ∙ ap (λ (k : ℕ). sized (token.Number (negsuc n)) k)
    count))

-- ---- bytes

abbrev pub AllBytes : List ℕ → Type 0
AllBytes [] = Unit {0}
AllBytes (b ∷ bs) = (b < 256) × AllBytes bs

abbrev IsHexDigit : ℕ → Type 0
IsHexDigit k = ((slice_index lower_digits k == 39) ≡ false) × (is_hex (slice_index lower_digits k) ≡ true) ×
    (nibble (slice_index lower_digits k) ≡ k)

hex_digit : (k : ℕ) → k < 16 → IsHexDigit k
hex_digit zero h = (refl, refl, refl)
hex_digit (suc zero) h = (refl, refl, refl)
hex_digit (suc (suc zero)) h = (refl, refl, refl)
hex_digit (suc (suc (suc zero))) h = (refl, refl, refl)
hex_digit (suc (suc (suc (suc zero)))) h = (refl, refl, refl)
hex_digit (suc (suc (suc (suc (suc zero))))) h = (refl, refl, refl)
hex_digit (suc (suc (suc (suc (suc (suc zero)))))) h = (refl, refl, refl)
hex_digit (suc (suc (suc (suc (suc (suc (suc zero))))))) h = (refl, refl, refl)
hex_digit (suc (suc (suc (suc (suc (suc (suc (suc zero)))))))) h = (refl, refl, refl)
hex_digit (suc (suc (suc (suc (suc (suc (suc (suc (suc zero))))))))) h = (refl, refl, refl)
hex_digit (suc (suc (suc (suc (suc (suc (suc (suc (suc (suc zero)))))))))) h = (refl, refl, refl)
hex_digit (suc (suc (suc (suc (suc (suc (suc (suc (suc (suc (suc zero))))))))))) h = (refl, refl, refl)
hex_digit (suc (suc (suc (suc (suc (suc (suc (suc (suc (suc (suc (suc zero)))))))))))) h = (refl, refl, refl)
hex_digit (suc (suc (suc (suc (suc (suc (suc (suc (suc (suc (suc (suc (suc zero))))))))))))) h = (refl, refl, refl)
hex_digit (suc (suc (suc (suc (suc (suc (suc (suc (suc (suc (suc (suc (suc (suc zero)))))))))))))) h =
    (refl, refl, refl)
hex_digit (suc (suc (suc (suc (suc (suc (suc (suc (suc (suc (suc (suc (suc (suc (suc zero))))))))))))))) h =
    (refl, refl, refl)
hex_digit (suc (suc (suc (suc (suc (suc (suc (suc (suc (suc (suc (suc (suc (suc (suc (suc k)))))))))))))))) h =
    absurd (omega arith)

pair : (found : List ℕ) (n x y : ℕ) (bs : List ℕ) → (x == 39) ≡ false → is_hex x ≡ true → is_hex y ≡ true
    → hex_from found n (x ∷ y ∷ bs) ≡ hex_from (found ++ (nibble x * 16 + nibble y) ∷ []) (n + 2) bs
unfolding hex_from
pair found n x y bs h k l = rw (h, k, l) refl

hex_end : (found : List ℕ) (n : ℕ) (bs : List ℕ) → hex_from found n (39 ∷ bs) ≡ Some (found, n + 1)
unfolding hex_from
hex_end found n [] = refl
hex_end found n (b ∷ bs) = refl

hex_read : (found : List ℕ) (n : ℕ) (bytes rest : List ℕ) → AllBytes bytes
    → hex_from found n (encode_with lower_digits bytes ++ 39 ∷ rest) ≡ Some
    (found ++ bytes, n + (length (encode_with lower_digits bytes) + 1))
unfolding encode_with
hex_read found n [] rest h = hex_end found n rest ∙ rw (append-nil found) refl
hex_read found n (b ∷ bs) rest h =
    let high = hex_digit (b / 16) (omega (arith, h.0)) in
    let low = hex_digit (b % 16) (omega arith) in
    let value : b / 16 * 16 + b % 16 ≡ b = omega arith in
    let count : n + 2 + (length (encode_with lower_digits bs) + 1) ≡ n +
    (suc (suc (length (encode_with lower_digits bs))) + 1) = omega arith in
    let x = slice_index lower_digits (b / 16) in
    let y = slice_index lower_digits (b % 16) in
    let same : nibble x * 16 + nibble y ≡ b = rw (high.2, low.2) value in
    pair found n x y (encode_with lower_digits bs ++ 39 ∷ rest) high.0 high.1 low.1
    ∙ rw same (hex_read (found ++ b ∷ []) (n + 2) bs rest h.1 ∙ rw (append_assoc found (b ∷ []) bs, count) refl)

bytes_lexed : (bytes : List ℕ) → AllBytes bytes → Lexes (bytes_text bytes) (token.Bytes bytes ∷ [])
unfolding front_at
bytes_lexed bytes h s =
    let hex = encode_with lower_digits bytes in
    let count : 2 + (length hex + 1) ≡ suc (suc (length (hex ++ 39 ∷ []))) =
    omega (arith, length-append hex (39 ∷ [])) in
    token_front 120 (39 ∷ (hex ++ 39 ∷ [])) (after s) (token.Bytes bytes) refl
    (rw (append_assoc hex (39 ∷ []) (after s), hex_read [] 2 bytes (after s) h, count) refl)

-- ---- literals

true_lexed : Lexes (codes "true") (token.Truth true ∷ [])
unfolding lexed front_at run_from word_of
true_lexed end = refl
true_lexed (blank bs) = refl
true_lexed (close bs) = refl
true_lexed (comma bs) = refl
true_lexed (dot bs) = refl

false_lexed : Lexes (codes "false") (token.Truth false ∷ [])
unfolding lexed front_at run_from word_of
false_lexed end = refl
false_lexed (blank bs) = refl
false_lexed (close bs) = refl
false_lexed (comma bs) = refl
false_lexed (dot bs) = refl

pub truth_lexed : (b : Bool) → Lexes (truth_text b) (token.Truth b ∷ [])
truth_lexed true = true_lexed
truth_lexed false = false_lexed

-- a number of 64 bits
abbrev pub IsLong : ℤ → Type 0
IsLong (pos n) = n < 0x8000_0000_0000_0000
IsLong (negsuc n) = suc n ≤ 0x8000_0000_0000_0000

number_lexed : (z : ℤ) → IsLong z → Lexes (signed_decimal z) (token.Number z ∷ [])
number_lexed (pos n) h s = positive n (decimal n) s (decimal_digits n (omega arith)) h
number_lexed (negsuc n) h s = negative n (decimal (suc n)) s (decimal_digits (suc n) h) h

-- what a literal of the language holds
pub record IsRead (t : Token) : Type 0 where
  pub name : (n : List ℕ) → t ≡ token.Name n → is_utf8 n ≡ true
  pub text : (x : List ℕ) → t ≡ token.Text x → is_utf8 x ≡ true
  pub number : (z : ℤ) → t ≡ token.Number z → IsLong z
  pub bytes : (b : List ℕ) → t ≡ token.Bytes b → AllBytes b

pub literal_lexed : (l : Literal) → IsRead (literal_token l) → Lexes (literal_text l) (literal_token l ∷ [])
literal_lexed (literal.Truth b) h = truth_lexed b
literal_lexed (literal.Number z) h = number_lexed z (h.number z refl)
literal_lexed (literal.Text t) h = text_lexed t (h.text t refl)
literal_lexed (literal.Bytes b) h = bytes_lexed b (h.bytes b refl)
