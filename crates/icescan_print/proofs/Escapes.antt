-- Escaping and back.
use Rattle.std.proofs.Common.{◌≡◌, ◌∙◌, ◌<◌, ◌+◌, ◌*◌, ◌/◌, ◌%◌, ℕ, List, [], ◌∷◌, ◌++◌, refl, ap, arith, tests, Bool}
use Rattle.std.proofs.Common.{true, false, Option, Some, None, ◌&&◌, ◌==◌}
use Rattle.std.proofs.Math.Nat.{div-add-mod}
use Rattle.icescan_print.specs.Escaping.{hex_digit, is_escaped, escaped_byte, escaped, digit_value, only_escaped}
use Rattle.icescan_print.specs.Escaping.{digits_byte, before, escape_byte, plain_byte, unescaped}

-- a digit is read as it was written
digit_back : (n : ℕ) → n < 16 → digit_value (hex_digit n) ≡ Some n
digit_back n h = grind (arith, tests)

small : (b : ℕ) → is_escaped b ≡ true → b < 128
small b h = grind (arith, tests)

split : (b : ℕ) → b < 128 → b / 16 < 16
split b h = omega arith

last : (b : ℕ) → b % 16 < 16
last b = omega arith

byte_back : (b : ℕ) → is_escaped b ≡ true → digits_byte (digit_value (hex_digit (b / 16)))
    (digit_value (hex_digit (b % 16))) ≡ Some b
byte_back b h =
    rw (digit_back (b / 16) (split b (small b h)), digit_back (b % 16) (last b), div-add-mod b 16, h) refl

-- a plain byte stands for itself
plain_first : (a : ℕ) (rest : List ℕ) → is_escaped a ≡ false → unescaped (a ∷ rest) ≡ before (Some a) (unescaped rest)
plain_first a [] h = rw h refl
plain_first a (b ∷ []) h = rw h refl
plain_first a (b ∷ c ∷ []) h = rw h refl
plain_first a (b ∷ c ∷ d ∷ rest) h = rw h refl

first_back : (b : ℕ) (rest : List ℕ) → unescaped (escaped_byte b ++ rest) ≡ before (Some b) (unescaped rest)
first_back b rest =
    let P : (v : Bool) → is_escaped b ≡ v → unescaped (escaped_byte b ++ rest) ≡ before (Some b) (unescaped rest) =
    λ v. elim v as (λ v. is_escaped b ≡ v → unescaped (escaped_byte b ++ rest) ≡ before (Some b) (unescaped rest)) [
      | true ↦ λ h. rw (h, byte_back b h) refl
      | false ↦ λ h. rw h (plain_first b rest h)
    ] in
    P (is_escaped b) refl

-- what is escaped stands for what it was
pub back : (bytes : List ℕ) → unescaped (escaped bytes) ≡ Some bytes
back [] = refl
back (b ∷ bytes) = first_back b (escaped bytes) ∙ ap (before (Some b)) (back bytes)

before_parts : (o : Option ℕ) (r : Option (List ℕ)) (bytes : List ℕ) → before o r ≡ Some bytes
    → (b : ℕ) × (q : List ℕ) × (o ≡ Some b) × (r ≡ Some q) × (bytes ≡ b ∷ q)
before_parts None r bytes h = cc
before_parts (Some b) None bytes h = cc
before_parts (Some b) (Some q) bytes h = (b, q, refl, refl, cc)

digit_of : (c n : ℕ) → digit_value c ≡ Some n → (c ≡ hex_digit n) × (n < 16)
digit_of c n h = (grind (arith, tests), grind (arith, tests))

only_of : (b v : ℕ) → only_escaped b ≡ Some v → (b ≡ v) × (is_escaped b ≡ true)
only_of b v h =
    let P : (t : Bool) → is_escaped b ≡ t → only_escaped b ≡ Some v → (b ≡ v) × (is_escaped b ≡ true) =
    λ t. elim t as (λ t. is_escaped b ≡ t → only_escaped b ≡ Some v → (b ≡ v) × (is_escaped b ≡ true)) [
      | true ↦ λ e k. let k' = rw e at k in (cc, e)
      | false ↦ λ e k. let k' = rw e at k in cc
    ] in
    P (is_escaped b) refl h

high_of : (high low : ℕ) → low < 16 → (16 * high + low) / 16 ≡ high
high_of high low h = omega arith

low_of : (high low : ℕ) → low < 16 → (16 * high + low) % 16 ≡ low
low_of high low h = omega arith

shown_of : (c d v : ℕ) (high low : Option ℕ) → digit_value c ≡ high → digit_value d ≡ low
    → digits_byte high low ≡ Some v → 92 ∷ 120 ∷ c ∷ d ∷ [] ≡ escaped_byte v
shown_of c d v None low e f h = cc
shown_of c d v (Some high) None e f h = cc
shown_of c d v (Some high) (Some low) e f h =
    let k = only_of (16 * high + low) v h in
    let x = digit_of c high e in
    let y = digit_of d low f in
    rw (← k.0, k.1, high_of high low y.1, low_of high low y.1, x.0, y.0) refl

escape_of : (a b c d v : ℕ) → escape_byte a b c d ≡ Some v → a ∷ b ∷ c ∷ d ∷ [] ≡ escaped_byte v
escape_of a b c d v h =
    let P : (t : Bool) → (a == 92 && b == 120) ≡ t → escape_byte a b c d ≡ Some v
    → a ∷ b ∷ c ∷ d ∷ [] ≡ escaped_byte v =
    λ t. elim t as (λ t. (a == 92 && b == 120) ≡ t → escape_byte a b c d ≡ Some v
    → a ∷ b ∷ c ∷ d ∷ [] ≡ escaped_byte v) [
      | true ↦ λ e k.
          let k' = rw e at k in
          let x : a ≡ 92 = grind (arith, tests) in
          let y : b ≡ 120 = grind (arith, tests) in
          rw (x, y) (shown_of c d v (digit_value c) (digit_value d) refl refl k')
      | false ↦ λ e k. let k' = rw e at k in cc
    ] in
    P (a == 92 && b == 120) refl h

plain_of : (a v : ℕ) → plain_byte a ≡ Some v → a ∷ [] ≡ escaped_byte v
plain_of a v h =
    let P : (t : Bool) → is_escaped a ≡ t → plain_byte a ≡ Some v → a ∷ [] ≡ escaped_byte v =
    λ t. elim t as (λ t. is_escaped a ≡ t → plain_byte a ≡ Some v → a ∷ [] ≡ escaped_byte v) [
      | true ↦ λ e k. let k' = rw e at k in cc
      | false ↦ λ e k. let k' = rw e at k in let f : a ≡ v = cc in rw (← f, e) refl
    ] in
    P (is_escaped a) refl h

-- a front that is a byte escaped, before a rest that is escaped
joined : (front rest : List ℕ) (o : Option ℕ) (bytes : List ℕ) → ((v : ℕ) → o ≡ Some v → front ≡ escaped_byte v)
    → ((q : List ℕ) → unescaped rest ≡ Some q → rest ≡ escaped q) → before o (unescaped rest) ≡ Some bytes
    → front ++ rest ≡ escaped bytes
joined front rest o bytes f r h =
    let k = before_parts o (unescaped rest) bytes h in
    rw (k.4, ← f k.0 k.2, ← r k.1 k.3) refl

longer : (a b c d : ℕ) (rest bytes : List ℕ) → ((q : List ℕ) → unescaped rest ≡ Some q → rest ≡ escaped q)
    → ((q : List ℕ) → unescaped (b ∷ c ∷ d ∷ rest) ≡ Some q → b ∷ c ∷ d ∷ rest ≡ escaped q)
    → unescaped (a ∷ b ∷ c ∷ d ∷ rest) ≡ Some bytes → a ∷ b ∷ c ∷ d ∷ rest ≡ escaped bytes
longer a b c d rest bytes r s h =
    let P : (t : Bool) → is_escaped a ≡ t → unescaped (a ∷ b ∷ c ∷ d ∷ rest) ≡ Some bytes
    → a ∷ b ∷ c ∷ d ∷ rest ≡ escaped bytes =
    λ t. elim t as (λ t. is_escaped a ≡ t → unescaped (a ∷ b ∷ c ∷ d ∷ rest) ≡ Some bytes
    → a ∷ b ∷ c ∷ d ∷ rest ≡ escaped bytes) [
      | true ↦ λ e k. joined (a ∷ b ∷ c ∷ d ∷ []) rest (escape_byte a b c d) bytes (escape_of a b c d) r (rw e at k)
      | false ↦ λ e k. joined (a ∷ []) (b ∷ c ∷ d ∷ rest) (plain_byte a) bytes (plain_of a) s (rw e (rw e at k))
    ] in
    P (is_escaped a) refl h

-- a text that stands for something is that escaped
pub only : (text bytes : List ℕ) → unescaped text ≡ Some bytes → text ≡ escaped bytes
only [] bytes h = let e : bytes ≡ [] = cc in rw e refl
only (a ∷ []) bytes h = joined (a ∷ []) [] (plain_byte a) bytes (plain_of a) (only []) h
only (a ∷ b ∷ []) bytes h = joined (a ∷ []) (b ∷ []) (plain_byte a) bytes (plain_of a) (only (b ∷ [])) h
only (a ∷ b ∷ c ∷ []) bytes h = joined (a ∷ []) (b ∷ c ∷ []) (plain_byte a) bytes (plain_of a) (only (b ∷ c ∷ [])) h
only (a ∷ b ∷ c ∷ d ∷ rest) bytes h = longer a b c d rest bytes (only rest) (only (b ∷ c ∷ d ∷ rest)) h
