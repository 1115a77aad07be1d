-- Lemmas on escaped texts.
use Rattle.std.proofs.Common.{◌≡◌, ℕ, ◌+◌, List, [], ◌∷◌, ◌++◌, take, drop, refl, sym, ap, ◌∙◌, arith, tests}
use Rattle.std.proofs.Common.{append_assoc}
use Rattle.std.proofs.Common.{Bool, true, false, Result, Ok, Err, Option, Some, None, zero, suc, ◌<◌, ◌/◌, ◌%◌}
use Rattle.std.proofs.Common.{length, get_or}
use Rattle.std.specs.Prelude.{if◌then◌else◌, nat_lt}
use Rattle.std.specs.Char.{digit_char}
use Rattle.std.proofs.lemmas.List.{take-append-drop}
use Rattle.std.proofs.Math.Seq.{take-add}
use Rattle.std.specs.Result.{IsErr, IfErr}
use Rattle.json.specs.Print.{escape, escape_byte, escape_letter}
use Rattle.json.specs.Run.{is_plain}
use Rattle.json.proofs.Printed.Strings.{escape_byte_plain}
use Rattle.icescan_print.specs.declared.sink.SinkFault.{SinkFault}

pub escape_append : (xs ys : List ℕ) → escape (xs ++ ys) ≡ escape xs ++ escape ys
escape_append [] ys = refl
escape_append (x ∷ xs) ys = ap (λ l. escape_byte x ++ l) (escape_append xs ys) ∙ sym (append_assoc (escape_byte x) _ _)

-- the bytes before a place, and those behind it
pub escape_split : (bytes : List ℕ) (i : ℕ) → escape bytes ≡ escape (take i bytes) ++ escape (drop i bytes)
escape_split bytes i = rw (← escape_append, take-append-drop) refl

-- some bytes more
pub escape_more : (bytes : List ℕ) (i n : ℕ) → escape (take (i + n) bytes) ≡ escape (take i bytes)
    ++ escape (take n (drop i bytes))
escape_more bytes i n = rw (take-add i n bytes) (escape_append (take i bytes) (take n (drop i bytes)))

-- a plain byte stands as it is
pub plain_byte : (b : ℕ) → is_plain b ≡ true → escape_byte b ≡ b ∷ []
plain_byte b h = escape_byte_plain b (λ e. grind (arith, tests)) (λ e. grind (arith, tests)) (grind (arith, tests))

pub if_err : (r : Result ℕ SinkFault) (Q : SinkFault → Type 0) → IsErr r → ((e : SinkFault) → Q e) → IfErr r Q
if_err (Ok n) Q f h = cc
if_err (Err e) Q f h = h e

one_at : (bytes : List ℕ) (i : ℕ) → i < length bytes → take 1 (drop i bytes) ≡ get_or bytes i 0 ∷ []
one_at [] i l = absurd (omega arith)
one_at (b ∷ bytes) zero l = refl
one_at (b ∷ bytes) (suc i) l = one_at bytes i (omega arith)

-- one plain byte more
pub plain_more : (bytes : List ℕ) (i : ℕ) → i < length bytes → is_plain (get_or bytes i 0) ≡ true
    → escape (take i bytes) ≡ take i bytes → escape (take (i + 1) bytes) ≡ take (i + 1) bytes
plain_more bytes i l plain h =
    rw (escape_more bytes i 1, take-add i 1 bytes, one_at bytes i l, h) (ap (λ t. take i bytes ++ t)
    (rw (plain_byte (get_or bytes i 0) plain) refl))

-- the escape of a byte that has a letter
pub short_escape : (b l : ℕ) (r : Option ℕ) → r ≡ Some l
    → r ≡ (if nat_lt 0 (escape_letter b) then Some (escape_letter b) else None) → escape_byte b ≡ 92 ∷ l ∷ []
unfolding escape_byte
short_escape b l r is h =
    let P : (v : Bool) → nat_lt 0 (escape_letter b) ≡ v → escape_byte b ≡ 92 ∷ l ∷ [] =
    λ v. elim v as (λ v. nat_lt 0 (escape_letter b) ≡ v → escape_byte b ≡ 92 ∷ l ∷ []) [
      | true ↦ λ e. let k = rw (is, e) at h in let f : l ≡ escape_letter b = cc in rw (e, f) refl
      | false ↦ λ e. let k = rw (is, e) at h in absurd cc
    ] in
    P (nat_lt 0 (escape_letter b)) refl

no_letter : (b : ℕ) → nat_lt 0 (escape_letter b) ≡ false → is_plain b ≡ false → nat_lt b 32 ≡ true
no_letter b h plain = grind (arith, tests)

-- the escape of any other that is not plain
pub long_escape : (b : ℕ) (r : Option ℕ) → r ≡ None
    → r ≡ (if nat_lt 0 (escape_letter b) then Some (escape_letter b) else None) → is_plain b ≡ false
    → escape_byte b ≡ 92 ∷ 117 ∷ 48 ∷ 48 ∷ digit_char (b / 16) ∷ digit_char (b % 16) ∷ []
unfolding escape_byte
long_escape b r is h plain =
    let P : (v : Bool) → nat_lt 0 (escape_letter b) ≡ v
    → escape_byte b ≡ 92 ∷ 117 ∷ 48 ∷ 48 ∷ digit_char (b / 16) ∷ digit_char (b % 16) ∷ [] =
    λ v. elim v as (λ v. nat_lt 0 (escape_letter b) ≡ v
    → escape_byte b ≡ 92 ∷ 117 ∷ 48 ∷ 48 ∷ digit_char (b / 16) ∷ digit_char (b % 16) ∷ []) [
      | true ↦ λ e. let k = rw (is, e) at h in absurd cc
      | false ↦ λ e. rw (e, no_letter b e plain) refl
    ] in
    P (nat_lt 0 (escape_letter b)) refl
