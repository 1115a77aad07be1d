-- No control byte stands in what a terminal is sent but line feeds.
use Rattle.std.proofs.Common.{◌≡◌, ◌<◌, ℕ, ◌/◌, ◌%◌, Bool, true, false, List, [], ◌∷◌, refl, inl, inr}
use Rattle.std.proofs.Common.{arith, All, ap, sym, take, Option, Some, None}
use Rattle.std.specs.Prelude.{if◌then◌else◌, Result, Ok, Err}
use Rattle.std.specs.List.{flat_map}
use Rattle.std.proofs.lemmas.List.Elements.{All-append, All-nil, All-cons, All-take}
use Rattle.std.proofs.lemmas.List.{append-nil}
use Rattle.icescan_print.specs.Escaping.{hex_digit, is_escaped, escaped_byte}
use Rattle.icescan_print.specs.Written.{Wrote}
use Rattle.icescan_print.specs.declared.sink.SinkFault.{SinkFault}
use Rattle.icescan_progress.specs.Hints.{AppendsPlain, IsPlain, is_control, shown, shown_byte, shown_line}

all_if : (c : Bool) (xs ys : List ℕ) → (c ≡ true → All IsPlain xs) → (c ≡ false → All IsPlain ys)
    → All IsPlain (if c then xs else ys)
all_if true xs ys h g = h refl
all_if false xs ys h g = g refl

all_flat : {X : Type 0} (f : X → List ℕ) → ((x : X) → All IsPlain (f x)) → (xs : List X)
    → All IsPlain (flat_map f xs)
all_flat f each [] = All-nil IsPlain
all_flat f each (x ∷ xs) = All-append IsPlain (f x) (flat_map f xs) (each x) (all_flat f each xs)

small : (b : ℕ) → is_control b ≡ true → b / 16 < 16
small b h = grind arith

digit : (n : ℕ) → n < 16 → is_control (hex_digit n) ≡ false
digit n h = grind arith

unescaped : (b : ℕ) → is_escaped b ≡ false → is_control b ≡ false
unescaped b h = grind arith

below : (b : ℕ) → b % 16 < 16
below b = omega arith

escape : (b : ℕ) → is_control b ≡ true → All IsPlain (escaped_byte b)
escape b h = all_if (is_escaped b) (92 ∷ 120 ∷ hex_digit (b / 16) ∷ hex_digit (b % 16) ∷ []) (b ∷ []) (λ _.
    All-cons IsPlain 92 (120 ∷ hex_digit (b / 16) ∷ hex_digit (b % 16) ∷ []) (inr refl)
    (All-cons IsPlain 120 (hex_digit (b / 16) ∷ hex_digit (b % 16) ∷ []) (inr refl)
    (All-cons IsPlain (hex_digit (b / 16)) (hex_digit (b % 16) ∷ []) (inr (digit (b / 16) (small b h)))
    (All-cons IsPlain (hex_digit (b % 16)) [] (inr (digit (b % 16) (below b))) (All-nil IsPlain)))))
    (λ e. All-cons IsPlain b [] (inr (unescaped b e)) (All-nil IsPlain))

byte : (b : ℕ) → All IsPlain (shown_byte b)
byte b = all_if (is_control b) (escaped_byte b) (b ∷ []) (escape b)
    (λ e. All-cons IsPlain b [] (inr e) (All-nil IsPlain))

line : (bytes : List ℕ) → All IsPlain (shown_line bytes)
line bytes = All-append IsPlain (flat_map shown_byte bytes) (10 ∷ []) (all_flat shown_byte byte bytes)
    (All-cons IsPlain 10 [] (inl refl) (All-nil IsPlain))

pub shown_plain : (lines : List (List ℕ)) → All IsPlain (shown lines)
shown_plain lines = all_flat shown_line line lines

pub nothing_plain : (sent : Option (List ℕ)) → AppendsPlain sent sent
nothing_plain None = ([], All-nil IsPlain, tt)
nothing_plain (Some bytes) = ([], All-nil IsPlain, ap Some (sym (append-nil bytes)))

-- a write of such a text, also one that fails
pub wrote_plain : {X : Type 0} (taken : X → Option (List ℕ)) (may_fail : X → Type 0) (old new : X)
    (result : Result Unit SinkFault) (text : List ℕ) → All IsPlain text → Wrote taken may_fail old result new text
    → AppendsPlain (taken old) (taken new)
wrote_plain taken may_fail old new (Ok x) text plain w = (text, plain, w.all)
wrote_plain taken may_fail old new (Err e) text plain w =
    (take w.front.0 text, All-take IsPlain w.front.0 text plain, w.front.2)
