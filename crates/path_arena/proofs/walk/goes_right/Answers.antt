use Rattle.std.proofs.Common.{◌≡◌, ℕ, ◌-◌, ◌/◌, ◌%◌, ◌<◌, ◌≤◌, ◌==◌, List, length, slice_index_or, sym, ap, ◌∙◌, refl}
use Rattle.std.proofs.Common.{arith}
use Rattle.std.proofs.Common.{false}
use Rattle.std.proofs.lemmas.Grind.{common_steps}
use Rattle.std.proofs.lemmas.List.{get_or_past}
use Rattle.std.proofs.lemmas.Bool.{lt-ltb, le-ltb}
use Rattle.std.proofs.lemmas.Nat.Bits.{bit_at-zero}
use Rattle.std.specs.Int.{bit_at}
use Rattle.path_arena.specs.Hashing.{hash_of}
use Rattle.path_arena.specs.Trees.{turns_right}
use Rattle.path_arena.proofs.walk.goes_right.Goals as goal

by_hash : (s : List ℕ) (d : ℕ) → d < 32 → turns_right s d ≡ (bit_at (hash_of s) (31 - d) == 1)
unfolding turns_right
by_hash s d lt = rw (lt-ltb d 32 lt) refl

by_length : (s : List ℕ) (d : ℕ) → 32 ≤ d → d < 48 → turns_right s d ≡ (bit_at (length s) (d - 32) == 1)
unfolding turns_right
by_length s d past lt = rw (le-ltb d 32 past) (rw (lt-ltb d 48 lt) refl)

by_bytes : (s : List ℕ) (d : ℕ) → 48 ≤ d
    → turns_right s d ≡ (bit_at (slice_index_or s ((d - 48) / 8) 0) ((d - 48) % 8) == 1)
unfolding turns_right
by_bytes s d past = let more : 32 ≤ d = omega arith in rw (le-ltb d 32 more) (rw (le-ltb d 48 past) refl)

pub returns-then-depth-lt32 : goal.returns-then-depth-lt32
returns-then-depth-lt32 c =
    let s = c.args.bytes.now in let d = c.args.depth in
    c.is_set.ensures ∙ ap (λ h. bit_at h (31 - d) == 1) c.requires ∙ sym (by_hash s d c.if-depth-lt32.true)

pub returns-then-depth-lt48 : goal.returns-then-depth-lt48
returns-then-depth-lt48 c =
    c.is_set-then-depth-lt48.ensures
    ∙ sym (by_length c.args.bytes.now c.args.depth c.if-depth-lt32.false c.if-depth-lt48.true)

pub returns-in-Some : goal.returns-in-Some
returns-in-Some c =
    let s = c.args.bytes.now in let d = c.args.depth in
    let byte : c.in-Some.byte.now ≡ slice_index_or s ((d - 48) / 8) 0 = grind (arith, common_steps) in
    c.is_set-in-Some.ensures ∙ ap (λ b. bit_at b ((d - 48) % 8) == 1) byte ∙ sym (by_bytes s d c.if-depth-lt48.false)

pub returns-in-None : goal.returns-in-None
returns-in-None c =
    let s = c.args.bytes.now in let d = c.args.depth in
    let past : length s ≤ (d - 48) / 8 = grind (arith, common_steps) in
    let none : false ≡ (bit_at 0 ((d - 48) % 8) == 1) = ap (λ b. b == 1) (sym (bit_at-zero ((d - 48) % 8))) in
    none ∙ ap (λ b. bit_at b ((d - 48) % 8) == 1) (sym (get_or_past s ((d - 48) / 8) 0 past))
    ∙ sym (by_bytes s d c.if-depth-lt48.false)
