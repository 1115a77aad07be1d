-- Numbers of one or two groups.
use Rattle.std.proofs.Common.{◌≡◌, ℕ, ◌+◌, ◌-◌, ◌*◌, ◌^◌, ◌<◌, ◌≤◌, List, ◌∷◌, length, get_or, drop, Ok, sym, ap, subst}
use Rattle.std.proofs.Common.{◌∙◌}
use Rattle.std.proofs.Common.{refl, arith}
use Rattle.std.proofs.lemmas.Bool.{lt-ltb, le-ltb}
use Rattle.avro_file_parts.specs.Number.{groups_at, number_at, long_at, int_at, signed_of}
use Rattle.avro_file_parts.proofs.Groups.{narrow_found}
use Rattle.avro_file_parts.proofs.NumberPlaces.{at_place}

-- a low group and a last one
low_and_last : (a b : ℕ) (rest : List ℕ) → 128 ≤ a → a < 256 → b < 128
    → number_at (2 ^ 64) (a ∷ b ∷ rest) ≡ Ok (a - 128 + 128 * b, rest)
unfolding number_at groups_at
low_and_last a b rest high byte low =
    rw (le-ltb a 128 high, lt-ltb b 128 low, lt-ltb (a - 128 + 128 * b) (2 ^ 64) (omega arith)) refl

pub two_groups : (bytes : List ℕ) → 1 < length bytes → 128 ≤ get_or bytes 0 0 → get_or bytes 0 0 < 256
    → get_or bytes 1 0 < 128
    → number_at (2 ^ 64) bytes ≡ Ok (get_or bytes 0 0 - 128 + 128 * get_or bytes 1 0, drop 2 bytes)
two_groups bytes lt high byte low =
    let a = get_or bytes 0 0 in
    let b = get_or bytes 1 0 in
    let parts : bytes ≡ a ∷ b ∷ drop 2 bytes = at_place bytes 0 (omega (arith, lt))
    ∙ ap (λ (rest : List ℕ). a ∷ rest) (at_place bytes 1 lt) in
    subst (λ (bs : List ℕ). number_at (2 ^ 64) bs ≡ Ok (a - 128 + 128 * b, drop 2 bytes)) (sym parts)
    (low_and_last a b (drop 2 bytes) high byte low)

-- a number of few groups is an int and a long
pub is_int : (bytes rest : List ℕ) (n : ℕ) → number_at (2 ^ 64) bytes ≡ Ok (n, rest) → n < 2 ^ 32
    → int_at bytes ≡ Ok (signed_of n, rest)
unfolding int_at
is_int bytes rest n e lt = rw (narrow_found bytes n rest e lt) refl

pub is_long : (bytes rest : List ℕ) (n : ℕ) → number_at (2 ^ 64) bytes ≡ Ok (n, rest)
    → long_at bytes ≡ Ok (signed_of n, rest)
unfolding long_at
is_long bytes rest n e = rw e refl
