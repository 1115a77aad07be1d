-- Reading between quotes, as the loops do.
use Rattle.std.proofs.Common.{◌≡◌, ℕ, ◌+◌, ◌*◌, ◌≤◌, ◌==◌, true, false, List, [], ◌∷◌, ◌++◌, length, get_or, drop, refl}
use Rattle.std.proofs.Common.{arith}
use Rattle.ice_filter.specs.Lexing.{quoted_from, hex_from, is_hex, nibble}

pub plain_on : (q n : ℕ) (text rest : List ℕ) → 2 ≤ length rest → (get_or rest 0 0 == q) ≡ false
    → quoted_from q text n rest ≡ quoted_from q (text ++ get_or rest 0 0 ∷ []) (n + 1) (drop 1 rest)
unfolding quoted_from
plain_on q n text [] two h = absurd (omega arith)
plain_on q n text (b ∷ []) two h = absurd (omega arith)
plain_on q n text (b ∷ c ∷ bs) two h = rw h refl

pub doubled_on : (q n : ℕ) (text rest : List ℕ) → 2 ≤ length rest → (get_or rest 0 0 == q) ≡ true
    → (get_or rest 1 0 == q) ≡ true → quoted_from q text n rest ≡ quoted_from q (text ++ q ∷ []) (n + 2) (drop 2 rest)
unfolding quoted_from
doubled_on q n text [] two h k = absurd (omega arith)
doubled_on q n text (b ∷ []) two h k = absurd (omega arith)
doubled_on q n text (b ∷ c ∷ bs) two h k = rw (h, k) refl

pub pair_on : (n : ℕ) (found rest : List ℕ) → 2 ≤ length rest → (get_or rest 0 0 == 39) ≡ false
    → is_hex (get_or rest 0 0) ≡ true → is_hex (get_or rest 1 0) ≡ true
    → hex_from found n rest ≡ hex_from (found ++ (nibble (get_or rest 0 0) * 16 + nibble (get_or rest 1 0)) ∷ [])
    (n + 2) (drop 2 rest)
unfolding hex_from
pair_on n found [] two h k l = absurd (omega arith)
pair_on n found (b ∷ []) two h k l = absurd (omega arith)
pair_on n found (b ∷ c ∷ bs) two h k l = rw (h, k, l) refl
