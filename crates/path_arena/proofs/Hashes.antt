-- A string is hashed eight bytes at a time.
use Rattle.std.proofs.Common.{◌≡◌, ℕ, ◌<◌, ◌≤◌, List, [], ◌∷◌, length, take, drop, refl, arith}
use Rattle.std.specs.Int.{w64, from_le_bytes}
use Rattle.path_arena.specs.Hashing.{mixed, hash_bytes, hash_words}

pub words_step : (h : ℕ) (bs : List ℕ) → 8 ≤ length bs →
    hash_words h bs ≡ hash_words (mixed h (from_le_bytes w64 (take 8 bs))) (drop 8 bs)
words_step h [] lt = absurd (omega arith)
words_step h (a ∷ []) lt = absurd (omega arith)
words_step h (a ∷ b ∷ []) lt = absurd (omega arith)
words_step h (a ∷ b ∷ c ∷ []) lt = absurd (omega arith)
words_step h (a ∷ b ∷ c ∷ d ∷ []) lt = absurd (omega arith)
words_step h (a ∷ b ∷ c ∷ d ∷ e ∷ []) lt = absurd (omega arith)
words_step h (a ∷ b ∷ c ∷ d ∷ e ∷ f ∷ []) lt = absurd (omega arith)
words_step h (a ∷ b ∷ c ∷ d ∷ e ∷ f ∷ g ∷ []) lt = absurd (omega arith)
words_step h (a ∷ b ∷ c ∷ d ∷ e ∷ f ∷ g ∷ i ∷ bs) lt = refl

pub words_end : (h : ℕ) (bs : List ℕ) → length bs < 8 → hash_words h bs ≡ hash_bytes h bs
words_end h [] lt = refl
words_end h (a ∷ []) lt = refl
words_end h (a ∷ b ∷ []) lt = refl
words_end h (a ∷ b ∷ c ∷ []) lt = refl
words_end h (a ∷ b ∷ c ∷ d ∷ []) lt = refl
words_end h (a ∷ b ∷ c ∷ d ∷ e ∷ []) lt = refl
words_end h (a ∷ b ∷ c ∷ d ∷ e ∷ f ∷ []) lt = refl
words_end h (a ∷ b ∷ c ∷ d ∷ e ∷ f ∷ g ∷ []) lt = refl
words_end h (a ∷ b ∷ c ∷ d ∷ e ∷ f ∷ g ∷ i ∷ bs) lt = absurd (omega arith)
