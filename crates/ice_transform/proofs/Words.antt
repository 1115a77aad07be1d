-- Words of a hash.
use Rattle.std.proofs.Common.{◌≡◌, ℕ, suc, ◌-◌, ◌≤◌, List, [], ◌∷◌, length, take, drop, get_or, ap, arith, ◌∙◌}
use Rattle.std.proofs.Math.Seq.{take-length}
use Rattle.ice_transform.specs.Murmur.{hash_after, mixed, word_of}

-- one word more
pub words_step : (s : List ℕ) (h w k : ℕ) → 4 ≤ length s
    → w ≡ word_of (get_or s 0 0) (get_or s 1 0) (get_or s 2 0) (get_or s 3 0) → k ≡ mixed h w →
    hash_after k (take (length s - 4) (drop 4 s)) ≡ hash_after h s
words_step [] h w k l e f = absurd (omega arith)
words_step (a ∷ []) h w k l e f = absurd (omega arith)
words_step (a ∷ b ∷ []) h w k l e f = absurd (omega arith)
words_step (a ∷ b ∷ c ∷ []) h w k l e f = absurd (omega arith)
words_step (a ∷ b ∷ c ∷ d ∷ rest) h w k l e f =
    let n : suc (suc (suc (suc (length rest)))) - 4 ≡ length rest = omega arith in
    ap (λ x. hash_after k (take x rest)) n ∙ ap (hash_after k) (take-length rest) ∙ ap (λ x. hash_after x rest)
    (f ∙ ap (mixed h) e)
