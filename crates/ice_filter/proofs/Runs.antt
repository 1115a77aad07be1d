-- How many bytes pass a test.
use Rattle.std.proofs.Common.{◌≡◌, ℕ, ◌+◌, ◌<◌, ◌≤◌, Bool, true, false, List, [], ◌∷◌, arith, cond, length, get_or}
use Rattle.ice_filter.specs.Lexing.{run_from}

chosen : (n m : ℕ) (t : Bool) → n + 1 ≤ m → n ≤ cond t m n
chosen n m true h = omega arith
chosen n m false h = omega arith

pub least : (p : ℕ → Bool) (n : ℕ) (bs : List ℕ) → n ≤ run_from p n bs
unfolding run_from
least p n [] = omega arith
least p n (b ∷ bs) = chosen n (run_from p (n + 1) bs) (p b) (least p (n + 1) bs)

-- one at least, where the first one passes
pub some : (p : ℕ → Bool) (b : ℕ) (bs : List ℕ) → p b ≡ true → 0 < run_from p 0 (b ∷ bs)
unfolding run_from
some p b bs h = rw h (omega (arith, least p (0 + 1) bs))

pub some_in : (p : ℕ → Bool) (bs : List ℕ) → 0 < length bs → p (get_or bs 0 0) ≡ true → 0 < run_from p 0 bs
some_in p [] h k = absurd (omega arith)
some_in p (b ∷ bs) h k = some p b bs k
