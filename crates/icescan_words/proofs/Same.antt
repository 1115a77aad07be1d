-- Words that a test found to be the same.
use Rattle.std.proofs.Common.{◌≡◌, ◌<◌, ◌+◌, Bool, true, false, ℕ, zero, suc, List, [], ◌∷◌, nat_eq, ◌&&◌, map}
use Rattle.std.proofs.Common.{add-one, arith, drop, length, refl, slice_index_or, subst, sym}
use Rattle.std.specs.Prelude.{not}
use Rattle.std.specs.Borrow.{Bor}
use Rattle.std.specs.Cmp.Lexicographic.{pointwise, same_text}

-- two lists of words that are the same one by one
pub same_words : (xs ys : List (Bor (List ℕ))) → pointwise (λ a b. pointwise nat_eq a.now b.now) xs ys ≡ true
    → map (λ s. s.now) xs ≡ map (λ s. s.now) ys
same_words [] [] h = refl
same_words [] (y ∷ ys) h = cc
same_words (x ∷ xs) [] h = cc
same_words (x ∷ xs) (y ∷ ys) h = go (pointwise nat_eq x.now y.now) refl h (same_words xs ys)
  where
    go : (t : Bool) → pointwise nat_eq x.now y.now ≡ t
        → (t && pointwise (λ a b. pointwise nat_eq a.now b.now) xs ys) ≡ true
        → (pointwise (λ a b. pointwise nat_eq a.now b.now) xs ys ≡ true → map (λ s. s.now) xs ≡ map (λ s. s.now) ys)
        → map (λ s. s.now) (x ∷ xs) ≡ map (λ s. s.now) (y ∷ ys)
    go true e k rest = rw (same_text x.now y.now (sym e), rest k)
    go false e k rest = cc

-- words that are left are the same as texts that are left, where the first are and what stands behind them
left_from : (xs : List (Bor (List ℕ))) (ts : List (List ℕ)) (i : ℕ) (none : Bor (List ℕ)) (t : List ℕ)
    → length xs ≡ length ts → i < length xs → t ≡ slice_index_or ts i t
    → false ≡ not (pointwise nat_eq (slice_index_or xs i none).now t)
    → map (λ s. s.now) (drop (suc i) xs) ≡ drop (suc i) ts → map (λ s. s.now) (drop i xs) ≡ drop i ts
left_from [] ts i none t e l at same rest = absurd (omega (arith, l))
left_from (x ∷ xs) [] i none t e l at same rest = absurd cc
left_from (x ∷ xs) (u ∷ ts) zero none t e l at same rest = first (pointwise nat_eq x.now t) refl same
  where
    first : (p : Bool) → pointwise nat_eq x.now t ≡ p → false ≡ not p → map (λ s. s.now) (x ∷ xs) ≡ u ∷ ts
    first true is told = rw (same_text x.now t (sym is), at, rest)
    first false is told = absurd cc
left_from (x ∷ xs) (u ∷ ts) (suc i) none t e l at same rest =
    let equal : length xs ≡ length ts = cc in
    let within : i < length xs = omega (arith, l) in
    left_from xs ts i none t equal within at same rest

-- the same, as a loop counts
pub texts_left : (xs : List (Bor (List ℕ))) (ts : List (List ℕ)) (i : ℕ) (none : Bor (List ℕ)) (t : List ℕ)
    → length xs ≡ length ts → i < length xs → t ≡ slice_index_or ts i t
    → false ≡ not (pointwise nat_eq (slice_index_or xs i none).now t)
    → map (λ s. s.now) (drop (i + 1) xs) ≡ drop (i + 1) ts → map (λ s. s.now) (drop i xs) ≡ drop i ts
texts_left xs ts i none t e l at same rest = left_from xs ts i none t e l at same
    (subst (λ n. map (λ s. s.now) (drop n xs) ≡ drop n ts) (add-one i) rest)
