-- Texts with commas between them.
use Rattle.std.proofs.Common.{◌≡◌, ℕ, zero, suc, ◌+◌, ◌≤◌, List, [], ◌∷◌, ◌++◌, length, take, drop, slice_get, Some}
use Rattle.std.proofs.Common.{add-one, lt-ltb, true, arith, refl, sym, ap, ap₂, ◌∙◌, append_assoc, map}
use Rattle.std.specs.Prelude.{nat_lt}
use Rattle.std.specs.List.{enumerate_from}
use Rattle.std.proofs.lemmas.List.{append-nil, take_all, take-append-drop}
use Rattle.serde_json.specs.Data.{Data}
use Rattle.serde_json.specs.View.{items_of}
use Rattle.serde_json.specs.Written.{comma_if, compact_text, items_text}
use Rattle.icescan_forms.specs.Pieces.{each_from}

module _ {X : Type 0} (f : ℕ → X → List ℕ) where
  -- one more
  pub each_next : (n : ℕ) (xs : List X) (i : ℕ) (x : X) → slice_get xs i ≡ Some x → each_from f n (take (suc i) xs)
      ≡ each_from f n (take i xs) ++ (comma_if (nat_lt 0 (n + i)) ++ f (n + i) x)
  each_next n [] i x h = absurd cc
  each_next n (y ∷ ys) zero x h =
      let e : y ≡ x = cc in
      let z : n + 0 ≡ n = omega arith in
      rw (e, z, append-nil) refl
  each_next n (y ∷ ys) (suc i) x h =
      let z : suc n + i ≡ n + suc i = omega arith in
      ap (λ l. comma_if (nat_lt 0 n) ++ (f n y ++ l)) (rw z at (each_next (suc n) ys i x h)) ∙ simp append_assoc

  -- two lists
  pub each_append : (n : ℕ) (xs ys : List X) → each_from f n (xs ++ ys)
      ≡ each_from f n xs ++ each_from f (n + length xs) ys
  each_append n [] ys = let z : n + 0 ≡ n = omega arith in rw z refl
  each_append n (x ∷ xs) ys =
      let z : suc n + length xs ≡ n + suc (length xs) = omega arith in
      ap (λ l. comma_if (nat_lt 0 n) ++ (f n x ++ l)) (rw z at (each_append (suc n) xs ys)) ∙ simp append_assoc

  -- cut at one of them
  pub each_cut : (n : ℕ) (xs : List X) (i : ℕ) (x : X) → slice_get xs i ≡ Some x → each_from f n xs
      ≡ each_from f n (take i xs) ++ ((comma_if (nat_lt 0 (n + i)) ++ f (n + i) x)
      ++ each_from f (n + length (take (suc i) xs)) (drop (suc i) xs))
  each_cut n xs i x h =
      ap (each_from f n) (sym (take-append-drop (suc i) xs))
      ∙ each_append n (take (suc i) xs) (drop (suc i) xs)
      ∙ ap (λ l. l ++ each_from f (n + length (take (suc i) xs)) (drop (suc i) xs)) (each_next n xs i x h)
      ∙ append_assoc (each_from f n (take i xs)) (comma_if (nat_lt 0 (n + i)) ++ f (n + i) x)
      (each_from f (n + length (take (suc i) xs)) (drop (suc i) xs))

  pub each_all : (n : ℕ) (xs : List X) (i : ℕ) → length xs ≤ i → each_from f n (take i xs) ≡ each_from f n xs
  each_all n xs i h = ap (each_from f n) (take_all i xs h)

pub later : (n : ℕ) → nat_lt 0 (suc n) ≡ true
later n = lt-ltb 0 (suc n) (omega arith)

-- the items of an array
pub items_each : {X : Type 0} (g : X → Data) (n : ℕ) (xs : List X) → items_text (nat_lt 0 n) (items_of (map g xs))
    ≡ each_from (λ _ x. compact_text (g x)) n xs ++ 93 ∷ []
items_each g n [] = refl
items_each g n (x ∷ xs) =
    ap (λ l. comma_if (nat_lt 0 n) ++ (compact_text (g x) ++ l)) (rw (later n) at (items_each g (suc n) xs)) ∙ simp
    append_assoc

-- the same, each by its place
pub items_by_place : {X : Type 0} (g : ℕ → X → Data) (n : ℕ) (xs : List X)
    → items_text (nat_lt 0 n) (items_of (map (λ p. g p.0 p.1) (enumerate_from n xs)))
    ≡ each_from (λ i x. compact_text (g i x)) n xs ++ 93 ∷ []
items_by_place g n [] = refl
items_by_place g n (x ∷ xs) =
    rw add-one (ap (λ l. comma_if (nat_lt 0 n) ++ (compact_text (g n x) ++ l)) (rw (later n) at (items_by_place g
    (suc n) xs))
    ∙ simp append_assoc)

pub items_all : (n : ℕ) (ds : List Data) → items_text (nat_lt 0 n) (items_of ds)
    ≡ each_from (λ _ d. compact_text d) n ds ++ 93 ∷ []
items_all n [] = refl
items_all n (d ∷ ds) =
    ap (λ l. comma_if (nat_lt 0 n) ++ (compact_text d ++ l)) (rw (later n) at (items_all (suc n) ds)) ∙ simp
    append_assoc

-- texts that are the same one by one
pub each_same : {X : Type 0} (f g : ℕ → X → List ℕ) → ((i : ℕ) (x : X) → f i x ≡ g i x) → (n : ℕ) (xs : List X)
    → each_from f n xs ≡ each_from g n xs
each_same f g same n [] = refl
each_same f g same n (x ∷ xs) =
    ap₂ (λ (a b : List ℕ). comma_if (nat_lt 0 n) ++ (a ++ b)) (same n x) (each_same f g same (suc n) xs)
