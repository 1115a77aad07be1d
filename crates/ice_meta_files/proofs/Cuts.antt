-- A text without a byte has none of its kind.
use Rattle.std.proofs.Common.{◌≡◌, ◌≢◌, ◌<◌, ◌+◌, ◌==◌, ℕ, false, List, [], ◌∷◌, get_or, length, refl, arith}
use Rattle.std.specs.List.{list_any}
use Rattle.std.proofs.lemmas.Bool.Decides.{nat_tests}
use Rattle.std.proofs.lemmas.Grind.{common_steps}
use Rattle.ice_meta_files.specs.MetadataNames.{is_byte}

head_differs : (c x : ℕ) (xs : List ℕ) → ((i : ℕ) → i < length (x ∷ xs) → get_or (x ∷ xs) i 0 ≢ c) → (x == c) ≡ false
head_differs c x xs h = let ne : x ≢ c = h 0 (grind (arith, common_steps)) in grind (arith, nat_tests)

tail_lacks : (c x : ℕ) (xs : List ℕ) → ((i : ℕ) → i < length (x ∷ xs) → get_or (x ∷ xs) i 0 ≢ c)
    → (i : ℕ) → i < length xs → get_or xs i 0 ≢ c
tail_lacks c x xs h i lt = let k = h (i + 1) (grind (arith, common_steps)) in grind (arith, common_steps)

pub none_is : (c : ℕ) (xs : List ℕ) → ((i : ℕ) → i < length xs → get_or xs i 0 ≢ c) → list_any (is_byte c) xs ≡ false
none_is c [] h = refl
none_is c (x ∷ xs) h = rw (head_differs c x xs h) (none_is c xs (tail_lacks c x xs h))
