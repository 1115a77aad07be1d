-- The open filters.
use Rattle.std.proofs.Common.{◌≡◌, List, [], ◌∷◌, ◌++◌, length, reverse}
use Rattle.std.proofs.lemmas.List.{reverse-append, length-reverse}

pub pushed_first : {A : Type 0} (xs : List A) (x : A) → reverse (xs ++ x ∷ []) ≡ x ∷ reverse xs
pushed_first xs x = reverse-append xs (x ∷ [])

pub length_reversed : {A : Type 0} (xs : List A) → length (reverse xs) ≡ length xs
length_reversed xs = length-reverse xs
