-- Elements of lists.
use Rattle.std.proofs.Common.{◌≡◌, ◌⊎◌, inl, inr, List, [], ◌∷◌, subst, arith}
use Rattle.std.specs.List.{Contains}
use Rattle.std.proofs.lemmas.List.Elements.{Contains-append_cases, Contains-append_left, Contains-append_right}
use Rattle.std.proofs.lemmas.List.Elements.{Contains-push, Contains-push_cases}

pub here : {X : Type 0} (x : X) (xs : List X) (z : X) → x ≡ z → Contains (x ∷ xs) z
here {X} x xs z e = let P : X → Type 0 = λ v. Contains (x ∷ xs) v in subst P e (Contains-append_left (x ∷ []) xs x
    (Contains-push [] x))

pub later : {X : Type 0} (x : X) (xs : List X) (z : X) → Contains xs z → Contains (x ∷ xs) z
later {X} x xs z h = Contains-append_right (x ∷ []) xs z h

pub nowhere : {X : Type 0} (z : X) → Contains {X = X} [] z → ⊥
nowhere {X} z h = let lt = h.1 in omega arith

pub cases_of : {X : Type 0} (x : X) (xs : List X) (z : X) → Contains (x ∷ xs) z → (x ≡ z) ⊎ Contains xs z
cases_of {X} x xs z h = elim (Contains-append_cases (x ∷ []) xs z h) as (λ _. (x ≡ z) ⊎ Contains xs z) [
  | inl one ↦ elim (Contains-push_cases [] x z one) as (λ _. (x ≡ z) ⊎ Contains xs z)
      [ inl none ↦ absurd (nowhere z none) | inr e ↦ inl e ]
  | inr more ↦ inr more
]
