-- Steps that may fail, taken apart.
use Rattle.std.proofs.Common.{◌≡◌, Bool, true, false, cond, List, ◌++◌, Result, Ok, Err, ◌⊎◌, inl, inr, refl, ap, sym}
use Rattle.std.proofs.Common.{◌∙◌, append_assoc}
use Rattle.contract_words.specs.Outcome.{◌>>=◌}

-- the value of a step that did not fail
pub bind_ok : {A B E : Type 0} (r : Result A E) (f : A → Result B E) (y : B) → (r >>= f) ≡ Ok y
    → (x : A) × (r ≡ Ok x) × (f x ≡ Ok y)
bind_ok (Ok x) f y e = (x, refl, e)
bind_ok (Err d) f y e = absurd cc

-- a test that did not fail
pub guard_ok : {A E : Type 0} (b : Bool) (d : E) (x : Result A E) (y : A) → cond b (Err d) x ≡ Ok y
    → (b ≡ false) × (x ≡ Ok y)
guard_ok true d x y e = absurd cc
guard_ok false d x y e = (refl, e)

pub passed : {A E : Type 0} (b : Bool) (d : E) (x : Result A E) (y : A) → cond b x (Err d) ≡ Ok y
    → (b ≡ true) × (x ≡ Ok y)
passed true d x y e = (refl, e)
passed false d x y e = absurd cc

abbrev done : {A E : Type 0} → A → Result A E
done x = Ok x

pub ok_is : {A E : Type 0} (x y : A) → done {E = E} x ≡ done y → x ≡ y
ok_is x y e = cc

-- which way a test went
pub either : {A : Type 0} (b : Bool) (x y z : A) → cond b x y ≡ z → ((b ≡ true) × (x ≡ z)) ⊎ ((b ≡ false) × (y ≡ z))
either true x y z e = inl (refl, e)
either false x y z e = inr (refl, e)

-- two fronts are one
pub joined : {A : Type 0} (all front rest more end : List A) → all ≡ front ++ rest → rest ≡ more ++ end
    → all ≡ (front ++ more) ++ end
joined all front rest more end e f = e ∙ ap (λ (t : List _). front ++ t) f ∙ sym (append_assoc front more end)
