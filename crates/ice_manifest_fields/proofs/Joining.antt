-- Reading the items of a list one after the other, after what was read before.
use Rattle.std.proofs.Common.{◌≡◌, List, [], ◌∷◌, ◌++◌, Result, Ok, Err, refl, sym, ap, ◌∙◌}
use Rattle.std.proofs.lemmas.List.{append-nil}
use Rattle.contract_words.specs.Outcome.{◌>>=◌}
use Rattle.ice_manifest_fields.specs.declared.fault.FieldFault.{FieldFault}
use Rattle.ice_manifest_fields.specs.Each.{each}
use Rattle.ice_manifest_fields.specs.Naming.{Naming, told}

-- what is read, behind what was read before
unfoldable pub joined : {X E : Type 0} → List X → Result (List X) E → Result (List X) E
joined [] r = r
joined (x ∷ front) r = joined front r >>= λ xs. Ok (x ∷ xs)

pub joined_push : {X E : Type 0} (front : List X) (x : X) (r : Result (List X) E)
    → joined (front ++ x ∷ []) r ≡ joined front (r >>= λ xs. Ok (x ∷ xs))
unfolding joined
joined_push {X} {E} [] x r = refl
joined_push {X} {E} (y ∷ front) x r = rw (joined_push front x r) refl

joined_ok : {X E : Type 0} (front xs : List X) → joined {E = E} front (Ok xs) ≡ Ok (front ++ xs)
unfolding joined
joined_ok {X} {E} [] xs = refl
joined_ok {X} {E} (y ∷ front) xs = rw (joined_ok {E = E} front xs) refl

pub joined_end : {X E : Type 0} (front : List X) → joined {E = E} front (Ok []) ≡ Ok front
joined_end {X} {E} front = joined_ok {E = E} front [] ∙ ap Ok (append-nil front)

pub joined_err : {X E : Type 0} (front : List X) (e : E) → joined front (Err e) ≡ Err e
unfolding joined
joined_err {X} {E} [] e = refl
joined_err {X} {E} (y ∷ front) e = rw (joined_err front e) refl

-- a field's answer was its own
pub told_ok : {A E : Type 0} (w : Naming E) (r : Result A FieldFault) (a : A) → told w r ≡ Ok a → r ≡ Ok a
told_ok {A} {E} w (Ok b) a h = cc
told_ok {A} {E} w (Err f) a h = absurd cc

-- ---- the items of a list

pub item_here : {Y X E : Type 0} (says : Y → Result X E) (front : List X) (y : Y) (ys : List Y) (x : X) → says y ≡ Ok x
    → joined front (each says (y ∷ ys)) ≡ joined (front ++ x ∷ []) (each says ys)
unfolding each
item_here {Y} {X} {E} says front y ys x h = rw h (sym (joined_push front x (each says ys)))

pub item_stops : {Y X E : Type 0} (says : Y → Result X E) (front : List X) (y : Y) (ys : List Y) (e : E)
    → says y ≡ Err e → joined front (each says (y ∷ ys)) ≡ Err e
unfolding each
item_stops {Y} {X} {E} says front y ys e h = rw h (joined_err front e)

abbrev failed : {A E : Type 0} → E → Result A E
failed e = Err e

err_is : {A E : Type 0} (e f : E) → failed {A = A} e ≡ failed f → e ≡ f
err_is {A} {E} e f h = cc

-- the same, where the fault has the file's name
pub item_fails : {Y X E : Type 0} (w : Naming E) (says : Y → Result X FieldFault) (front : List X) (y : Y) (ys : List Y)
    (e : E) → told w (says y) ≡ Err e → told w (joined front (each says (y ∷ ys))) ≡ Err e
item_fails {Y} {X} {E} w says front y ys e h =
    let P : (r : Result X FieldFault) → says y ≡ r → told w r ≡ Err e
    → told w (joined front (each says (y ∷ ys))) ≡ Err e =
    λ r. elim r as (λ s. says y ≡ s → told w s ≡ Err e → told w (joined front (each says (y ∷ ys))) ≡ Err e) [
      | Ok x ↦ λ is g. absurd cc
      | Err f ↦ λ is g. let named : w.of_field f ≡ e = err_is {A = X} (w.of_field f) e g in
          rw (item_stops says front y ys f is) (ap Err named)
    ] in
    P (says y) refl h

pub no_item : {Y X E : Type 0} (says : Y → Result X E) (front : List X) → joined front (each says []) ≡ Ok front
unfolding each
no_item {Y} {X} {E} says front = joined_end front
