-- One element more of lists that are mapped and filtered.
use Rattle.std.proofs.Common.{◌≡◌, ◌<◌, ℕ, ◌+◌, List, [], ◌∷◌, ◌++◌, length, take, map, get_or, refl, sym, ap, ◌∙◌}
use Rattle.std.proofs.Common.{Option, Some, None, append-nil}
use Rattle.std.specs.List.{filter_map}
use Rattle.std.proofs.lemmas.List.{map-append, take_more}
use Rattle.std.proofs.lemmas.List.Elements.{filter_map-append}

-- the elements up to one, and it
pub front_more : {X : Type 0} (xs : List X) (i : ℕ) (x : X) → i < length xs → x ≡ get_or xs i x
    → take (i + 1) xs ≡ take i xs ++ x ∷ []
front_more xs i x low at = take_more xs i x low ∙ ap (λ y. take i xs ++ y ∷ []) (sym at)

pub map_more : {X Y Z : Type 0} (f : X → Z) (g : Y → Z) (xs : List X) (x : X) (ys : List Y) (i : ℕ) (y : Y)
    → i < length ys → y ≡ get_or ys i y → map f xs ≡ map g (take i ys) → f x ≡ g y
    → map f (xs ++ x ∷ []) ≡ map g (take (i + 1) ys)
map_more f g xs x ys i y low at h one =
    map-append f xs (x ∷ [])
    ∙ ap (λ zs. zs ++ f x ∷ []) h
    ∙ ap (λ z. map g (take i ys) ++ z ∷ []) one
    ∙ sym (ap (map g) (front_more ys i y low at) ∙ map-append g (take i ys) (y ∷ []))

one_some : {X Y : Type 0} (h : X → Option Y) (x : X) (y : Y) → h x ≡ Some y → filter_map h (x ∷ []) ≡ y ∷ []
one_some h x y e = rw e refl

one_none : {X Y : Type 0} (h : X → Option Y) (x : X) → h x ≡ None → filter_map h (x ∷ []) ≡ []
one_none h x e = rw e refl

pub some_more : {X Y : Type 0} (h : X → Option Y) (xs : List X) (i : ℕ) (x : X) (y : Y) → i < length xs
    → x ≡ get_or xs i x → h x ≡ Some y → filter_map h (take (i + 1) xs) ≡ filter_map h (take i xs) ++ y ∷ []
some_more h xs i x y low at e =
    ap (filter_map h) (front_more xs i x low at)
    ∙ filter_map-append h (take i xs) (x ∷ [])
    ∙ ap (λ zs. filter_map h (take i xs) ++ zs) (one_some h x y e)

pub none_more : {X Y : Type 0} (h : X → Option Y) (xs : List X) (i : ℕ) (x : X) → i < length xs
    → x ≡ get_or xs i x → h x ≡ None → filter_map h (take (i + 1) xs) ≡ filter_map h (take i xs)
none_more h xs i x low at e =
    ap (filter_map h) (front_more xs i x low at)
    ∙ filter_map-append h (take i xs) (x ∷ [])
    ∙ ap (λ zs. filter_map h (take i xs) ++ zs) (one_none h x e)
    ∙ append-nil (filter_map h (take i xs))

-- what is mapped to what is given, and what is not
pub maps_more : {X Y Z : Type 0} (h : X → Option Y) (f : Z → Y) (xs : List X) (i : ℕ) (x : X) (zs : List Z) (z : Z)
    → i < length xs → x ≡ get_or xs i x → map f zs ≡ filter_map h (take i xs) → h x ≡ Some (f z)
    → map f (zs ++ z ∷ []) ≡ filter_map h (take (i + 1) xs)
maps_more h f xs i x zs z low at kept e =
    map-append f zs (z ∷ []) ∙ ap (λ ys. ys ++ f z ∷ []) kept ∙ sym (some_more h xs i x (f z) low at e)

-- the same of what is mapped further
pub paths_more : {X Y Z W : Type 0} (h : X → Option Y) (g : Y → W) (f : Z → W) (xs : List X) (i : ℕ) (x : X)
    (zs : List Z)
    (z : Z) (y : Y) → i < length xs → x ≡ get_or xs i x → map f zs ≡ map g (filter_map h (take i xs)) → h x ≡ Some y
    → f z ≡ g y → map f (zs ++ z ∷ []) ≡ map g (filter_map h (take (i + 1) xs))
paths_more h g f xs i x zs z y low at kept e one =
    map-append f zs (z ∷ [])
    ∙ ap (λ ys. ys ++ f z ∷ []) kept
    ∙ ap (λ w. map g (filter_map h (take i xs)) ++ w ∷ []) one
    ∙ sym (ap (map g) (some_more h xs i x y low at e) ∙ map-append g (filter_map h (take i xs)) (y ∷ []))

-- what is mapped to what two parts give
pub parts_given : {X Y Z : Type 0} (h : X → Option Y) (f : Z → Y) (xs front back : List X) (first others : List Z)
    → xs ≡ front ++ back → map f first ≡ filter_map h front → map f others ≡ filter_map h back
    → map f (first ++ others) ≡ filter_map h xs
parts_given h f xs front back first others parts one other =
    map-append f first others
    ∙ ap (λ ys. ys ++ map f others) one
    ∙ ap (λ ys. filter_map h front ++ ys) other
    ∙ sym (ap (filter_map h) parts ∙ filter_map-append h front back)
