-- What is picked along several field paths.
use Rattle.std.proofs.Common.{◌≡◌, ℕ, ◌+◌, ◌<◌, ◌≤◌, List, [], ◌∷◌, ◌++◌, length, get_or, map, take, Some, None, Ok}
use Rattle.std.proofs.Common.{refl, sym}
use Rattle.std.proofs.Common.{ap, ◌∙◌, add-one}
use Rattle.std.proofs.Math.Seq.{take-suc, take_all}
use Rattle.std.proofs.lemmas.List.{map-append}
use Rattle.avro_file.specs.Value.{Value}
use Rattle.avro_file.specs.Ahead.{Ahead, running, refusing}
use Rattle.avro_file.specs.Files.{Next}

pub one_more : {A B C : Type 0} (see : A → C) (wanted : B → C) (found : List A) (field_paths : List B) (i : ℕ)
    (field_path : B) (a : A)
    → i < length field_paths → field_path ≡ get_or field_paths i field_path
    → map see found ≡ map wanted (take i field_paths) → see a ≡ wanted field_path
    → map see (found ++ a ∷ []) ≡ map wanted (take (i + 1) field_paths)
one_more {A} {B} {C} see wanted found field_paths i field_path a lt is so_far here =
    let more : take (i + 1) field_paths ≡ take i field_paths ++ field_path ∷ [] = ap (λ (n : ℕ). take n field_paths)
    (add-one i)
    ∙ take-suc field_paths i field_path lt ∙ ap (λ (x : B). take i field_paths ++ x ∷ []) (sym is) in
    map-append see found (a ∷ []) ∙ ap (λ (cs : List C). cs ++ see a ∷ []) so_far
    ∙ ap (λ (c : C). map wanted (take i field_paths) ++ c ∷ []) here
    ∙ sym (map-append wanted (take i field_paths) (field_path ∷ []))
    ∙ sym (ap (map wanted) more)

map_of_map : {A B C : Type 0} (f : A → B) (g : B → C) (xs : List A) → map (λ x. g (f x)) xs ≡ map g (map f xs)
map_of_map f g [] = refl
map_of_map {A} {B} {C} f g (x ∷ xs) = ap (λ (cs : List C). g (f x) ∷ cs) (map_of_map f g xs)

pub all_done : {A B C D : Type 0} (see : A → D) (ids : B → C) (wanted : C → D) (found : List A) (field_paths : List B)
    (i : ℕ)
    → length field_paths ≤ i → map see found ≡ map (λ field_path. wanted (ids field_path)) (take i field_paths)
    → map see found ≡ map wanted (map ids field_paths)
all_done {A} {B} {C} {D} see ids wanted found field_paths i le so_far =
    so_far ∙ ap (λ (ws : List B). map (λ field_path. wanted (ids field_path)) ws) (take_all i field_paths le)
    ∙ map_of_map ids wanted field_paths

-- what next gives, where the object shows it otherwise
pub next_shown : {X Y : Type 0} (P : X → Value → Type 0) (Q : Y → Value → Type 0) (old new : Ahead) (x : X) (y : Y)
    → ((v : Value) → P x v → Q y v) → Next P old (Ok (Some x)) new → Next Q old (Ok (Some y)) new
next_shown P Q (refusing e) new x y shows is = absurd cc
next_shown P Q (running vs ending) new x y shows is = (is.0, is.1, shows is.0 is.2, is.3, is.4)

pub next_none : {X Y : Type 0} (P : X → Value → Type 0) (Q : Y → Value → Type 0) (old new : Ahead)
    → Next P old (Ok None) new → Next Q old (Ok None) new
next_none P Q (refusing e) new is = absurd cc
next_none P Q (running vs ending) new is = is
