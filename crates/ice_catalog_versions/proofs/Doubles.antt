-- Paths that stand twice in a list, as it is and in the order of its paths.
use Rattle.std.proofs.Common.{◌≡◌, ◌≤◌, ◌<◌, ℕ, zero, suc, Bool, true, false, cond, List, [], ◌∷◌, length, map, filter}
use Rattle.std.proofs.Common.{refl, sym, ap, ◌∙◌, subst, arith}
use Rattle.std.specs.Prelude.{Option, None, Some}
use Rattle.std.specs.List.{AllByRecursion}
use Rattle.std.specs.Ordering.{is_lt}
use Rattle.std.specs.Str.{bytes_eq}
use Rattle.std.proofs.lemmas.Slice.Eq.{bytes_eq-Decides}
use Rattle.contract_words.specs.Sorting.{sorted}
use Rattle.contract_words.proofs.Sorted.{Rises, filter-sorted, irreflexive}
use Rattle.ice_manifest.specs.declared.new_file.NewFile.{NewFile}
use Rattle.ice_manifest_reading.proofs.Rising.{less_from}
use Rattle.ice_catalog_versions.specs.LeastFaults.{HasPathAt}
use Rattle.ice_catalog_versions.specs.Refusals.{first_twice, path_before, path_of, twice_after}
use Rattle.ice_catalog_versions.proofs.Live.{length_sorted}
use Rattle.ice_catalog_versions.proofs.LiveAfter.{some_is}
use Rattle.ice_catalog_versions.proofs.Minima.{path_ranks}

-- ---- how often a path is there

abbrev pub count : List ℕ → List (List ℕ) → ℕ
count q ps = length (filter (bytes_eq q) ps)

counted : (q p : List ℕ) (ps : List (List ℕ)) → bytes_eq q p ≡ true → count q (p ∷ ps) ≡ suc (count q ps)
counted q p ps h = ap (λ b. length (cond b (p ∷ filter (bytes_eq q) ps) (filter (bytes_eq q) ps))) h

passed : (q p : List ℕ) (ps : List (List ℕ)) → bytes_eq q p ≡ false → count q (p ∷ ps) ≡ count q ps
passed q p ps h = ap (λ b. length (cond b (p ∷ filter (bytes_eq q) ps) (filter (bytes_eq q) ps))) h

same : (q p : List ℕ) → q ≡ p → bytes_eq q p ≡ true
same q p e = (bytes_eq-Decides q p).1 e

differ : (q p : List ℕ) → (q ≡ p → ⊥) → bytes_eq q p ≡ false
differ q p h = at (bytes_eq q p) refl where
  at : (b : Bool) → bytes_eq q p ≡ b → bytes_eq q p ≡ false
  at true e = absurd (h ((bytes_eq-Decides q p).0 e))
  at false e = e

more : (q p : List ℕ) (ps : List (List ℕ)) → count q ps ≤ count q (p ∷ ps)
more q p ps = elim (bytes_eq q p) as (λ b. count q ps ≤ length (cond b (p ∷ filter (bytes_eq q) ps)
    (filter (bytes_eq q) ps))) [ true ↦ omega arith | false ↦ omega arith ]

pub count_sorted : (q : List ℕ) (ps : List (List ℕ)) → count q (sorted path_before ps) ≡ count q ps
count_sorted q ps = ap length (filter-sorted path_before path_ranks (bytes_eq q) ps)
    ∙ length_sorted path_before (filter (bytes_eq q) ps)

-- ---- paths in their order

-- what is before each of these isn't among them
before_all : (q x : List ℕ) (ps : List (List ℕ)) → path_before q x ≡ true
    → AllByRecursion (λ p. path_before p x ≡ false) ps → count q ps ≡ 0
before_all q x [] h all = refl
before_all q x (p ∷ ps) h all =
    passed q p ps (differ q p (λ e. let no : true ≡ false = sym h ∙ (ap (λ z. path_before z x) e ∙ all.0) in cc))
    ∙ before_all q x ps h all.1

alone : (x y : List ℕ) (ys : List (List ℕ)) → path_before y x ≡ false → bytes_eq y x ≡ false
    → Rises path_before path_ranks (y ∷ ys) → count x (y ∷ ys) ≡ 0
alone x y ys h k rises = before_all x y (y ∷ ys) (ap is_lt (less_from x y h k))
    (irreflexive path_before path_ranks y, rises.0)

apart : (b : Bool) (path : List ℕ) (rest : Option (List ℕ)) → cond b (Some path) rest ≡ None
    → (b ≡ false) × (rest ≡ None)
apart true path rest h = absurd cc
apart false path rest h = (refl, h)

once : (q x : List ℕ) (ps : List (List ℕ)) (b : Bool) → bytes_eq q x ≡ b → count q ps ≤ 1
    → (q ≡ x → count q ps ≡ 0) → count q (x ∷ ps) ≤ 1
once q x ps true is h none =
    let one = counted q x ps is in
    let others = none ((bytes_eq-Decides q x).0 is) in
    omega (arith, one, others)
once q x ps false is h none = let other = passed q x ps is in omega (arith, other, h)

none_after : (x : List ℕ) (ps : List (List ℕ)) → Rises path_before path_ranks (x ∷ ps) → twice_after x ps ≡ None
    → (q : List ℕ) → count q (x ∷ ps) ≤ 1
none_after x [] rises e q = elim (bytes_eq q x) as (λ b. length (cond b (x ∷ []) []) ≤ 1)
    [ true ↦ omega arith | false ↦ omega arith ]
none_after x (y ∷ ys) rises e q =
    let other = apart (bytes_eq y x) y (twice_after y ys) e in
    once q x (y ∷ ys) (bytes_eq q x) refl (none_after y ys rises.1 other.1 q)
    (λ is. ap (λ z. count z (y ∷ ys)) is ∙ alone x y ys rises.0.0 other.0 rises.1)

-- the path is there twice, and none that is there twice is before it
abbrev pub IsLeastDouble : List (List ℕ) → List ℕ → Type 0
IsLeastDouble ps p = (2 ≤ count p ps) × ((q : List ℕ) → 2 ≤ count q ps → path_before q p ≡ true → ⊥)

still : (q x : List ℕ) (ps : List (List ℕ)) (b : Bool) → bytes_eq q x ≡ b → (q ≡ x → count q ps ≡ 0)
    → 2 ≤ count q (x ∷ ps) → 2 ≤ count q ps
still q x ps true is none two =
    let one = counted q x ps is in
    let others = none ((bytes_eq-Decides q x).0 is) in
    absurd (omega (arith, one, others, two))
still q x ps false is none two = let other = passed q x ps is in omega (arith, other, two)

double_step : (x y p : List ℕ) (ys : List (List ℕ)) (b : Bool) → bytes_eq y x ≡ b
    → Rises path_before path_ranks (x ∷ y ∷ ys) → (twice_after y ys ≡ Some p → IsLeastDouble (y ∷ ys) p)
    → cond b (Some y) (twice_after y ys) ≡ Some p → IsLeastDouble (x ∷ y ∷ ys) p
double_step x y p ys true is rises rest e =
    let told = some_is y p e in
    let at_x : p ≡ x = sym told ∙ (bytes_eq-Decides y x).0 is in
    let one = counted p x (y ∷ ys) (same p x at_x) in
    let two = counted p y ys (same p y (sym told)) in (
      omega (arith, one, two),
      λ q both less.
          let none = before_all q x (x ∷ y ∷ ys) (subst (λ z. path_before q z ≡ true) at_x less)
          (irreflexive path_before path_ranks x, rises.0) in
          omega (arith, none, both),
    )
double_step x y p ys false is rises rest e =
    let r = rest e in
    let all = more p x (y ∷ ys) in (
      omega (arith, r.0, all),
      λ q both less. r.1 q (still q x (y ∷ ys) (bytes_eq q x) refl (λ at_x. ap (λ z. count z (y ∷ ys)) at_x ∙ alone x y
          ys rises.0.0 is rises.1) both) less,
    )

double_after : (x p : List ℕ) (ps : List (List ℕ)) → Rises path_before path_ranks (x ∷ ps)
    → twice_after x ps ≡ Some p → IsLeastDouble (x ∷ ps) p
double_after x p [] rises e = absurd cc
double_after x p (y ∷ ys) rises e = double_step x y p ys (bytes_eq y x) refl rises (double_after y p ys rises.1) e

pub no_double : (ps : List (List ℕ)) → Rises path_before path_ranks ps → first_twice ps ≡ None → (q : List ℕ)
    → count q ps ≤ 1
no_double [] rises e q = omega arith
no_double (p ∷ ps) rises e q = none_after p ps rises e q

pub least_double : (ps : List (List ℕ)) (p : List ℕ) → Rises path_before path_ranks ps → first_twice ps ≡ Some p
    → IsLeastDouble ps p
least_double [] p rises e = absurd cc
least_double (x ∷ ps) p rises e = double_after x p ps rises e

-- ---- the places of files

from_place : (files : List NewFile) (path : List ℕ) (place : ℕ) → HasPathAt files place path
    → 1 ≤ count path (map path_of files)
from_place [] path place at = let no = at.1 in absurd cc
from_place (f ∷ fs) path zero at =
    let is : path ≡ f.path = sym (ap (λ (x : NewFile). x.path) (some_is f at.0 at.1) ∙ at.2) in
    let one = counted path f.path (map path_of fs) (same path f.path is) in
    omega (arith, one)
from_place (f ∷ fs) path (suc place) at =
    let rest = from_place fs path place at in
    let all = more path f.path (map path_of fs) in
    omega (arith, rest, all)

pub from_places : (files : List NewFile) (path : List ℕ) (place other : ℕ) → place < other
    → HasPathAt files place path → HasPathAt files other path → 2 ≤ count path (map path_of files)
from_places [] path place other lt at to = let no = at.1 in absurd cc
from_places (f ∷ fs) path place zero lt at to = absurd (omega (arith, lt))
from_places (f ∷ fs) path zero (suc other) lt at to =
    let is : path ≡ f.path = sym (ap (λ (x : NewFile). x.path) (some_is f at.0 at.1) ∙ at.2) in
    let one = counted path f.path (map path_of fs) (same path f.path is) in
    let rest = from_place fs path other to in
    omega (arith, one, rest)
from_places (f ∷ fs) path (suc place) (suc other) lt at to =
    let rest = from_places fs path place other (omega (arith, lt)) at to in
    let all = more path f.path (map path_of fs) in
    omega (arith, rest, all)

abbrev IsSomewhere : List NewFile → List ℕ → Type 0
IsSomewhere files path = (place : ℕ) × HasPathAt files place path

place_step : (f : NewFile) (fs : List NewFile) (path : List ℕ) (b : Bool) → bytes_eq path f.path ≡ b
    → (1 ≤ count path (map path_of fs) → IsSomewhere fs path) → 1 ≤ count path (map path_of (f ∷ fs))
    → IsSomewhere (f ∷ fs) path
place_step f fs path true is rest h = (0, (f, refl, sym ((bytes_eq-Decides path f.path).0 is)))
place_step f fs path false is rest h =
    let other = passed path f.path (map path_of fs) is in
    let r = rest (omega (arith, other, h)) in
    (suc r.0, r.1)

to_place : (files : List NewFile) (path : List ℕ) → 1 ≤ count path (map path_of files) → IsSomewhere files path
to_place [] path h = absurd (omega (arith, h))
to_place (f ∷ fs) path h = place_step f fs path (bytes_eq path f.path) refl (to_place fs path) h

abbrev pub AreTwo : List NewFile → List ℕ → Type 0
AreTwo files path = (place other : ℕ) × (place < other) × HasPathAt files place path × HasPathAt files other path

places_step : (f : NewFile) (fs : List NewFile) (path : List ℕ) (b : Bool) → bytes_eq path f.path ≡ b
    → (2 ≤ count path (map path_of fs) → AreTwo fs path) → 2 ≤ count path (map path_of (f ∷ fs))
    → AreTwo (f ∷ fs) path
places_step f fs path true is rest h =
    let one = counted path f.path (map path_of fs) is in
    let r = to_place fs path (omega (arith, one, h)) in
    (0, suc r.0, omega arith, (f, refl, sym ((bytes_eq-Decides path f.path).0 is)), r.1)
places_step f fs path false is rest h =
    let other = passed path f.path (map path_of fs) is in
    let r = rest (omega (arith, other, h)) in
    let lt = r.2 in
    (suc r.0, suc r.1, omega (arith, lt), r.3, r.4)

pub to_places : (files : List NewFile) (path : List ℕ) → 2 ≤ count path (map path_of files) → AreTwo files path
to_places [] path h = absurd (omega (arith, h))
to_places (f ∷ fs) path h = places_step f fs path (bytes_eq path f.path) refl (to_places fs path) h
