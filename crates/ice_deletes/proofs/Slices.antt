-- The numbers of the files that pass a test, shelf by shelf.
use Rattle.std.proofs.Common.{◌≡◌, ℕ, zero, suc, ◌+◌, ◌≤◌, ◌==◌, Bool, true, false, ◌&&◌, List, [], ◌∷◌, ◌++◌}
use Rattle.std.proofs.Common.{not, is_some, map, filter, cond, refl, sym, ap, subst, ◌∙◌, arith, append-nil, ◌⊎◌}
use Rattle.std.proofs.Common.{inl, inr}
use Rattle.std.specs.List.{AllByRecursion, Contains, count_by}
use Rattle.std.proofs.lemmas.List.{map-append}
use Rattle.std.proofs.lemmas.List.Elements.{filter-append, recursion_from_All}
use Rattle.std.proofs.lemmas.List.Sums.{sum_by-cons}
use Rattle.ice_value.specs.declared.file_content.FileContent.{FileContent}
use Rattle.ice_value.specs.declared.file_content.FileContent.TheVariants.{Data, PositionDeletes, EqualityDeletes}
use Rattle.ice_value.specs.Applying.{DataKey, DeleteKey, applies}
use Rattle.ice_value.proofs.Deletes.{applies-decides}
use Rattle.ice_deletes.specs.declared.delete.Delete.{Delete}
use Rattle.ice_deletes.specs.declared.group.Group.{Group}
use Rattle.ice_deletes.specs.declared.group.Group.TheVariants.{Positions, Referenced, Equalities, Everywhere}
use Rattle.ice_deletes.specs.declared.shelf.Shelf.{Shelf}
use Rattle.ice_deletes.specs.Keys.{key_in, entry_of}
use Rattle.ice_deletes.specs.Groups.{SortKey, is_in, is_within}
use Rattle.ice_deletes.specs.Found.{is_content, holds, numbers_where, AppliesAt}
use Rattle.ice_deletes.specs.Indexes.{AreDistinct}
use Rattle.ice_deletes.specs.Shelves.{IsShelf}

abbrev of_file : (DeleteKey → Bool) → ℕ × DeleteKey → Bool
of_file p e = p e.1

abbrev number_of : ℕ × DeleteKey → ℕ
number_of e = e.0

-- the numbers where a first file passes, and where it doesn't
abbrev with_first : (DeleteKey → Bool) → ℕ × DeleteKey → List (ℕ × DeleteKey) → Bool → List ℕ
with_first p e es v = map number_of (cond v (e ∷ filter (of_file p) es) (filter (of_file p) es))

-- all of these are of the group
abbrev pub AreIn : Group → List Delete → Type 0
AreIn g ds = AllByRecursion (λ d. is_in g (key_in d) ≡ true) ds

abbrev pub entries : List Delete → List (ℕ × DeleteKey)
entries ds = map entry_of ds

numbers-append : (p : DeleteKey → Bool) (es fs : List (ℕ × DeleteKey))
    → numbers_where p (es ++ fs) ≡ numbers_where p es ++ numbers_where p fs
numbers-append p es fs = ap (map number_of) (filter-append (of_file p) es fs) ∙ map-append number_of
    (filter (of_file p) es) (filter (of_file p) fs)

numbers-entries : (p : DeleteKey → Bool) (ds : List Delete)
    → numbers_where p (entries ds) ≡ map (λ (d : Delete). d.number) (filter (λ d. p (key_in d)) ds)
numbers-entries p [] = refl
numbers-entries p (d ∷ ds) =
    elim (p (key_in d)) as (λ v. with_first p (entry_of d) (entries ds) v ≡ map (λ (d : Delete). d.number)
    (cond v (d ∷ filter (λ d. p (key_in d)) ds) (filter (λ d. p (key_in d)) ds))) [
      | true ↦ ap (λ ns. d.number ∷ ns) (numbers-entries p ds)
      | false ↦ numbers-entries p ds
    ]

-- two tests that agree on the files of a group
agree : (g : Group) (p q : DeleteKey → Bool) → ((k : DeleteKey) → is_in g k ≡ true → p k ≡ q k) → (ds : List Delete)
    → AreIn g ds → numbers_where p (entries ds) ≡ numbers_where q (entries ds)
agree g p q same [] all = refl
agree g p q same (d ∷ ds) all =
    let rest = agree g p q same ds all.1 in
    ap (λ v. with_first p (entry_of d) (entries ds) v) (same (key_in d) all.0)
    ∙ elim (q (key_in d)) as (λ v. with_first p (entry_of d) (entries ds) v
    ≡ with_first q (entry_of d) (entries ds) v) [
      | true ↦ ap (λ ns. d.number ∷ ns) rest
      | false ↦ rest
    ]

never : (ds : List Delete) → numbers_where (λ k. false) (entries ds) ≡ []
never [] = refl
never (d ∷ ds) = never ds

-- a test that no file of the group passes
none : (g : Group) (p : DeleteKey → Bool) → ((k : DeleteKey) → is_in g k ≡ true → p k ≡ false) → (ds : List Delete)
    → AreIn g ds → numbers_where p (entries ds) ≡ []
none g p fails ds all = agree g p (λ k. false) fails ds all ∙ never ds

-- what a search on a shelf gave
abbrev pub Lends : Shelf → SortKey → List ℕ → Type 0
Lends s k numbers = numbers ≡ map (λ (d : Delete). d.number)
    (filter (λ d. is_within s.group k (key_in d)) s.deletes.items)

pub shelf_lends : (g : Group) (s : Shelf) → IsShelf g s → (x : DataKey) (k : SortKey) (numbers : List ℕ)
    → ((d : DeleteKey) → is_in g d ≡ true → is_within g k d ≡ applies x d) → Lends s k numbers
    → numbers ≡ numbers_where (applies x) (entries s.deletes.items)
shelf_lends g s is x k numbers found lends =
    let P : Group → Type 0 = λ h. numbers ≡ map (λ (d : Delete). d.number)
    (filter (λ d. is_within h k (key_in d)) s.deletes.items) in
    let lends' : P g = subst P is.of_group lends in
    lends' ∙ sym (numbers-entries (is_within g k) s.deletes.items)
    ∙ agree g (is_within g k) (applies x) found s.deletes.items (recursion_from_All _ s.deletes.items is.grouped)

one_way : (a b : Bool) → (a && not b) ≡ true → (a && b) ≡ false
one_way true true h = absurd cc
one_way true false h = refl
one_way false b h = refl

other_way : (a b : Bool) → (a && b) ≡ true → (a && not b) ≡ false
other_way true true h = refl
other_way true false h = absurd cc
other_way false b h = refl

no_equalities : (K : FileContent) (a b : Bool) → (is_content PositionDeletes K && a) ≡ true
    → (is_content EqualityDeletes K && b) ≡ false
no_equalities Data a b h = refl
no_equalities PositionDeletes a b h = refl
no_equalities EqualityDeletes a b h = absurd cc

no_positions : (K : FileContent) (a b : Bool) → (is_content EqualityDeletes K && a) ≡ true
    → (is_content PositionDeletes K && b) ≡ false
no_positions Data a b h = refl
no_positions PositionDeletes a b h = absurd cc
no_positions EqualityDeletes a b h = refl

pub all_four : (a b c d e f g h : List ℕ) → a ≡ e → b ≡ f → c ≡ g → d ≡ h → a ++ b ++ c ++ d ≡ e ++ f ++ g ++ h
all_four a b c d e f g h p q r s = cc

-- the files of an index, shelf by shelf
module _ (a b c d : List Delete) (in_a : AreIn Positions a) (in_b : AreIn Referenced b) (in_c : AreIn Equalities c)
    (in_d : AreIn Everywhere d) where
  abbrev files : List (ℕ × DeleteKey)
  files = entries a ++ entries b ++ entries c ++ entries d

  pub by_shelf : (p : DeleteKey → Bool) → numbers_where p files
      ≡ numbers_where p (entries a) ++ numbers_where p (entries b) ++ numbers_where p (entries c)
      ++ numbers_where p (entries d)
  by_shelf p =
      numbers-append p (entries a ++ entries b ++ entries c) (entries d)
      ∙ ap (λ ns. ns ++ numbers_where p (entries d)) (numbers-append p (entries a ++ entries b) (entries c)
      ∙ ap (λ ns. ns ++ numbers_where p (entries c)) (numbers-append p (entries a) (entries b)))

  -- the files of a group that pass a test are those of its shelf
  module _ (q : DeleteKey → Bool) where
    abbrev of_group : Group → DeleteKey → Bool
    of_group g k = is_in g k && q k

    own : (g : Group) (k : DeleteKey) → is_in g k ≡ true → of_group g k ≡ q k
    own g k h = ap (λ v. v && q k) h

    other : (g : Group) (k : DeleteKey) → is_in g k ≡ false → of_group g k ≡ false
    other g k h = ap (λ v. v && q k) h

    pub positions_are : numbers_where (of_group Positions) files ≡ numbers_where q (entries a)
    positions_are =
        let p = of_group Positions in
        by_shelf p
        ∙ all_four _ _ _ _ (numbers_where q (entries a)) [] [] []
        (agree Positions p q (own Positions) a in_a)
        (none Referenced p (λ k h. other Positions k (other_way (holds PositionDeletes k) (is_some k.referenced) h)) b
        in_b)
        (none Equalities p (λ k h. other Positions k (no_positions k.content (not k.unpartitioned)
        (not (is_some k.referenced)) h)) c in_c)
        (none Everywhere p (λ k h. other Positions k (no_positions k.content k.unpartitioned
        (not (is_some k.referenced)) h)) d in_d)
        ∙ append-nil _ ∙ append-nil _ ∙ append-nil _

    pub referenced_are : numbers_where (of_group Referenced) files ≡ numbers_where q (entries b)
    referenced_are =
        let p = of_group Referenced in
        by_shelf p
        ∙ all_four _ _ _ _ [] (numbers_where q (entries b)) [] []
        (none Positions p (λ k h. other Referenced k (one_way (holds PositionDeletes k) (is_some k.referenced) h)) a
        in_a)
        (agree Referenced p q (own Referenced) b in_b)
        (none Equalities p (λ k h. other Referenced k (no_positions k.content (not k.unpartitioned)
        (is_some k.referenced) h)) c in_c)
        (none Everywhere p (λ k h. other Referenced k (no_positions k.content k.unpartitioned (is_some k.referenced) h))
        d in_d)
        ∙ append-nil _ ∙ append-nil _

    pub equalities_are : numbers_where (of_group Equalities) files ≡ numbers_where q (entries c)
    equalities_are =
        let p = of_group Equalities in
        by_shelf p
        ∙ all_four _ _ _ _ [] [] (numbers_where q (entries c)) []
        (none Positions p (λ k h. other Equalities k (no_equalities k.content (not (is_some k.referenced))
        (not k.unpartitioned) h)) a in_a)
        (none Referenced p (λ k h. other Equalities k (no_equalities k.content (is_some k.referenced)
        (not k.unpartitioned) h)) b in_b)
        (agree Equalities p q (own Equalities) c in_c)
        (none Everywhere p (λ k h. other Equalities k (other_way (holds EqualityDeletes k) k.unpartitioned h)) d in_d)
        ∙ append-nil _

    pub everywhere_are : numbers_where (of_group Everywhere) files ≡ numbers_where q (entries d)
    everywhere_are =
        let p = of_group Everywhere in
        by_shelf p
        ∙ all_four _ _ _ _ [] [] [] (numbers_where q (entries d))
        (none Positions p (λ k h. other Everywhere k (no_equalities k.content (not (is_some k.referenced))
        k.unpartitioned h)) a in_a)
        (none Referenced p (λ k h. other Everywhere k (no_equalities k.content (is_some k.referenced) k.unpartitioned
        h)) b in_b)
        (none Equalities p (λ k h. other Everywhere k (one_way (holds EqualityDeletes k) k.unpartitioned h)) c in_c)
        (agree Everywhere p q (own Everywhere) d in_d)

further : {X : Type 0} (x : X) (xs : List X) (y : X) → Contains xs y → Contains (x ∷ xs) y
further x xs y h = (suc h.0, omega arith, h.2)

head_or_tail : {X : Type 0} (x : X) (xs : List X) (y : X) → Contains (x ∷ xs) y → (x ≡ y) ⊎ Contains xs y
head_or_tail x xs y (zero, low, e) = inl e
head_or_tail x xs y (suc k, low, e) = inr (k, omega arith, e)

-- a file of this number passes
abbrev Passes : (DeleteKey → Bool) → List (ℕ × DeleteKey) → ℕ → Type 0
Passes p es n = (d : DeleteKey) × Contains es (n, d) × (p d ≡ true)

later : (p : DeleteKey → Bool) (e : ℕ × DeleteKey) (es : List (ℕ × DeleteKey)) (n : ℕ) → Passes p es n
    → Passes p (e ∷ es) n
later p e es n h = (h.0, further e es (n, h.0) h.1, h.2)

first_passes : (p : DeleteKey → Bool) (e : ℕ × DeleteKey) (es : List (ℕ × DeleteKey)) (n : ℕ)
    → (Contains (numbers_where p es) n → Passes p es n) → (b : Bool) → p e.1 ≡ b → Contains (with_first p e es b) n
    → Passes p (e ∷ es) n
first_passes p e es n rest true passes c = elim (head_or_tail e.0 (numbers_where p es) n c) [
  | inl at ↦ (e.1, (0, omega arith, ap (λ (m : ℕ). (m, e.1)) at), passes)
  | inr tail ↦ later p e es n (rest tail)
]
first_passes p e es n rest false passes c = later p e es n (rest c)

found_passes : (p : DeleteKey → Bool) (es : List (ℕ × DeleteKey)) (n : ℕ) → Contains (numbers_where p es) n
    → Passes p es n
found_passes p [] n (k, low, e) = absurd (omega arith)
found_passes p (e ∷ es) n h = first_passes p e es n (λ c. found_passes p es n c) (p e.1) refl h

passing_found : (p : DeleteKey → Bool) (es : List (ℕ × DeleteKey)) (n : ℕ) (d : DeleteKey) → Contains es (n, d)
    → p d ≡ true → Contains (numbers_where p es) n
passing_found p [] n d (k, low, e) passes = absurd (omega arith)
passing_found p (e ∷ es) n d c passes =
    let P : Bool → Type 0 = λ v. Contains (with_first p e es v) n in
    elim (head_or_tail e es (n, d) c) [
      | inl at ↦ let first : p e.1 ≡ true = ap (λ (f : ℕ × DeleteKey). p f.1) at ∙ passes in
          subst P (sym first) (0, omega arith, ap (λ (f : ℕ × DeleteKey). f.0) at)
      | inr tail ↦ let rest = passing_found p es n d tail passes in
          elim (p e.1) as (λ v. P v) [ true ↦ further e.0 (numbers_where p es) n rest | false ↦ rest ]
    ]

-- what is lent is what applies
pub lent_applies : (files : List (ℕ × DeleteKey)) (x : DataKey) (n : ℕ)
    → (Contains (numbers_where (applies x) files) n → AppliesAt files x n)
    × (AppliesAt files x n → Contains (numbers_where (applies x) files) n)
lent_applies files x n = (
  λ c. let h = found_passes (applies x) files n c in (h.0, h.1, (applies-decides x h.0).0 h.2),
  λ a. passing_found (applies x) files n a.0 a.1 ((applies-decides x a.0).1 a.2),
)

abbrev times : ℕ → List ℕ → ℕ
times n ns = count_by (λ m. m == n) ns

abbrev given : ℕ → List (ℕ × DeleteKey) → ℕ
given n es = count_by (λ e. e.0 == n) es

at_most : (p : DeleteKey → Bool) (es : List (ℕ × DeleteKey)) (n : ℕ) → times n (numbers_where p es) ≤ given n es
at_most p [] n = omega arith
at_most p (e ∷ es) n =
    let rest = at_most p es n in
    let all : given n (e ∷ es) ≡ cond (e.0 == n) 1 0 + given n es = sum_by-cons
    (λ (e : ℕ × DeleteKey). cond (e.0 == n) 1 0) e es in
    elim (p e.1) as (λ v. times n (with_first p e es v) ≤ given n (e ∷ es)) [
      | true ↦ let one : times n (e.0 ∷ numbers_where p es) ≡ cond (e.0 == n) 1 0 + times n (numbers_where p es) =
          sum_by-cons (λ (m : ℕ). cond (m == n) 1 0) e.0 (numbers_where p es) in omega arith
      | false ↦ omega arith
    ]

-- no number is lent twice
pub lent_once : (files : List (ℕ × DeleteKey)) (x : DataKey) → AreDistinct files → (n : ℕ)
    → count_by (λ m. m == n) (numbers_where (applies x) files) ≤ 1
lent_once files x distinct n =
    let some = at_most (applies x) files n in
    let one = distinct n in
    omega arith
