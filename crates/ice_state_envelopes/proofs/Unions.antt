-- The union of sections in rising order.
use Rattle.std.proofs.Common.{◌≡◌, ℕ, zero, suc, ◌+◌, ◌<◌, ◌≤◌, List, [], ◌∷◌, length}
use Rattle.std.proofs.Common.{get_or, drop, map, inl, inr, refl}
use Rattle.std.proofs.Common.{ap, ◌∙◌, add-one, drop-cons, arith}
use Rattle.std.proofs.Math.ListN.{drop_of_length-le}
use Rattle.std.proofs.lemmas.Bool.{lt-ltb, le-ltb, cases_order}
use Rattle.ice_state_envelopes.specs.declared.section.Section.{Section}
use Rattle.ice_state_envelopes.specs.Envelopes.{Part, Rise, shown}
use Rattle.ice_state_envelopes.specs.Joins.{put, union}
use Rattle.ice_state_envelopes.proofs.Rising.{rise_weaker}

-- ---- a section put in its place

pub put_behind : (q p : Part) (ps : List Part) → p.0 < q.0 → put q (p ∷ ps) ≡ p ∷ put q ps
put_behind q p ps lt = rw (lt-ltb _ _ lt) refl

pub put_before : (q p : Part) (ps : List Part) → q.0 < p.0 → put q (p ∷ ps) ≡ q ∷ p ∷ ps
put_before q p ps lt =
    let le : q.0 ≤ p.0 = omega arith in
    rw (le-ltb _ _ le, lt-ltb _ _ lt) refl

pub put_at : (q p : Part) (ps : List Part) → p.0 ≡ q.0 → put q (p ∷ ps) ≡ p ∷ ps
put_at q p ps e =
    let le : q.0 ≤ p.0 = omega arith in
    let ge : p.0 ≤ q.0 = omega arith in
    rw (le-ltb _ _ le, le-ltb _ _ ge) refl

pub put_first : (q : Part) (end : ℕ) (ps : List Part) → Rise (suc q.0) end ps → put q ps ≡ q ∷ ps
put_first q end [] rise = refl
put_first q end (p ∷ ps) rise = put_before q p ps (omega (arith, rise.0))

put_rises : (q : Part) (least end : ℕ) (ps : List Part) → least ≤ q.0 → q.0 < end → Rise least end ps
    → Rise least end (put q ps)
put_rises q least end [] le lt rise = (le, lt, tt)
put_rises q least end (p ∷ ps) le lt rise = elim (cases_order p.0 q.0) [
  | inl e ↦ rw (put_at q p ps e) rise
  | inr (inl below) ↦ rw (put_behind q p ps below) (
    rise.0,
    rise.1,
    put_rises q (suc p.0) end ps (omega (arith, below)) lt rise.2,
  )
  | inr (inr above) ↦ rw (put_before q p ps above) (le, lt, (omega (arith, above), rise.1, rise.2))
]

pub union_rises : (least end : ℕ) (ps qs : List Part) → Rise least end ps → Rise least end qs
    → Rise least end (union ps qs)
union_rises least end ps [] rise rise' = rise
union_rises least end ps (q ∷ qs) rise rise' = put_rises q least end (union ps qs) rise'.0 rise'.1
    (union_rises least end ps qs rise (rise_weaker least (suc q.0) end qs (omega (arith, rise'.0)) rise'.2))

-- ---- the first section of a union, and the union of what is left

pub union_none : (least end : ℕ) (qs : List Part) → Rise least end qs → union [] qs ≡ qs
union_none least end [] rise = refl
union_none least end (q ∷ qs) rise =
    ap (put q) (union_none (suc q.0) end qs rise.2) ∙ put_first q end qs rise.2

pub union_first : (p : Part) (ps qs : List Part) (end : ℕ) → Rise (suc p.0) end qs
    → union (p ∷ ps) qs ≡ p ∷ union ps qs
union_first p ps [] end rise = refl
union_first p ps (q ∷ qs) end rise =
    ap (put q) (union_first p ps qs end (rise_weaker (suc p.0) (suc q.0) end qs (omega (arith, rise.0)) rise.2)) ∙
    put_behind q p (union ps qs) (omega (arith, rise.0))

pub union_second : (q : Part) (ps qs : List Part) (end : ℕ) → Rise (suc q.0) end ps → Rise (suc q.0) end qs
    → union ps (q ∷ qs) ≡ q ∷ union ps qs
union_second q ps qs end rise rise' = put_first q end (union ps qs) (union_rises (suc q.0) end ps qs rise rise')

pub union_both : (p q : Part) (ps qs : List Part) (end : ℕ) → p.0 ≡ q.0 → Rise (suc q.0) end qs
    → union (p ∷ ps) (q ∷ qs) ≡ p ∷ union ps qs
union_both p q ps qs end e rise =
    ap (put q) (union_first p ps qs end (rise_weaker (suc p.0) (suc q.0) end qs (omega (arith, e)) rise)) ∙
    put_at q p (union ps qs) e

-- ---- the same of sections as they lie in memory

rise_behind : (i least end : ℕ) (xs : List Section) → Rise least end (map shown xs)
    → Rise least end (map shown (drop i xs))
rise_behind zero least end xs rise = rise
rise_behind (suc i) least end [] rise = rise
rise_behind (suc i) least end (x ∷ xs) rise =
    rise_behind i least end xs (rise_weaker least (suc x.row) end (map shown xs) (omega (arith, rise.0)) rise.2)

-- the section at a place, and those behind it
at_place : (xs : List Section) (i : ℕ) (d : Section) → i < length xs
    → drop i xs ≡ get_or xs i d ∷ drop (i + 1) xs
at_place xs i d lt = drop-cons xs i d lt ∙ rw add-one refl

-- where reading the first and the second goes on
abbrev pub Left : List Section → List Section → ℕ → ℕ → List Part
Left xs ys i j = union (map shown (drop i xs)) (map shown (drop j ys))

pub second_alone : (rows : ℕ) (xs ys : List Section) (i j : ℕ) (d : Section) → length xs ≤ i → j < length ys
    → Rise 0 rows (map shown ys) → Left xs ys i j ≡ shown (get_or ys j d) ∷ Left xs ys i (j + 1)
second_alone rows xs ys i j d le lt rise =
    let y = shown (get_or ys j d) in
    let rise' : Rise 0 rows (y ∷ map shown (drop (j + 1) ys)) =
    rw (at_place ys j d lt) at (rise_behind j 0 rows ys rise)
    in
    rw (drop_of_length-le xs le, at_place ys j d lt)
    (union_second y [] (map shown (drop (j + 1) ys)) rows tt rise'.2)

pub first_is_less : (rows : ℕ) (xs ys : List Section) (i j : ℕ) (d e : Section) → i < length xs → j < length ys
    → Rise 0 rows (map shown ys) → (get_or xs i d).row < (get_or ys j e).row
    → Left xs ys i j ≡ shown (get_or xs i d) ∷ Left xs ys (i + 1) j
first_is_less rows xs ys i j d e lt lt' rise less =
    let x = shown (get_or xs i d) in
    let y = shown (get_or ys j e) in
    let rise' : Rise 0 rows (y ∷ map shown (drop (j + 1) ys)) =
    rw (at_place ys j e lt') at (rise_behind j 0 rows ys rise) in
    rw (at_place xs i d lt, at_place ys j e lt') (union_first x (map shown (drop (i + 1) xs))
    (y ∷ map shown (drop (j + 1) ys)) rows (omega (arith, less), rise'.1, rise'.2))

pub second_is_less : (rows : ℕ) (xs ys : List Section) (i j : ℕ) (d e : Section) → i < length xs → j < length ys
    → Rise 0 rows (map shown xs) → Rise 0 rows (map shown ys) → (get_or ys j e).row < (get_or xs i d).row
    → Left xs ys i j ≡ shown (get_or ys j e) ∷ Left xs ys i (j + 1)
second_is_less rows xs ys i j d e lt lt' rises rise less =
    let x = shown (get_or xs i d) in
    let y = shown (get_or ys j e) in
    let risen : Rise 0 rows (x ∷ map shown (drop (i + 1) xs)) =
    rw (at_place xs i d lt) at (rise_behind i 0 rows xs rises) in
    let rise' : Rise 0 rows (y ∷ map shown (drop (j + 1) ys)) =
    rw (at_place ys j e lt') at (rise_behind j 0 rows ys rise) in
    rw (at_place xs i d lt, at_place ys j e lt') (union_second y (x ∷ map shown (drop (i + 1) xs))
    (map shown (drop (j + 1) ys)) rows (omega (arith, less), risen.1, risen.2) rise'.2)

pub both_are_first : (rows : ℕ) (xs ys : List Section) (i j : ℕ) (d e : Section) → i < length xs → j < length ys
    → Rise 0 rows (map shown ys) → (get_or xs i d).row ≤ (get_or ys j e).row → (get_or ys j e).row ≤ (get_or xs i d).row
    → Left xs ys i j ≡ shown (get_or xs i d) ∷ Left xs ys (i + 1) (j + 1)
both_are_first rows xs ys i j d e lt lt' rise le ge =
    let x = shown (get_or xs i d) in
    let y = shown (get_or ys j e) in
    let rise' : Rise 0 rows (y ∷ map shown (drop (j + 1) ys)) =
    rw (at_place ys j e lt') at (rise_behind j 0 rows ys rise) in
    rw (at_place xs i d lt, at_place ys j e lt') (union_both x y (map shown (drop (i + 1) xs))
    (map shown (drop (j + 1) ys)) rows (omega (arith, le, ge)) rise'.2)
