-- Contents with one more row, as unions.
use Rattle.std.proofs.Common.{◌≡◌, ◌<◌, ◌∙◌, ℕ, zero, suc, true, [], ◌∷◌, refl, sym, ap, subst, arith, length}
use Rattle.std.proofs.Common.{get_or, replicate, Option, Some, None, is_some}
use Rattle.ice_state.specs.Contents.{Content, or_else, with_row}
use Rattle.ice_state.specs.Joins.{join, Agree, AgreeAt}
use Rattle.ice_state.specs.Readings.{Reading}

or_else-none : (s : Option Reading) → or_else s None ≡ s
or_else-none None = refl
or_else-none (Some r) = refl

or_else-assoc : (a b c : Option Reading) → or_else (or_else a b) c ≡ or_else a (or_else b c)
or_else-assoc (Some r) b c = refl
or_else-assoc None b c = refl

pub length-with_row : (c : Content) (i : ℕ) (r : Reading) → length (with_row c i r) ≡ length c
length-with_row [] i r = refl
length-with_row (s ∷ ss) zero r = refl
length-with_row (s ∷ ss) (suc i) r = ap suc (length-with_row ss i r)

pub length-join : (c d : Content) → length c ≡ length d → length (join c d) ≡ length c
length-join [] [] same = refl
length-join [] (y ∷ d) same = absurd (omega arith)
length-join (x ∷ c) [] same = refl
length-join (x ∷ c) (y ∷ d) same = ap suc (length-join c d (omega arith))

-- a row that is put in a union
pub with_row-join : (c d : Content) (i : ℕ) (r : Reading) → length c ≡ length d
    → with_row (join c d) i r ≡ join c (with_row d i r)
with_row-join [] [] i r same = refl
with_row-join [] (y ∷ d) i r same = absurd (omega arith)
with_row-join (x ∷ c) [] i r same = absurd (omega arith)
with_row-join (x ∷ c) (y ∷ d) zero r same = ap (λ s. s ∷ join c d) (or_else-assoc x y (Some r))
with_row-join (x ∷ c) (y ∷ d) (suc i) r same = ap (λ e. or_else x y ∷ e) (with_row-join c d i r (omega arith))

-- ---- where nothing is taken

abbrev pub none : ℕ → Content
none n = replicate n None

pub length-none : (n : ℕ) → length (none n) ≡ n
length-none zero = refl
length-none (suc n) = ap suc (length-none n)

pub join-none : (n : ℕ) (c : Content) → length c ≡ n → join c (none n) ≡ c
join-none zero [] same = refl
join-none zero (x ∷ c) same = absurd (omega arith)
join-none (suc n) [] same = absurd (omega arith)
join-none (suc n) (x ∷ c) same =
    ap (λ s. s ∷ join c (none n)) (or_else-none x) ∙ ap (λ e. x ∷ e) (join-none n c (omega arith))

pub none-join : (n : ℕ) (c : Content) → length c ≡ n → join (none n) c ≡ c
none-join zero c same = refl
none-join (suc n) [] same = absurd (omega arith)
none-join (suc n) (x ∷ c) same = ap (λ e. x ∷ e) (none-join n c (omega arith))

pub none-at : (n i : ℕ) → get_or (none n) i None ≡ None
none-at zero i = refl
none-at (suc n) zero = refl
none-at (suc n) (suc i) = none-at n i

-- ---- one row alone

abbrev pub one : ℕ → ℕ → Reading → Content
one n i r = with_row (none n) i r

pub length-one : (n i : ℕ) (r : Reading) → length (one n i r) ≡ n
length-one n i r = length-with_row (none n) i r ∙ length-none n

-- it is taken there
pub one-at : (n i : ℕ) (r : Reading) → i < n → get_or (one n i r) i None ≡ Some r
one-at zero i r low = absurd (omega arith)
one-at (suc n) zero r low = refl
one-at (suc n) (suc i) r low = one-at n i r (omega arith)

-- and before it no row is
pub one-before : (n i k : ℕ) (r : Reading) → k < i → get_or (one n i r) k None ≡ None
one-before zero i k r low = refl
one-before (suc n) zero k r low = absurd (omega arith)
one-before (suc n) (suc i) zero r low = refl
one-before (suc n) (suc i) (suc k) r low = one-before n i k r (omega arith)

pub join-at : (c d : Content) (i : ℕ) → length c ≡ length d
    → get_or (join c d) i None ≡ or_else (get_or c i None) (get_or d i None)
join-at [] [] i same = refl
join-at [] (y ∷ d) i same = absurd (omega arith)
join-at (x ∷ c) [] i same = absurd (omega arith)
join-at (x ∷ c) (y ∷ d) zero same = refl
join-at (x ∷ c) (y ∷ d) (suc i) same = join-at c d i (omega arith)

none-agree : (n : ℕ) (c : Content) → Agree (none n) c
none-agree zero c = tt
none-agree (suc n) [] = tt
none-agree (suc n) (x ∷ c) = (tt, none-agree n c)

-- where the row isn't taken, both agree
pub one-agree : (n i : ℕ) (r : Reading) (c : Content) → get_or c i None ≡ None → Agree (one n i r) c
one-agree zero i r c free = tt
one-agree (suc n) zero r [] free = tt
one-agree (suc n) zero r (x ∷ c) free = (subst (AgreeAt (Some r)) (sym free) tt, none-agree n c)
one-agree (suc n) (suc i) r [] free = tt
one-agree (suc n) (suc i) r (x ∷ c) free = (tt, one-agree n i r c free)

-- where it is, it stays
pub join-taken : (n i : ℕ) (r : Reading) (c : Content) → length c ≡ n → is_some (get_or c i None) ≡ true
    → join c (one n i r) ≡ c
join-taken zero i r [] same there = refl
join-taken zero i r (x ∷ c) same there = absurd (omega arith)
join-taken (suc n) i r [] same there = absurd (omega arith)
join-taken (suc n) zero r (None ∷ c) same there = absurd cc
join-taken (suc n) zero r (Some x ∷ c) same there = ap (λ e. Some x ∷ e) (join-none n c (omega arith))
join-taken (suc n) (suc i) r (x ∷ c) same there =
    ap (λ s. s ∷ join c (one n i r)) (or_else-none x) ∙ ap (λ e. x ∷ e) (join-taken n i r c (omega arith) there)
