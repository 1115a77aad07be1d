-- What a merge adds.
use Rattle.std.proofs.Common.{◌≡◌, ◌<◌, ◌≤◌, ℕ, zero, suc, List, [], ◌∷◌, ◌++◌, refl, sym, ap, ◌∙◌, Bool, true, false}
use Rattle.std.proofs.Common.{length, get_or, drop, arith, Option, Some, None, is_some, ◌&&◌}
use Rattle.ice_state.specs.Readings.{Reading}
use Rattle.ice_state.specs.Contents.{Content, World, content, or_else, with_row}
use Rattle.ice_state.specs.Joins.{join, either, IsNoGain, TookAllOf}
use Rattle.ice_state.specs.Parts.{gain_of, gains, is_gain, IsApart, AreApart}
use Rattle.ice_state.specs.Scans.{Scanned}
use Rattle.ice_state.proofs.Joins.{join-content}

pub join-nil : (cs : Content) → join cs [] ≡ cs
join-nil [] = refl
join-nil (c ∷ cs) = refl

-- what is gained makes the union
pub join-gains : (cs ds : Content) → length cs ≡ length ds → join cs (gains cs ds) ≡ join cs ds
join-gains [] [] h = refl
join-gains [] (d ∷ ds) h = absurd (omega arith)
join-gains (c ∷ cs) [] h = absurd (omega arith)
join-gains (Some r ∷ cs) (d ∷ ds) h = ap (λ x. Some r ∷ x) (join-gains cs ds (omega arith))
join-gains (None ∷ cs) (Some r ∷ ds) h = ap (λ x. Some r ∷ x) (join-gains cs ds (omega arith))
join-gains (None ∷ cs) (None ∷ ds) h = ap (λ x. None ∷ x) (join-gains cs ds (omega arith))

-- the last of what is left to add
join-last : (cs ds : Content) (r : Reading) → length ds < length cs
    → join (with_row cs (length ds) r) ds ≡ join cs (ds ++ Some r ∷ [])
join-last [] ds r h = absurd (omega arith)
join-last (c ∷ cs) [] r h = ap (λ x. or_else c (Some r) ∷ x) (sym (join-nil cs))
join-last (c ∷ cs) (d ∷ ds) r h = ap (λ x. or_else c d ∷ x) (join-last cs ds r (omega arith))

join-last_none : (cs ds : Content) → length ds < length cs → join cs ds ≡ join cs (ds ++ None ∷ [])
join-last_none [] ds h = absurd (omega arith)
join-last_none (Some r ∷ cs) [] h = ap (λ x. Some r ∷ x) (sym (join-nil cs))
join-last_none (None ∷ cs) [] h = ap (λ x. None ∷ x) (sym (join-nil cs))
join-last_none (c ∷ cs) (d ∷ ds) h = ap (λ x. or_else c d ∷ x) (join-last_none cs ds (omega arith))

pub put_last : (cs ds es new : Content) (s : Option Reading) (r : Reading) (n : ℕ) → new ≡ with_row cs n r
    → n ≡ length ds → s ≡ Some r → es ≡ ds ++ s ∷ [] → length ds < length cs → join new ds ≡ join cs es
put_last cs ds es new s r n put at is gone fits = rw (put, at, gone, is) (join-last cs ds r fits)

pub put_none : (cs ds es : Content) (s : Option Reading) → s ≡ None → es ≡ ds ++ s ∷ [] → length ds < length cs
    → join cs ds ≡ join cs es
put_none cs ds es s is gone fits = rw (gone, is) (join-last_none cs ds fits)

pub put_done : (cs ds es : Content) → es ≡ ds ++ [] → length ds ≡ 0 → join cs es ≡ cs
put_done cs [] es h l = rw h (join-nil cs)
put_done cs (d ∷ ds) es h l = absurd (omega arith)

pub length-gains : (cs ds : Content) → length (gains cs ds) ≤ length cs
length-gains [] ds = omega arith
length-gains (c ∷ cs) [] = omega arith
length-gains (c ∷ cs) (d ∷ ds) = omega (arith, length-gains cs ds)

pub length-gains_same : (cs ds : Content) → length cs ≡ length ds → length (gains cs ds) ≡ length cs
length-gains_same [] ds same = refl
length-gains_same (c ∷ cs) [] same = absurd (omega arith)
length-gains_same (c ∷ cs) (d ∷ ds) same = ap suc (length-gains_same cs ds (omega arith))

pub length-with_row : (c : Content) (i : ℕ) (r : Reading) → length (with_row c i r) ≡ length c
length-with_row [] i r = refl
length-with_row (s ∷ ss) zero r = refl
length-with_row (s ∷ ss) (suc i) r = ap suc (length-with_row ss i r)

pub length-join : (cs ds : Content) → length cs ≡ length ds → length (join cs ds) ≡ length cs
length-join [] [] h = refl
length-join [] (d ∷ ds) h = absurd (omega arith)
length-join (c ∷ cs) [] h = refl
length-join (c ∷ cs) (d ∷ ds) h = ap suc (length-join cs ds (omega arith))

-- nothing is gained of a state whose rows are all taken
pub join-known : (cs ds : Content) → length cs ≡ length ds → TookAllOf cs ds → join cs ds ≡ cs
join-known [] [] l h = refl
join-known [] (d ∷ ds) l h = absurd (omega arith)
join-known (c ∷ cs) [] l h = refl
join-known (Some r ∷ cs) (d ∷ ds) l h = ap (λ x. Some r ∷ x) (join-known cs ds (omega arith) h.1)
join-known (None ∷ cs) (None ∷ ds) l h = ap (λ x. None ∷ x) (join-known cs ds (omega arith) h.1)
join-known (None ∷ cs) (Some r ∷ ds) l h = absurd h.0

-- of the rows from place i on
pub gain_at : (cs ds : Content) (i : ℕ) (c d : Option Reading) → i < length cs → i < length ds → c ≡ get_or cs i c
    → d ≡ get_or ds i d → is_gain c d ≡ true → TookAllOf cs ds → ⊥
gain_at [] ds i c d l m h k g all = absurd (omega arith)
gain_at (x ∷ cs) [] i c d l m h k g all = absurd (omega arith)
gain_at (None ∷ cs) (Some r ∷ ds) zero c d l m h k g all = all.0
gain_at (None ∷ cs) (None ∷ ds) zero c d l m h k g all = let e : true ≡ false = sym g ∙ ap (is_gain c) k ∙ ap
    (λ x. is_gain x None) h in cc
gain_at (Some r ∷ cs) (y ∷ ds) zero c d l m h k g all = let e : true ≡ false = sym g ∙ ap (λ x. is_gain x d) h in cc
gain_at (x ∷ cs) (y ∷ ds) (suc i) c d l m h k g all = gain_at cs ds i c d (omega arith) (omega arith) h k g all.1

no_gain : (c d : Option Reading) → is_gain c d ≡ false → IsNoGain c d
no_gain None (Some r) h = cc
no_gain None None h = tt
no_gain (Some r) d h = tt

pub all_step : (cs ds : Content) (i : ℕ) (c d : Option Reading) → i < length cs → i < length ds → c ≡ get_or cs i c
    → d ≡ get_or ds i d → is_gain c d ≡ false → TookAllOf (drop (suc i) cs) (drop (suc i) ds)
    → TookAllOf (drop i cs) (drop i ds)
all_step [] ds i c d l m h k g all = absurd (omega arith)
all_step (x ∷ cs) [] i c d l m h k g all = absurd (omega arith)
all_step (x ∷ cs) (y ∷ ds) zero c d l m h k g all = (
  no_gain x y (ap (λ z. is_gain z y) (sym h) ∙ ap (is_gain c) (sym k)
      ∙ g),
  all,
)
all_step (x ∷ cs) (y ∷ ds) (suc i) c d l m h k g all = all_step cs ds i c d (omega arith) (omega arith) h k g all

pub join-in_world : (world : World) (scan : Scanned) (ts us : List Bool) (old other new : Content)
    → new ≡ join old other → old ≡ content world scan ts → other ≡ content world scan us
    → new ≡ content world scan (either ts us)
join-in_world world scan ts us old other new step is is' = step ∙ ap (λ c. join c other) is ∙ ap
    (λ c. join (content world scan ts) c) is' ∙ join-content world scan ts us scan.wanted

-- ---- from place i on

pub gains-step : (cs ds : Content) (i : ℕ) (c d : Option Reading) → i < length cs → i < length ds → c ≡ get_or cs i c
    → d ≡ get_or ds i d
    → gains (drop i cs) (drop i ds) ≡ gain_of c d ∷ gains (drop (suc i) cs) (drop (suc i) ds)
gains-step [] ds i c d l m h k = absurd (omega arith)
gains-step (x ∷ xs) [] i c d l m h k = absurd (omega arith)
gains-step (x ∷ xs) (y ∷ ys) zero c d l m h k = rw (h, k) refl
gains-step (x ∷ xs) (y ∷ ys) (suc i) c d l m h k = gains-step xs ys i c d (omega arith) (omega arith) h k

pub behind-nothing : {X : Type 0} (xs ys : List X) → ys ≡ [] → xs ++ ys ≡ xs
behind-nothing [] ys none = none
behind-nothing (x ∷ xs) ys none = ap (λ zs. x ∷ zs) (behind-nothing xs ys none)

pub nothing-before : {X : Type 0} (ds es : List X) → es ≡ ds ++ [] → length ds ≡ 0 → es ≡ []
nothing-before [] es h l = h
nothing-before (d ∷ ds) es h l = absurd (omega arith)

pub gains-end : (cs ds : Content) (i : ℕ) → length cs ≤ i → gains (drop i cs) ds ≡ []
gains-end [] ds zero l = refl
gains-end [] ds (suc i) l = refl
gains-end (c ∷ cs) ds zero l = absurd (omega arith)
gains-end (c ∷ cs) ds (suc i) l = gains-end cs ds i (omega arith)

pub all-end : (cs ds : Content) (i : ℕ) → length cs ≤ i → TookAllOf (drop i cs) ds
all-end [] ds zero l = tt
all-end [] ds (suc i) l = tt
all-end (c ∷ cs) ds zero l = absurd (omega arith)
all-end (c ∷ cs) ds (suc i) l = all-end cs ds i (omega arith)

-- ---- no row in both

apart_here : (c d : Option Reading) → (is_some c && is_some d) ≡ false → IsApart c d
apart_here None d h = tt
apart_here (Some r) None h = tt
apart_here (Some r) (Some q) h = cc

both_here : (c d : Option Reading) → (is_some c && is_some d) ≡ true → IsApart c d → ⊥
both_here None d both apart = cc
both_here (Some r) None both apart = cc
both_here (Some r) (Some q) both apart = apart

pub apart-step : (cs ds : Content) (i : ℕ) (c d : Option Reading) → i < length cs → i < length ds → c ≡ get_or cs i c
    → d ≡ get_or ds i d → (is_some c && is_some d) ≡ false → AreApart (drop (suc i) cs) (drop (suc i) ds)
    → AreApart (drop i cs) (drop i ds)
apart-step [] ds i c d l m h k apart rest = absurd (omega arith)
apart-step (x ∷ xs) [] i c d l m h k apart rest = absurd (omega arith)
apart-step (x ∷ xs) (y ∷ ys) zero c d l m h k apart rest = (apart_here x y (rw (← h, ← k) apart), rest)
apart-step (x ∷ xs) (y ∷ ys) (suc i) c d l m h k apart rest = apart-step xs ys i c d (omega arith)
    (omega arith) h k apart rest

-- a row that is taken in both
pub both_at : (cs ds : Content) (i : ℕ) (c d : Option Reading) → i < length cs → i < length ds → c ≡ get_or cs i c
    → d ≡ get_or ds i d → (is_some c && is_some d) ≡ true → AreApart cs ds → ⊥
both_at [] ds i c d l m h k both apart = absurd (omega arith)
both_at (x ∷ cs) [] i c d l m h k both apart = absurd (omega arith)
both_at (x ∷ cs) (y ∷ ds) zero c d l m h k both apart = both_here x y (rw (← h, ← k) both) apart.0
both_at (x ∷ cs) (y ∷ ds) (suc i) c d l m h k both apart =
    both_at cs ds i c d (omega arith) (omega arith) h k both apart.1

pub apart-end : (cs ds : Content) (i : ℕ) → length cs ≤ i → AreApart (drop i cs) ds
apart-end [] ds zero l = tt
apart-end [] ds (suc i) l = tt
apart-end (c ∷ cs) ds zero l = absurd (omega arith)
apart-end (c ∷ cs) ds (suc i) l = apart-end cs ds i (omega arith)
