-- Lines whose places stand in one list.
use Rattle.std.proofs.Common.{◌≡◌, ℕ, zero, suc, ◌≤◌, ◌<◌, List, [], ◌∷◌, ◌++◌, length, get_or, take, drop, Some, refl}
use Rattle.std.proofs.Common.{sym, ap, subst, ◌∙◌, ◌+◌, arith, length-append, option_map, replicate}
use Rattle.std.proofs.lemmas.List.{length-take, length-take-le, take-take, take_all, take_at, drop_at}
use Rattle.std.proofs.lemmas.Slice.{between_is, between_to_end}
use Rattle.std.specs.List.{slice_get, slice_range}
use Rattle.ice_state.specs.declared.plan.places.Ends.{Ends}
use Rattle.ice_state.specs.PlaceLists.{LinePlaces, line_from, lines_from, no_places, RiseWithin, end_of}
use Rattle.ice_state.specs.PlaceLists.{IsInOrder, GainsInOrder, GainsLine}

-- ---- one line among them

pub length-lines_from : (s : ℕ) (es : List Ends) (ps : List ℕ) → length (lines_from s es ps) ≡ length es
length-lines_from s [] ps = refl
length-lines_from s (e ∷ es) ps = ap suc (length-lines_from e.equalities es ps)

pub lines_from-get : (s : ℕ) (es : List Ends) (ps : List ℕ) (i : ℕ) (d : Ends) → i < length es
    → slice_get (lines_from s es ps) i ≡ Some (line_from (end_of s (take i es)) (get_or es i d) ps)
lines_from-get s [] ps i d l = absurd (omega arith)
lines_from-get s (e ∷ es) ps zero d l = refl
lines_from-get s (e ∷ es) ps (suc i) d l = lines_from-get e.equalities es ps i d (omega arith)

-- a line starts where the one before it ends
pub end_of-more : (s : ℕ) (es : List Ends) (k : ℕ) (d : Ends) → k < length es
    → end_of s (take (suc k) es) ≡ (get_or es k d).equalities
end_of-more s [] k d l = absurd (omega arith)
end_of-more s (e ∷ es) zero d l = refl
end_of-more s (e ∷ es) (suc k) d l = end_of-more e.equalities es k d (omega arith)

-- the line whose parts these are
pub line_of_parts : (lines : List LinePlaces) (i : ℕ) (positions equalities : List ℕ)
    → option_map (λ (line : LinePlaces). line.positions) (slice_get lines i) ≡ Some positions
    → option_map (λ (line : LinePlaces). line.equalities) (slice_get lines i) ≡ Some equalities
    → slice_get lines i ≡ Some record { positions = positions; equalities = equalities }
line_of_parts [] i positions equalities h k = cc
line_of_parts (line ∷ lines) zero positions equalities h k =
    let first : line.positions ≡ positions = cc in
    let second : line.equalities ≡ equalities = cc in
    ap (λ (ps : List ℕ). Some record { positions = ps; equalities = line.equalities }) first
    ∙ ap (λ (ps : List ℕ). Some record { positions = positions; equalities = ps }) second
line_of_parts (line ∷ lines) (suc i) positions equalities h k = line_of_parts lines i positions equalities h k

-- ---- ends that rise

end_within : (n s : ℕ) (es : List Ends) → RiseWithin n s es → (s ≤ end_of s es) × (end_of s es ≤ n)
end_within n s [] h = (omega arith, h)
end_within n s (e ∷ es) h = let rest = end_within n e.equalities es h.2 in (omega (arith, h.0, h.1, rest.0), rest.1)

pub end_of-within : (n s : ℕ) (es : List Ends) → RiseWithin n s es → end_of s es ≤ n
end_of-within n s es h = (end_within n s es h).1

line_rises : (n s : ℕ) (es : List Ends) (i : ℕ) (d : Ends) → RiseWithin n s es → i < length es
    → (end_of s (take i es) ≤ (get_or es i d).positions) × ((get_or es i d).positions ≤ (get_or es i d).equalities)
    × ((get_or es i d).equalities ≤ n)
line_rises n s [] i d h l = absurd (omega arith)
line_rises n s (e ∷ es) zero d h l =
    let rest = end_within n e.equalities es h.2 in (h.0, h.1, omega (arith, rest.0, rest.1))
line_rises n s (e ∷ es) (suc i) d h l = line_rises n e.equalities es i d h.2 (omega arith)

-- a line of the table has its ends
pub has_ends : (es : List Ends) (ps : List ℕ) (lines : List LinePlaces) (i : ℕ) → lines_from 0 es ps ≡ lines
    → i < length lines → i < length es
has_ends es ps lines i is l = omega (arith, l, ap length is, length-lines_from 0 es ps)

-- these are the ends of the table's line i: it stands within the list
pub record StandsAt (es : List Ends) (ps : List ℕ) (lines : List LinePlaces) (i : ℕ) (e : Ends) : Type 0 where
  pub first : end_of 0 (take i es) ≤ e.positions
  pub second : e.positions ≤ e.equalities
  pub within : e.equalities ≤ length ps
  pub line : slice_get lines i ≡ Some (line_from (end_of 0 (take i es)) e ps)

pub stands_at : (es : List Ends) (ps : List ℕ) (lines : List LinePlaces) (i : ℕ) (e : Ends) → lines_from 0 es ps ≡ lines
    → RiseWithin (length ps) 0 es → i < length lines → e ≡ get_or es i e → StandsAt es ps lines i e
stands_at es ps lines i e is h l at =
    let inside = has_ends es ps lines i is l in
    let rises = line_rises (length ps) 0 es i e h inside in
    record {
      first = subst (λ (x : Ends). end_of 0 (take i es) ≤ x.positions) (sym at) rises.0;
      second = subst (λ (x : Ends). x.positions ≤ x.equalities) (sym at) rises.1;
      within = subst (λ (x : Ends). x.equalities ≤ length ps) (sym at) rises.2;
      line = ap (λ (ls : List LinePlaces). slice_get ls i) (sym is) ∙ lines_from-get 0 es ps i e inside
          ∙ ap (λ (x : Ends). Some (line_from (end_of 0 (take i es)) x ps)) (sym at);
    }

rise_to : (n m s : ℕ) (es : List Ends) → RiseWithin n s es → end_of s es ≤ m → RiseWithin m s es
rise_to n m s [] h l = l
rise_to n m s (e ∷ es) h l = (h.0, h.1, rise_to n m e.equalities es h.2 l)

rise-push : (n m s : ℕ) (es : List Ends) (e : Ends) → RiseWithin n s es → end_of s es ≤ e.positions
    → e.positions ≤ e.equalities → e.equalities ≤ m → RiseWithin m s (es ++ e ∷ [])
rise-push n m s [] e h a b c = (a, b, c)
rise-push n m s (x ∷ xs) e h a b c = (h.0, h.1, rise-push n m x.equalities xs e h.2 a b c)

-- ---- what stands behind the last end doesn't matter

range_kept : (ps qs : List ℕ) (m i j : ℕ) → j ≤ m → take m ps ≡ take m qs → slice_range ps i j ≡ slice_range qs i j
range_kept ps qs m i j l same =
    between_is ps i j
    ∙ ap (drop i) (sym (take-take j m ps l) ∙ ap (take j) same ∙ take-take j m qs l)
    ∙ sym (between_is qs i j)

lines_kept : (n s : ℕ) (es : List Ends) (ps qs : List ℕ) → RiseWithin n s es
    → take (end_of s es) ps ≡ take (end_of s es) qs → lines_from s es ps ≡ lines_from s es qs
lines_kept n s [] ps qs h same = refl
lines_kept n s (e ∷ es) ps qs h same =
    let end = end_within n e.equalities es h.2 in
    let m = end_of e.equalities es in
    rw (
      range_kept ps qs m s e.positions (omega (arith, h.1, end.0)) same,
      range_kept ps qs m e.positions e.equalities end.0 same,
      lines_kept n e.equalities es ps qs h.2 same,
    ) refl

-- the lines of ps, in another list
pub record KeepsLines (es : List Ends) (ps qs : List ℕ) : Type 0 where
  pub rise : RiseWithin (length qs) 0 es
  pub same : lines_from 0 es qs ≡ lines_from 0 es ps

length-front : (m : ℕ) (ps front : List ℕ) → m ≤ length ps → front ≡ take m ps → length front ≡ m
length-front m ps front l is = ap length is ∙ length-take-le m ps l

-- they stand in a list that begins as ps does up to the last end
pub keeps_lines : (es : List Ends) (ps front qs : List ℕ) → RiseWithin (length ps) 0 es → front ≡ take (end_of 0 es) ps
    → take (length front) qs ≡ front → KeepsLines es ps qs
keeps_lines es ps front qs h is begins =
    let m = end_of 0 es in
    let l : length front ≡ m = length-front m ps front (end_of-within (length ps) 0 es h) is in
    let same : take m qs ≡ take m ps = ap (λ k. take k qs) (sym l) ∙ begins ∙ is in
    let long : m ≤ length qs = omega (
      arith,
      length-take m qs,
      ap length same,
      length-take m ps,
      end_of-within (length ps) 0 es h,
    ) in
    record {
      rise = rise_to (length ps) (length qs) 0 es h long;
      same = lines_kept (length qs) 0 es qs ps (rise_to (length ps) (length qs) 0 es h long) same;
    }

-- what begins as a longer list does, begins as the shorter one
pub begins_shorter : (front long part qs : List ℕ) → long ≡ front ++ part → take (length long) qs ≡ long
    → take (length front) qs ≡ front
begins_shorter front long part qs is begins =
    let l : length front ≤ length long = omega (arith, ap length is, length-append front part) in
    sym (take-take (length front) (length long) qs l)
    ∙ ap (take (length front)) begins
    ∙ ap (take (length front)) is
    ∙ take_at front part (length front) refl

-- ---- one line more

lines_from-push : (s : ℕ) (es : List Ends) (e : Ends) (ps : List ℕ)
    → lines_from s (es ++ e ∷ []) ps ≡ lines_from s es ps ++ line_from (end_of s es) e ps ∷ []
lines_from-push s [] e ps = refl
lines_from-push s (x ∷ xs) e ps = ap (λ ls. line_from s x ps ∷ ls) (lines_from-push x.equalities xs e ps)

last_part : (front part qs : List ℕ) → qs ≡ front ++ part → slice_range qs (length front) (length qs) ≡ part
last_part front part qs is =
    between_to_end qs (length front) (length qs) (omega arith)
    ∙ ap (drop (length front)) is
    ∙ drop_at front part (length front) refl

first_part : (front part more long qs : List ℕ) → long ≡ front ++ part → qs ≡ long ++ more
    → slice_range qs (length front) (length long) ≡ part
first_part front part more long qs first rest =
    between_is qs (length front) (length long)
    ∙ ap (λ (xs : List ℕ). drop (length front) (take (length long) xs)) rest
    ∙ ap (drop (length front)) (take_at long more (length long) refl ∙ first)
    ∙ drop_at front part (length front) refl

-- the table with these ends and this list has one line more
pub record HasLineMore (es fs : List Ends) (ps qs of_positions of_equalities : List ℕ) : Type 0 where
  pub rise : RiseWithin (length qs) 0 fs
  pub gains : GainsLine (lines_from 0 es ps) (lines_from 0 fs qs) of_positions of_equalities

line_added : (es : List Ends) (ps front long qs of_positions of_equalities : List ℕ) → RiseWithin (length ps) 0 es
    → front ≡ take (end_of 0 es) ps → GainsInOrder front long of_positions → GainsInOrder long qs of_equalities
    → HasLineMore es (es ++ record { positions = length long; equalities = length qs } ∷ []) ps qs of_positions
    of_equalities
line_added es ps front long qs of_positions of_equalities h is first rest =
    let m = end_of 0 es in
    let e : Ends = record { positions = length long; equalities = length qs } in
    let l : length front ≡ m = length-front m ps front (end_of-within (length ps) 0 es h) is in
    let longer : length long ≡ length front + length first.part = ap length first.added
    ∙ length-append front first.part in
    let longest : length qs ≡ length long + length rest.part = ap length rest.added ∙ length-append long rest.part in
    let begins : take (length long) qs ≡ long = ap (take (length long)) rest.added
    ∙ take_at long rest.part (length long) refl in
    let kept = keeps_lines es ps front qs h is (begins_shorter front long first.part qs first.added begins) in
    let positions : slice_range qs m (length long) ≡ first.part =
    ap (λ (k : ℕ). slice_range qs k (length long)) (sym l) ∙ first_part front first.part rest.part long qs first.added
    rest.added in
    let equalities : slice_range qs (length long) (length qs) ≡ rest.part = last_part long rest.part qs rest.added in
    let line : line_from m e qs ≡ record { positions = first.part; equalities = rest.part } =
    ap (λ (xs : List ℕ). record { positions = xs; equalities = slice_range qs (length long) (length qs) }) positions
    ∙ ap (λ (xs : List ℕ). record { positions = first.part; equalities = xs }) equalities in
    record {
      rise = rise-push (length qs) (length qs) 0 es e kept.rise (omega (arith, l, longer)) (omega (arith, longest))
          (omega arith);
      gains = record {
        line = record { positions = first.part; equalities = rest.part };
        added = lines_from-push 0 es e qs ∙ ap (λ ls. ls ++ line_from m e qs ∷ []) kept.same
            ∙ ap (λ x. lines_from 0 es ps ++ x ∷ []) line;
        positions = first.ordered;
        equalities = rest.ordered;
      };
    }

pub has_line_more : (es fs : List Ends) (ps front long qs of_positions of_equalities : List ℕ) (n m : ℕ)
    → RiseWithin (length ps) 0 es → front ≡ take (end_of 0 es) ps → GainsInOrder front long of_positions
    → GainsInOrder long qs of_equalities → n ≡ length long → m ≡ length qs
    → fs ≡ es ++ record { positions = n; equalities = m } ∷ [] → HasLineMore es fs ps qs of_positions of_equalities
has_line_more es fs ps front long qs of_positions of_equalities n m h is first rest first_end last_end added =
    let ends : fs ≡ es ++ record { positions = length long; equalities = length qs } ∷ [] =
    added ∙ ap (λ (k : ℕ). es ++ record { positions = k; equalities = m } ∷ []) first_end
    ∙ ap (λ (k : ℕ). es ++ record { positions = length long; equalities = k } ∷ []) last_end in
    subst (λ (gs : List Ends). HasLineMore es gs ps qs of_positions of_equalities) (sym ends)
    (line_added es ps front long qs of_positions of_equalities h is first rest)

-- what is left of the list where the next line starts
pub front_is : (es fs : List Ends) (ps front : List ℕ) (n start : ℕ) → fs ≡ es → length es ≤ n
    → start ≡ end_of 0 (take n fs) → front ≡ take start ps → front ≡ take (end_of 0 es) ps
front_is es fs ps front n start same l starts is =
    is
    ∙ ap (λ (k : ℕ). take k ps) (starts ∙ ap (λ (gs : List Ends). end_of 0 (take n gs)) same
    ∙ ap (end_of 0) (take_all n es l))

-- the line that is gained, where any list with the numbers of a part in order is one known list
pub gained_line : (old new : List LinePlaces) (of_positions of_equalities positions equalities : List ℕ)
    → ((ps : List ℕ) → IsInOrder of_positions ps → ps ≡ positions)
    → ((ps : List ℕ) → IsInOrder of_equalities ps → ps ≡ equalities)
    → GainsLine old new of_positions of_equalities
    → new ≡ old ++ record { positions = positions; equalities = equalities } ∷ []
gained_line old new of_positions of_equalities positions equalities one other gains =
    gains.added
    ∙ ap (λ (ps : List ℕ). old ++ record { positions = ps; equalities = gains.line.equalities } ∷ [])
    (one gains.line.positions gains.positions)
    ∙ ap (λ (ps : List ℕ). old ++ record { positions = positions; equalities = ps } ∷ [])
    (other gains.line.equalities gains.equalities)

-- ---- lines without places

abbrev pub no_ends : ℕ → List Ends
no_ends n = replicate n (record { positions = 0; equalities = 0 })

pub no_rise : (m n : ℕ) → RiseWithin m 0 (no_ends n)
no_rise m zero = omega arith
no_rise m (suc n) = (omega arith, omega arith, no_rise m n)

pub no_lines : (n : ℕ) → lines_from 0 (no_ends n) [] ≡ replicate n no_places
no_lines zero = refl
no_lines (suc n) = ap (λ ls. no_places ∷ ls) (no_lines n)
