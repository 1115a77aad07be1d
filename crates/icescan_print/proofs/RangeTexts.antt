-- Lemmas on the texts of ranges of a list.
use Rattle.std.proofs.Common.{◌≡◌, ◌≤◌, ◌<◌, ◌+◌, ◌-◌, ◌*◌, add-one, ℕ, zero, suc, List, [], ◌∷◌, ◌++◌, arith, length, map}
use Rattle.std.proofs.Common.{take, drop, slice_get}
use Rattle.std.proofs.Common.{Option, get_or, subst, Some, refl, sym, ap, ◌∙◌, append_assoc, min, ◌⊎◌, inl, inr}
use Rattle.std.proofs.lemmas.Bool.{cases_lt}
use Rattle.std.specs.List.{concat, flat_map}
use Rattle.std.proofs.lemmas.List.Concat.{concat_is}
use Rattle.std.proofs.lemmas.List.Folds.{concat-append, flat_map-map}
use Rattle.std.proofs.lemmas.List.{append-nil, take_all, length-drop}
use Rattle.std.proofs.Math.Seq.{take-add}
use Rattle.std.proofs.Math.Nat.{mul-le-mul_right, suc-mul}
use Rattle.std.proofs.Math.ListN.{drop_of_length-le}
use Rattle.ice_state.specs.Lines.{OwnedLine}
use Rattle.icescan_print.specs.PlanTexts.{line_text}
use Rattle.icescan_print.specs.declared.by_workers.Draft.{Draft}
use Rattle.icescan_print.specs.Ranges.{AreTexts, IsDraftOf, range_text}

drop_drop : {X : Type 0} (xs : List X) (a n : ℕ) → drop n (drop a xs) ≡ drop (a + n) xs
drop_drop xs zero n = let e : n ≡ 0 + n = omega arith in ap (λ k. drop k xs) e
drop_drop [] (suc a) n = drop_of_length-le [] (omega arith) ∙ sym (drop_of_length-le [] (omega arith))
drop_drop (x ∷ xs) (suc a) n = let e : suc (a + n) ≡ suc a + n = omega arith in
    drop_drop xs a n ∙ ap (λ k. drop k (x ∷ xs)) e

-- the text of nothing
pub range_none : (ts : List (List ℕ)) (a : ℕ) → range_text ts a 0 ≡ []
range_none ts a = refl

-- so many texts, and then so many more
pub range_more : (ts : List (List ℕ)) (a n m : ℕ) → range_text ts a (n + m) ≡ range_text ts a n
    ++ range_text ts (a + n) m
range_more ts a n m = ap concat (take-add n m (drop a ts))
    ∙ concat-append (take n (drop a ts)) (take m (drop n (drop a ts)))
    ∙ ap (λ l. range_text ts a n ++ concat (take m l)) (drop_drop ts a n)

-- so many texts are those before a place and those from there on
pub range_cut : (ts : List (List ℕ)) (a n m : ℕ) → n ≤ m → range_text ts a m ≡ range_text ts a n
    ++ range_text ts (a + n) (m - n)
range_cut ts a n m l = let e : n + (m - n) ≡ m = omega (arith, l) in
    ap (range_text ts a) (sym e) ∙ range_more ts a n (m - n)

-- nothing is behind the last
pub range_same : (ts : List (List ℕ)) (a n m : ℕ) → length ts ≤ a + n → length ts ≤ a + m → range_text ts a n
    ≡ range_text ts a m
range_same ts a n m h k = ap concat (take_all n (drop a ts) (omega (arith, length-drop a ts, h))
    ∙ sym (take_all m (drop a ts) (omega (arith, length-drop a ts, k))))

pub range_all : (ts : List (List ℕ)) (n : ℕ) → length ts ≤ n → range_text ts 0 n ≡ concat ts
range_all ts n h = ap concat (take_all n ts h)

-- one text
range_one : (ts : List (List ℕ)) (i : ℕ) (t : List ℕ) → slice_get ts i ≡ Some t → range_text ts i 1 ≡ t
range_one [] i t h = absurd cc
range_one (x ∷ ts) zero t h = let e : x ≡ t = cc in rw e (append-nil t)
range_one (x ∷ ts) (suc i) t h = range_one ts i t h

-- one text more
pub range_next : (ts : List (List ℕ)) (a i : ℕ) (t : List ℕ) → a ≤ i → slice_get ts i ≡ Some t
    → range_text ts a (i + 1 - a) ≡ range_text ts a (i - a) ++ t
range_next ts a i t h is =
    let e : (i - a) + 1 ≡ i + 1 - a = omega (arith, h) in
    let f : a + (i - a) ≡ i = omega (arith, h) in
    ap (range_text ts a) (sym e) ∙ range_more ts a (i - a) 1
    ∙ ap (λ j. range_text ts a (i - a) ++ range_text ts j 1) f
    ∙ ap (λ l. range_text ts a (i - a) ++ l) (range_one ts i t is)

-- so many texts, cut at one of them
pub range_stop : (ts : List (List ℕ)) (a i m : ℕ) (t : List ℕ) → a ≤ i → i < a + m → slice_get ts i ≡ Some t
    → range_text ts a m ≡ range_text ts a (i - a) ++ (t ++ range_text ts (a + (i + 1 - a)) (m - (i + 1 - a)))
range_stop ts a i m t h k is = range_cut ts a (i + 1 - a) m (omega (arith, h, k))
    ∙ ap (λ l. l ++ range_text ts (a + (i + 1 - a)) (m - (i + 1 - a))) (range_next ts a i t h is)
    ∙ append_assoc (range_text ts a (i - a)) t (range_text ts (a + (i + 1 - a)) (m - (i + 1 - a)))

-- so many texts, or all that there are
pub range_end : (ts : List (List ℕ)) (a i m e : ℕ) → a ≤ i → i - a ≤ m → e ≤ i → e ≡ min (length ts) (a + m)
    → range_text ts a (i - a) ≡ range_text ts a m
range_end ts a i m e h k l is = go (cases_lt (i - a) m) where
  go : (i - a < m) ⊎ (m ≤ i - a) → range_text ts a (i - a) ≡ range_text ts a m
  go (inr ge) = let same : i - a ≡ m = omega (arith, k, ge) in ap (range_text ts a) same
  go (inl lt) = range_same ts a (i - a) m (omega (arith, h, l, is, lt)) (omega (arith, h, l, is, lt))

-- one range more, each of so many things
pub range_step : (ts : List (List ℕ)) (a i each : ℕ) → range_text ts a ((i + 1) * each) ≡ range_text ts a (i * each)
    ++ range_text ts (a + i * each) each
range_step ts a i each =
    let e : (i + 1) * each ≡ i * each + each = rw add-one (suc-mul i each) in
    ap (range_text ts a) e ∙ range_more ts a (i * each) each

-- so many ranges, cut at one of them
pub range_part : (ts : List (List ℕ)) (a i n each : ℕ) → i < n → range_text ts a (n * each)
    ≡ range_text ts a (i * each)
    ++ (range_text ts (a + i * each) each ++ range_text ts (a + (i + 1) * each) (n * each - (i + 1) * each))
range_part ts a i n each l =
    let le : i + 1 ≤ n = omega (arith, l) in
    range_cut ts a ((i + 1) * each) (n * each) (mul-le-mul_right each le)
    ∙ ap (λ t. t ++ range_text ts (a + (i + 1) * each) (n * each - (i + 1) * each)) (range_step ts a i each)
    ∙ append_assoc (range_text ts a (i * each)) (range_text ts (a + i * each) each)
    (range_text ts (a + (i + 1) * each) (n * each - (i + 1) * each))

-- the text of the line at a place
pub text_at : (lines : List OwnedLine) (i : ℕ) (line : OwnedLine) → slice_get lines i ≡ Some line
    → slice_get (map line_text lines) i ≡ Some (line_text line)
text_at [] i line h = absurd cc
text_at (l ∷ ls) zero line h = let e : l ≡ line = cc in ap (λ x. Some (line_text x)) e
text_at (l ∷ ls) (suc i) line h = text_at ls i line h

-- the texts of lines, one behind the other
pub lines_joined : (lines : List OwnedLine) → concat (map line_text lines) ≡ flat_map line_text lines
lines_joined lines = concat_is (map line_text lines) ∙ flat_map-map (λ t. t) line_text lines

-- a draft is of its range
pub draft_at : (ts : List (List ℕ)) (first each : ℕ) (drafts : List (Option Draft)) (i : ℕ) (found : Option Draft)
    → AreTexts ts first each drafts → i < length drafts → found ≡ get_or drafts i found
    → IsDraftOf found (range_text ts (first + i * each) each)
draft_at ts first each drafts i found are l at =
    subst (λ draft. IsDraftOf draft (range_text ts (first + i * each) each)) (sym at) (are i found l)

-- of ranges from the first thing on: one more
pub window_step : (ts : List (List ℕ)) (i each : ℕ) → range_text ts 0 ((i + 1) * each) ≡ range_text ts 0 (i * each)
    ++ range_text ts (i * each) each
window_step ts i each = let e : 0 + i * each ≡ i * each = omega arith in
    range_step ts 0 i each ∙ ap (λ j. range_text ts 0 (i * each) ++ range_text ts j each) e

-- and all texts, cut at one of them
pub window_part : (ts : List (List ℕ)) (i each : ℕ) → concat ts ≡ range_text ts 0 (i * each)
    ++ (range_text ts (i * each) each ++ range_text ts (0 + (i + 1) * each) (length ts))
window_part ts i each =
    let e : (i + 1) * each + length ts ≡ length ts + (i + 1) * each = omega arith in
    sym (range_all ts (length ts + (i + 1) * each) (omega arith))
    ∙ ap (range_text ts 0) (sym e)
    ∙ range_more ts 0 ((i + 1) * each) (length ts)
    ∙ ap (λ t. t ++ range_text ts (0 + (i + 1) * each) (length ts)) (window_step ts i each)
    ∙ append_assoc (range_text ts 0 (i * each)) (range_text ts (i * each) each)
    (range_text ts (0 + (i + 1) * each) (length ts))

-- a draft of one range, and those of the ranges behind it
pub texts_both : (ts : List (List ℕ)) (first each : ℕ) (ds es : List (Option Draft)) → length ds ≡ 1
    → AreTexts ts first each ds → AreTexts ts (first + each) each es → AreTexts ts first each (ds ++ es)
texts_both ts first each [] es one front back i d l = absurd (omega (arith, one))
texts_both ts first each (x ∷ y ∷ ds) es one front back i d l = absurd (omega (arith, one))
texts_both ts first each (x ∷ []) es one front back zero d l = front zero d (omega arith)
texts_both ts first each (x ∷ []) es one front back (suc i) d l =
    let far : first + each + i * each ≡ first + suc i * each = omega (arith, suc-mul i each) in
    subst (λ (n : ℕ). IsDraftOf (get_or es i d) (range_text ts n each)) far (back i d (omega (arith, l)))
