-- How often delete files are counted, each by its place.
use Rattle.std.proofs.Common.{◌≡◌, ◌<◌, ◌≤◌, ◌+◌, ℕ, zero, suc, Bool, true, false, cond, List, [], ◌∷◌, ◌++◌}
use Rattle.std.proofs.Common.{Some, add-one, refl, sym, ap, ◌∙◌, subst, arith, filter, length, take}
use Rattle.std.specs.Prelude.{get_or, option_map, replicate, set, slice_get, sum_by}
use Rattle.std.specs.List.{sum, AllByRecursion}
use Rattle.std.specs.Str.{bytes_eq}
use Rattle.std.proofs.lemmas.List.{append-nil, length-append, take_more}
use Rattle.std.proofs.lemmas.List.Concat.{flat_map-cons}
use Rattle.std.proofs.lemmas.List.Elements.{filter-append}
use Rattle.std.proofs.lemmas.Grind.{flat_map-append}
use Rattle.std.proofs.lemmas.List.Sums.{sum_by-cons, sum_by_more, sum_by-take-le}
use Rattle.ice_manifest_reading.specs.declared.entry.Entry.{Entry}
use Rattle.ice_state.specs.Lines.{AreWithin, IsLineWithin, entry_at, entries_at, line_at, lines_at}
use Rattle.ice_state.specs.PlaceLists.{LinePlaces}
use Rattle.icescan_explain.specs.Applying.{applied, named, named_in_line, times_at}

pub within_at : (n : ℕ) (places : List ℕ) (i : ℕ) → AreWithin n places → i < length places → get_or places i 0 < n
within_at n [] i h lt = absurd (omega (arith, lt))
within_at n (p ∷ ps) zero h lt = h.0
within_at n (p ∷ ps) (suc i) h lt = within_at n ps i h.1 (omega (arith, lt))

-- ---- one place more

module _ (q : List ℕ) where
  named_append : (xs ys : List Entry) → named q (xs ++ ys) ≡ named q xs + named q ys
  named_append xs ys = ap length (filter-append (λ (x : Entry). bytes_eq q x.file.path) xs ys)
      ∙ length-append (filter (λ (x : Entry). bytes_eq q x.file.path) xs)
      (filter (λ (x : Entry). bytes_eq q x.file.path) ys)

  at_front : (b : Bool) (d : Entry) (t w : ℕ) → cond b (t + 1) 0 + w ≡ (cond b t 0 + w) + length (cond b (d ∷ []) [])
  at_front true d t w = omega arith
  at_front false d t w = omega arith

  pub once_there : (ds : List Entry) (ts : List ℕ) (p : ℕ) → length ds ≡ length ts → p < length ts
      → times_at q ds (set ts p (get_or ts p 0 + 1)) ≡ times_at q ds ts + named q (entry_at ds p)
  once_there [] [] p same lt = absurd (omega (arith, lt))
  once_there [] (t ∷ ts) p same lt = absurd (omega (arith, same))
  once_there (d ∷ ds) [] p same lt = absurd (omega (arith, lt))
  once_there (d ∷ ds) (t ∷ ts) zero same lt = at_front (bytes_eq q d.file.path) d t (times_at q ds ts)
  once_there (d ∷ ds) (t ∷ ts) (suc p) same lt =
      let rest = once_there ds ts p (omega (arith, same)) (omega (arith, lt)) in
      ap (λ n. cond (bytes_eq q d.file.path) t 0 + n) rest ∙ omega arith

  pub named_so_far : (ds : List Entry) (ps : List ℕ) (i : ℕ) → i < length ps
      → named q (entries_at ds (take (i + 1) ps))
      ≡ named q (entries_at ds (take i ps)) + named q (entry_at ds (get_or ps i 0))
  named_so_far ds ps i lt =
      let p = get_or ps i 0 in
      ap (λ xs. named q (entries_at ds xs)) (take_more ps i 0 lt)
      ∙ ap (named q) (flat_map-append (entry_at ds) (take i ps) (p ∷ []))
      ∙ named_append (entries_at ds (take i ps)) (entries_at ds (p ∷ []))
      ∙ ap (λ xs. named q (entries_at ds (take i ps)) + named q xs)
      (flat_map-cons (entry_at ds) p [] ∙ append-nil (entry_at ds p))

  pub none_there : (ds : List Entry) (n : ℕ) → times_at q ds (replicate n 0) ≡ 0
  none_there [] n = refl
  none_there (d ∷ ds) zero = refl
  none_there (d ∷ ds) (suc n) = nothing (bytes_eq q d.file.path) (none_there ds n) where
    nothing : {w : ℕ} (b : Bool) → w ≡ 0 → cond b 0 0 + w ≡ 0
    nothing true e = omega (arith, e)
    nothing false e = omega (arith, e)

-- ---- one line more

-- how often the delete files at the places of a line have the path
abbrev pub named_at : List ℕ → List Entry → LinePlaces → ℕ
named_at q ds line = named q (entries_at ds line.positions) + named q (entries_at ds line.equalities)

pub planned : (q : List ℕ) (ds files : List Entry) (places : List LinePlaces) → length places ≡ length files
    → applied (lines_at ds files places) q ≡ sum_by (named_at q ds) places
planned q ds [] [] same = refl
planned q ds [] (p ∷ ps) same = absurd (omega (arith, same))
planned q ds (x ∷ xs) [] same = absurd (omega (arith, same))
planned q ds (x ∷ xs) (p ∷ ps) same =
    sum_by-cons (named_in_line q) (line_at ds x p) (lines_at ds xs ps)
    ∙ ap (λ n. named_at q ds p + n) (planned q ds xs ps (omega (arith, same)))
    ∙ sym (sum_by-cons (named_at q ds) p ps)

pub positions_within : (n : ℕ) (places : List LinePlaces) (i : ℕ) (ps : List ℕ)
    → AllByRecursion (IsLineWithin n) places
    → option_map (λ (line : LinePlaces). line.positions) (slice_get places i) ≡ Some ps → AreWithin n ps
positions_within n [] i ps h is = absurd cc
positions_within n (x ∷ xs) zero ps h is = let same : x.positions ≡ ps = cc in subst (AreWithin n) same h.0.0
positions_within n (x ∷ xs) (suc i) ps h is = positions_within n xs i ps h.1 is

pub equalities_within : (n : ℕ) (places : List LinePlaces) (i : ℕ) (es : List ℕ)
    → AllByRecursion (IsLineWithin n) places
    → option_map (λ (line : LinePlaces). line.equalities) (slice_get places i) ≡ Some es → AreWithin n es
equalities_within n [] i es h is = absurd cc
equalities_within n (x ∷ xs) zero es h is = let same : x.equalities ≡ es = cc in subst (AreWithin n) same h.0.1
equalities_within n (x ∷ xs) (suc i) es h is = equalities_within n xs i es h.1 is

line_there : (q : List ℕ) (ds : List Entry) (places : List LinePlaces) (i : ℕ) (ps es : List ℕ)
    → option_map (λ (line : LinePlaces). line.positions) (slice_get places i) ≡ Some ps
    → option_map (λ (line : LinePlaces). line.equalities) (slice_get places i) ≡ Some es
    → sum_by (named_at q ds) (take (suc i) places)
    ≡ sum_by (named_at q ds) (take i places) + (named q (entries_at ds ps) + named q (entries_at ds es))
line_there q ds [] i ps es is_ps is_es = absurd cc
line_there q ds (x ∷ xs) zero ps es is_ps is_es =
    let same_ps : x.positions ≡ ps = cc in
    let same_es : x.equalities ≡ es = cc in
    sum_by-cons (named_at q ds) x [] ∙ omega (
      arith,
      ap (λ ys. named q (entries_at ds ys)) same_ps,
      ap (λ ys. named q (entries_at ds ys)) same_es,
    )
line_there q ds (x ∷ xs) (suc i) ps es is_ps is_es =
    let rest = line_there q ds xs i ps es is_ps is_es in
    let more = sum_by-cons (named_at q ds) x (take (suc i) xs) in
    let less = sum_by-cons (named_at q ds) x (take i xs) in
    omega (arith, rest, more, less)

pub line_more : (q : List ℕ) (ds : List Entry) (places : List LinePlaces) (i : ℕ) (ps es : List ℕ)
    → option_map (λ (line : LinePlaces). line.positions) (slice_get places i) ≡ Some ps
    → option_map (λ (line : LinePlaces). line.equalities) (slice_get places i) ≡ Some es
    → sum_by (named_at q ds) (take (i + 1) places)
    ≡ sum_by (named_at q ds) (take i places) + (named q (entries_at ds ps) + named q (entries_at ds es))
line_more q ds places i ps es is_ps is_es =
    ap (λ n. sum_by (named_at q ds) (take n places)) (add-one i) ∙ line_there q ds places i ps es is_ps is_es

-- ---- one delete file more

times_there : (q : List ℕ) (ds : List Entry) (ts : List ℕ) (i : ℕ) (d : Entry) (t : ℕ)
    → length ds ≡ length ts → slice_get ds i ≡ Some d → t ≡ get_or ts i t → i < length ts
    → times_at q (take (suc i) ds) (take (suc i) ts)
    ≡ times_at q (take i ds) (take i ts) + cond (bytes_eq q d.file.path) t 0
times_there q [] ts i d t same is_d is_t lt = absurd (omega (arith, same, lt))
times_there q (x ∷ xs) [] i d t same is_d is_t lt = absurd (omega (arith, lt))
times_there q (x ∷ xs) (y ∷ ys) zero d t same is_d is_t lt =
    let is_x : x ≡ d = cc in
    ap (λ n. cond (bytes_eq q x.file.path) n 0 + 0) (sym is_t)
    ∙ ap (λ (e : Entry). cond (bytes_eq q e.file.path) t 0 + 0) is_x ∙ omega arith
times_there q (x ∷ xs) (y ∷ ys) (suc i) d t same is_d is_t lt =
    let rest = times_there q xs ys i d t (omega (arith, same)) is_d is_t (omega (arith, lt)) in
    ap (λ n. cond (bytes_eq q x.file.path) y 0 + n) rest ∙ omega arith

pub times_so_far : (q : List ℕ) (ds : List Entry) (ts : List ℕ) (i : ℕ) (d : Entry) (t : ℕ)
    → length ds ≡ length ts → slice_get ds i ≡ Some d → t ≡ get_or ts i t → i < length ts
    → times_at q (take (i + 1) ds) (take (i + 1) ts)
    ≡ times_at q (take i ds) (take i ts) + cond (bytes_eq q d.file.path) t 0
times_so_far q ds ts i d t same is_d is_t lt =
    ap (λ n. times_at q (take n ds) (take n ts)) (add-one i) ∙ times_there q ds ts i d t same is_d is_t lt

pub times_within : (q : List ℕ) (ds : List Entry) (ts : List ℕ) → times_at q ds ts ≤ sum ts
times_within q [] ts = omega arith
times_within q (d ∷ ds) [] = omega arith
times_within q (d ∷ ds) (t ∷ ts) =
    let all = sum_by-cons (λ x. x) t ts in
    let rest = times_within q ds ts in
    go (bytes_eq q d.file.path) all rest where
      go : (b : Bool) → sum (t ∷ ts) ≡ t + sum ts → times_at q ds ts ≤ sum ts → cond b t 0 + times_at q ds ts ≤ sum (t ∷ ts)
      go true all rest = omega (arith, all, rest)
      go false all rest = omega (arith, all, rest)

pub one_more_within : (q : List ℕ) (ds : List Entry) (ts : List ℕ) (i t : ℕ) → t ≡ get_or ts i t → i < length ts
    → times_at q (take i ds) (take i ts) + t ≤ sum ts
one_more_within q ds ts i t is_t lt =
    let so_far = times_within q (take i ds) (take i ts) in
    let more = sum_by_more (λ x. x) ts i t lt in
    let all = sum_by-take-le (λ x. x) ts (i + 1) in
    omega (arith, so_far, more, all, is_t)
