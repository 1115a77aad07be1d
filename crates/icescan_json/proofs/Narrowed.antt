-- A plan of the named delete files alone is the same plan.
use Rattle.std.proofs.Common.{◌≡◌, ◌<◌, ◌⊎◌, inl, inr, ⊎_elim, ℕ, zero, suc, Bool, true, false, List, [], ◌∷◌, ◌++◌}
use Rattle.std.proofs.Common.{Some, arith, refl, sym, ap, ap₂, ◌∙◌, subst, length, map}
use Rattle.std.proofs.Common.{zero-lt-suc, suc-le-suc, le_of_suc-le-suc}
use Rattle.std.specs.Prelude.{Any, Contains, replicate, set, slice_get}
use Rattle.std.specs.List.{AllByRecursion}
use Rattle.std.proofs.lemmas.List.{length-map, length-replicate, length-set, map-append}
use Rattle.std.proofs.lemmas.List.Concat.{flat_map-cons}
use Rattle.std.proofs.lemmas.List.Elements.{Contains-append_left, Contains-append_right}
use Rattle.serde_json.specs.Data.{Data}
use Rattle.serde_json.specs.Written.{compact_text}
use Rattle.ice_manifest_reading.specs.declared.entry.Entry.{Entry}
use Rattle.ice_state.specs.Lines.{AreWithin, IsLineWithin, OwnedLine, entry_at, entries_at, lines_at}
use Rattle.ice_state.specs.PlaceLists.{LinePlaces}
use Rattle.ice_state.specs.PlacedFiles.{ArePlaced, PlanPlaces, plan_of}
use Rattle.icescan_json.specs.Named.{AreNamed, RefersTo, marked, marks_of, moved, narrowed, rank}
use Rattle.icescan_json.specs.Named.{with_lines, with_marks}
use Rattle.icescan_json.specs.Texts.{plan_text, IsJsonOf}
use Rattle.icescan_json.specs.declared.types.SpecTypes.{SpecTypes}
use Rattle.icescan_json.proofs.Objects.{plan_is}
use Rattle.icescan_json.proofs.Marks.{length_marks, length_marks_of}

abbrev IsMarked : List Bool → ℕ → Type 0
IsMarked marks n = slice_get marks n ≡ Some true

abbrev IsLineMarked : List Bool → LinePlaces → Type 0
IsLineMarked marks line =
    AllByRecursion (IsMarked marks) line.positions × AllByRecursion (IsMarked marks) line.equalities

all_weaker : {X : Type 0} (P Q : X → Type 0) (xs : List X) → ((x : X) → P x → Q x) → AllByRecursion P xs
    → AllByRecursion Q xs
all_weaker P Q [] weaker all = tt
all_weaker P Q (x ∷ xs) weaker all = (weaker x all.0, all_weaker P Q xs weaker all.1)

-- ---- what is marked

set_same : (marks : List Bool) (n : ℕ) → n < length marks → IsMarked (set marks n true) n
set_same [] n l = absurd (omega (arith, l))
set_same (mark ∷ marks) zero l = refl
set_same (mark ∷ marks) (suc n) l = set_same marks n (omega (arith, l))

set_still : (marks : List Bool) (n m : ℕ) → IsMarked marks m → IsMarked (set marks n true) m
set_still [] n m is = absurd cc
set_still (mark ∷ marks) zero zero is = refl
set_still (mark ∷ marks) zero (suc m) is = is
set_still (mark ∷ marks) (suc n) zero is = is
set_still (mark ∷ marks) (suc n) (suc m) is = set_still marks n m is

set_else : (marks : List Bool) (n m : ℕ) → IsMarked (set marks n true) m → (n ≡ m) ⊎ IsMarked marks m
set_else [] n m is = absurd cc
set_else (mark ∷ marks) zero zero is = inl refl
set_else (mark ∷ marks) zero (suc m) is = inr is
set_else (mark ∷ marks) (suc n) zero is = inr is
set_else (mark ∷ marks) (suc n) (suc m) is =
    ⊎_elim (λ e. inl (ap suc e)) (λ other. inr other) (set_else marks n m is)

marks_still : (ns : List ℕ) (marks : List Bool) (m : ℕ) → IsMarked marks m → IsMarked (with_marks ns marks) m
marks_still [] marks m is = is
marks_still (n ∷ ns) marks m is = marks_still ns (set marks n true) m (set_still marks n m is)

lines_still : (lines : List LinePlaces) (marks : List Bool) (m : ℕ) → IsMarked marks m
    → IsMarked (with_lines lines marks) m
lines_still [] marks m is = is
lines_still (line ∷ lines) marks m is =
    lines_still lines (with_marks line.equalities (with_marks line.positions marks)) m
    (marks_still line.equalities (with_marks line.positions marks) m (marks_still line.positions marks m is))

all_marked : (ns : List ℕ) (marks : List Bool) → AreWithin (length marks) ns
    → AllByRecursion (IsMarked (with_marks ns marks)) ns
all_marked [] marks within = tt
all_marked (n ∷ ns) marks within = (
  marks_still ns (set marks n true) n (set_same marks n within.0),
  all_marked ns (set marks n true) (subst (λ k. AreWithin k ns) (sym (length-set marks n true)) within.1),
)

line_marked : (line : LinePlaces) (marks : List Bool) → IsLineWithin (length marks) line
    → IsLineMarked (with_marks line.equalities (with_marks line.positions marks)) line
line_marked line marks within =
    let first = with_marks line.positions marks in
    let same = length_marks line.positions marks in (
      all_weaker _ _ line.positions (λ n. marks_still line.equalities first n)
          (all_marked line.positions marks within.0),
      all_marked line.equalities first (subst (λ k. AreWithin k line.equalities) (sym same) within.1),
    )

lines_marked : (lines : List LinePlaces) (marks : List Bool) → AllByRecursion (IsLineWithin (length marks)) lines
    → AllByRecursion (IsLineMarked (with_lines lines marks)) lines
lines_marked [] marks within = tt
lines_marked (line ∷ lines) marks within =
    let first = with_marks line.positions marks in
    let both = with_marks line.equalities first in
    let same : length both ≡ length marks = length_marks line.equalities first ∙ length_marks line.positions marks in
    let here = line_marked line marks within.0 in (
      (
        all_weaker _ _ line.positions (λ n. lines_still lines both n) here.0,
        all_weaker _ _ line.equalities (λ n. lines_still lines both n) here.1,
      ),
      lines_marked lines both (subst (λ k. AllByRecursion (IsLineWithin k) lines) (sym same) within.1),
    )

-- ---- what else is

later : {X : Type 0} (x y : X) (xs : List X) → Contains xs y → Contains (x ∷ xs) y
later x y xs h = Contains-append_right (x ∷ []) xs y h

marks_else : (ns : List ℕ) (marks : List Bool) (m : ℕ) → IsMarked (with_marks ns marks) m
    → Contains ns m ⊎ IsMarked marks m
marks_else [] marks m is = inr is
marks_else (n ∷ ns) marks m is = ⊎_elim (λ among. inl (later n m ns among))
    (λ other. ⊎_elim (λ e. inl (subst (Contains (n ∷ ns)) e (zero, zero-lt-suc _, refl))) (λ old. inr old)
    (set_else marks n m other))
    (marks_else ns (set marks n true) m is)

any_here : {X : Type 0} (P : X → Type 0) (x : X) (xs : List X) → P x → Any P (x ∷ xs)
any_here P x xs p = (zero, x, zero-lt-suc _, refl, p)

any_later : {X : Type 0} (P : X → Type 0) (x : X) (xs : List X) → Any P xs → Any P (x ∷ xs)
any_later P x xs (k, y, l, at, p) = (suc k, y, suc-le-suc l, at, p)

lines_else : (lines : List LinePlaces) (marks : List Bool) (m : ℕ) → IsMarked (with_lines lines marks) m
    → Any (RefersTo m) lines ⊎ IsMarked marks m
lines_else [] marks m is = inr is
lines_else (line ∷ lines) marks m is =
    let ps = line.positions in
    let es = line.equalities in
    ⊎_elim (λ among. inl (any_later (RefersTo m) line lines among))
    (λ other. ⊎_elim (λ among. inl (any_here (RefersTo m) line lines (Contains-append_right ps es m among)))
    (λ other. ⊎_elim (λ among. inl (any_here (RefersTo m) line lines (Contains-append_left ps es m among)))
    (λ old. inr old) (marks_else ps marks m other))
    (marks_else es (with_marks ps marks) m other))
    (lines_else lines (with_marks es (with_marks ps marks)) m is)

none_marked : (n m : ℕ) → IsMarked (replicate n false) m → ⊥
none_marked zero m is = absurd cc
none_marked (suc n) zero is = absurd cc
none_marked (suc n) (suc m) is = none_marked n m is

-- ---- the marked entries, at their places

entry_there : (marks : List Bool) (xs : List Entry) (n : ℕ) → length marks ≡ length xs → IsMarked marks n
    → entry_at (marked marks xs) (rank marks n) ≡ entry_at xs n
entry_there [] xs n many is = absurd cc
entry_there (mark ∷ marks) [] n many is = absurd (omega (arith, many))
entry_there (true ∷ marks) (x ∷ xs) zero many is = refl
entry_there (false ∷ marks) (x ∷ xs) zero many is = absurd cc
entry_there (true ∷ marks) (x ∷ xs) (suc n) many is = entry_there marks xs n (omega (arith, many)) is
entry_there (false ∷ marks) (x ∷ xs) (suc n) many is = entry_there marks xs n (omega (arith, many)) is

rank_within : (marks : List Bool) (xs : List Entry) (n : ℕ) → length marks ≡ length xs → IsMarked marks n
    → rank marks n < length (marked marks xs)
rank_within [] xs n many is = absurd cc
rank_within (mark ∷ marks) [] n many is = absurd (omega (arith, many))
rank_within (true ∷ marks) (x ∷ xs) zero many is = omega arith
rank_within (false ∷ marks) (x ∷ xs) zero many is = absurd cc
rank_within (true ∷ marks) (x ∷ xs) (suc n) many is =
    let rest = rank_within marks xs n (omega (arith, many)) is in omega (arith, rest)
rank_within (false ∷ marks) (x ∷ xs) (suc n) many is = rank_within marks xs n (omega (arith, many)) is

-- each of them has a place
place_of : (marks : List Bool) (xs : List Entry) (m : ℕ) → m < length (marked marks xs)
    → (n : ℕ) × IsMarked marks n × (rank marks n ≡ m)
place_of [] xs m l = absurd (omega (arith, l))
place_of (mark ∷ marks) [] m l = absurd (omega (arith, l))
place_of (true ∷ marks) (x ∷ xs) zero l = (zero, refl, refl)
place_of (true ∷ marks) (x ∷ xs) (suc m) l =
    let rest = place_of marks xs m (omega (arith, l)) in (suc rest.0, rest.1, ap suc rest.2)
place_of (false ∷ marks) (x ∷ xs) m l = let rest = place_of marks xs m l in (suc rest.0, rest.1, rest.2)

-- ---- lines

module _ (marks : List Bool) (xs : List Entry) (many : length marks ≡ length xs) where
  entries_there : (ns : List ℕ) → AllByRecursion (IsMarked marks) ns
      → entries_at (marked marks xs) (map (rank marks) ns) ≡ entries_at xs ns
  entries_there [] all = refl
  entries_there (n ∷ ns) all =
      flat_map-cons (entry_at (marked marks xs)) (rank marks n) (map (rank marks) ns)
      ∙ ap₂ (λ (front rest : List Entry). front ++ rest) (entry_there marks xs n many all.0) (entries_there ns all.1)
      ∙ sym (flat_map-cons (entry_at xs) n ns)

  lines_there : (files : List Entry) (lines : List LinePlaces) → AllByRecursion (IsLineMarked marks) lines
      → lines_at (marked marks xs) files (map (moved marks) lines) ≡ lines_at xs files lines
  lines_there [] lines all = refl
  lines_there (file ∷ files) [] all = refl
  lines_there (file ∷ files) (line ∷ lines) all =
      ap₂ (λ (l : OwnedLine) (ls : List OwnedLine). l ∷ ls)
      (ap₂ (λ (ps es : List Entry). record { file = file; positions = ps; equalities = es })
      (entries_there line.positions all.0.0) (entries_there line.equalities all.0.1))
      (lines_there files lines all.1)

  ranks_within : (ns : List ℕ) → AllByRecursion (IsMarked marks) ns
      → AreWithin (length (marked marks xs)) (map (rank marks) ns)
  ranks_within [] all = tt
  ranks_within (n ∷ ns) all = (rank_within marks xs n many all.0, ranks_within ns all.1)

  lines_within : (lines : List LinePlaces) → AllByRecursion (IsLineMarked marks) lines
      → AllByRecursion (IsLineWithin (length (marked marks xs))) (map (moved marks) lines)
  lines_within [] all = tt
  lines_within (line ∷ lines) all = (
    (ranks_within line.positions all.0.0, ranks_within line.equalities all.0.1),
    lines_within lines all.1,
  )

contains_map : (f : ℕ → ℕ) (xs : List ℕ) (x : ℕ) → Contains xs x → Contains (map f xs) (f x)
contains_map f [] x (k, l, at) = absurd (omega (arith, l))
contains_map f (y ∷ ys) x (zero, l, at) = (zero, zero-lt-suc _, ap f at)
contains_map f (y ∷ ys) x (suc k, l, at) =
    later (f y) (f x) (map f ys) (contains_map f ys x (k, le_of_suc-le-suc l, at))

refers_moved : (marks : List Bool) (n : ℕ) (line : LinePlaces) → RefersTo n line
    → RefersTo (rank marks n) (moved marks line)
refers_moved marks n line h = subst (λ ns. Contains ns (rank marks n))
    (map-append (rank marks) line.positions line.equalities)
    (contains_map (rank marks) (line.positions ++ line.equalities) n h)

any_moved : (marks : List Bool) (n : ℕ) (lines : List LinePlaces) → Any (RefersTo n) lines
    → Any (RefersTo (rank marks n)) (map (moved marks) lines)
any_moved marks n [] (k, task, l, at, h) = absurd (omega (arith, l))
any_moved marks n (line ∷ lines) (zero, task, l, at, h) =
    any_here (RefersTo (rank marks n)) (moved marks line) (map (moved marks) lines)
    (refers_moved marks n line (subst (RefersTo n) (sym at) h))
any_moved marks n (line ∷ lines) (suc k, task, l, at, h) =
    any_later (RefersTo (rank marks n)) (moved marks line) (map (moved marks) lines)
    (any_moved marks n lines (k, task, le_of_suc-le-suc l, at, h))

-- ---- the plan

module _ (p : PlanPlaces) (placed : ArePlaced p) where
  abbrev marks : List Bool
  marks = marks_of p

  all_lines : AllByRecursion (IsLineMarked marks) p.places
  all_lines = lines_marked p.places (replicate (length p.deletes) false)
      (subst (λ k. AllByRecursion (IsLineWithin k) p.places) (sym (length-replicate (length p.deletes) false))
      placed.within)

  same_plan : plan_of (narrowed marks p) ≡ plan_of p
  same_plan = lines_there marks p.deletes (length_marks_of p) p.files p.places all_lines

  still_placed : ArePlaced (narrowed marks p)
  still_placed = record {
    each = length-map p.places (moved marks) ∙ placed.each;
    within = lines_within marks p.deletes (length_marks_of p) p.places all_lines;
  }

all_named : (p : PlanPlaces) → AreNamed (narrowed (marks_of p) p)
all_named p = λ m l.
    let marks = marks_of p in
    let at = place_of marks p.deletes m l in
    let named : Any (RefersTo at.0) p.places = ⊎_elim (λ named. named)
    (λ none. absurd (none_marked (length p.deletes) at.0 none))
    (lines_else p.places (replicate (length p.deletes) false) at.0 at.1) in
    subst (λ n. Any (RefersTo n) (map (moved marks) p.places)) at.2 (any_moved marks at.0 p.places named)

-- its text is a JSON of the plan
pub says_named : (types : List SpecTypes) (residual : List ℕ) → ((d : Data) × (residual ≡ compact_text d))
    → (p : PlanPlaces) (named : List Bool) → named ≡ marks_of p → (plan : List OwnedLine) → plan_of p ≡ plan
    → ArePlaced p → IsJsonOf types residual plan (plan_text types residual (narrowed named p))
says_named types residual json p named is_named plan is placed =
    subst (λ ms. IsJsonOf types residual plan (plan_text types residual (narrowed ms p))) (sym is_named) (record {
      filter = json.0;
      filter_is = json.1;
      files = narrowed (marks_of p) p;
      plan_is = same_plan p placed ∙ is;
      placed = still_placed p placed;
      named = all_named p;
      text_is = ap (λ r. plan_text types r (narrowed (marks_of p) p)) json.1
          ∙ sym (plan_is types json.0 (narrowed (marks_of p) p));
    })
