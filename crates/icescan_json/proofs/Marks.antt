-- The marks of the delete files that tasks name, and the places of these among themselves.
use Rattle.std.proofs.Common.{◌≡◌, ◌<◌, ◌≤◌, ◌+◌, ℕ, zero, suc, Bool, true, false, cond, List, [], ◌∷◌}
use Rattle.std.proofs.Common.{Some, arith, refl, ap, ap₂, ◌∙◌, subst, length, map, drop}
use Rattle.std.specs.Prelude.{All, option_map, replicate, get_or, set, slice_get}
use Rattle.std.specs.List.{AllByRecursion}
use Rattle.std.proofs.lemmas.List.{length-set, length-replicate}
use Rattle.std.proofs.lemmas.List.Elements.{All-from_recursion}
use Rattle.std.proofs.lemmas.Option.{slice_get-map}
use Rattle.ice_manifest_reading.specs.declared.entry.Entry.{Entry}
use Rattle.ice_state.specs.Lines.{IsLineWithin}
use Rattle.ice_state.specs.PlaceLists.{LinePlaces}
use Rattle.ice_state.specs.PlacedFiles.{PlanPlaces}
use Rattle.icescan_json.specs.Named.{marked, marks_of, moved, rank, ranks_from, with_lines, with_marks}

-- ---- lines

-- the line at a place, by its two parts
pub line_at : (lines : List LinePlaces) (i : ℕ) (ps es : List ℕ)
    → option_map (λ (line : LinePlaces). line.positions) (slice_get lines i) ≡ Some ps
    → option_map (λ (line : LinePlaces). line.equalities) (slice_get lines i) ≡ Some es
    → slice_get lines i ≡ Some (record { positions = ps; equalities = es })
line_at [] i ps es is_ps is_es = absurd cc
line_at (line ∷ lines) zero ps es is_ps is_es =
    let same_ps : line.positions ≡ ps = cc in
    let same_es : line.equalities ≡ es = cc in
    ap₂ (λ (xs ys : List ℕ). Some (record { positions = xs; equalities = ys })) same_ps same_es
line_at (line ∷ lines) (suc i) ps es is_ps is_es = line_at lines i ps es is_ps is_es

-- the same line, its places moved
pub line_moved : (marks : List Bool) (lines : List LinePlaces) (i : ℕ) (line : LinePlaces)
    → slice_get lines i ≡ Some line → slice_get (map (moved marks) lines) i ≡ Some (moved marks line)
line_moved marks lines i line is = slice_get-map (moved marks) lines i ∙ ap (option_map (moved marks)) is

-- its places are within the delete files
pub positions_within : (n : ℕ) (lines : List LinePlaces) (i : ℕ) (ps : List ℕ)
    → AllByRecursion (IsLineWithin n) lines
    → option_map (λ (line : LinePlaces). line.positions) (slice_get lines i) ≡ Some ps → All (λ k. k < n) ps
positions_within n [] i ps all is = absurd cc
positions_within n (line ∷ lines) zero ps all is =
    let same : line.positions ≡ ps = cc in
    subst (All (λ k. k < n)) same (All-from_recursion (λ k. k < n) line.positions all.0.0)
positions_within n (line ∷ lines) (suc i) ps all is = positions_within n lines i ps all.1 is

pub equalities_within : (n : ℕ) (lines : List LinePlaces) (i : ℕ) (es : List ℕ)
    → AllByRecursion (IsLineWithin n) lines
    → option_map (λ (line : LinePlaces). line.equalities) (slice_get lines i) ≡ Some es → All (λ k. k < n) es
equalities_within n [] i es all is = absurd cc
equalities_within n (line ∷ lines) zero es all is =
    let same : line.equalities ≡ es = cc in
    subst (All (λ k. k < n)) same (All-from_recursion (λ k. k < n) line.equalities all.0.1)
equalities_within n (line ∷ lines) (suc i) es all is = equalities_within n lines i es all.1 is

module _ {X : Type 0} where
  pub drop_at : (xs : List X) (i : ℕ) (x : X) → slice_get xs i ≡ Some x → drop i xs ≡ x ∷ drop (suc i) xs
  drop_at [] i x is = absurd cc
  drop_at (y ∷ ys) zero x is = let same : y ≡ x = cc in ap (λ z. z ∷ ys) same
  drop_at (y ∷ ys) (suc i) x is = drop_at ys i x is

-- ---- marks

pub length_marks : (ns : List ℕ) (marks : List Bool) → length (with_marks ns marks) ≡ length marks
length_marks [] marks = refl
length_marks (n ∷ ns) marks = length_marks ns (set marks n true) ∙ length-set marks n true

length_lines : (lines : List LinePlaces) (marks : List Bool) → length (with_lines lines marks) ≡ length marks
length_lines [] marks = refl
length_lines (line ∷ lines) marks =
    length_lines lines (with_marks line.equalities (with_marks line.positions marks))
    ∙ length_marks line.equalities (with_marks line.positions marks)
    ∙ length_marks line.positions marks

-- there is a mark for each delete file
pub length_marks_of : (p : PlanPlaces) → length (marks_of p) ≡ length p.deletes
length_marks_of p =
    length_lines p.places (replicate (length p.deletes) false) ∙ length-replicate (length p.deletes) false

-- ---- ranks

pub length_ranks : (k : ℕ) (marks : List Bool) → length (ranks_from k marks) ≡ length marks
length_ranks k [] = refl
length_ranks k (mark ∷ marks) = ap suc (length_ranks (cond mark (suc k) k) marks)

rank_at : (k : ℕ) (marks : List Bool) (n d : ℕ) → n < length marks → get_or (ranks_from k marks) n d
    ≡ k + rank marks n
rank_at k [] n d l = absurd (omega (arith, l))
rank_at k (mark ∷ marks) zero d l = omega arith
rank_at k (true ∷ marks) (suc n) d l = rank_at (suc k) marks n d (omega (arith, l)) ∙ omega arith
rank_at k (false ∷ marks) (suc n) d l = rank_at k marks n d (omega (arith, l))

pub rank_there : (marks : List Bool) (n d : ℕ) → n < length marks → get_or (ranks_from 0 marks) n d ≡ rank marks n
rank_there marks n d l = rank_at 0 marks n d l ∙ omega arith

pub rank_zero : (marks : List Bool) → rank marks zero ≡ zero
rank_zero [] = refl
rank_zero (mark ∷ marks) = refl

-- one place more
pub rank_next : (marks : List Bool) (n : ℕ) (mark : Bool) → slice_get marks n ≡ Some mark → rank marks (suc n)
    ≡ cond mark (suc (rank marks n)) (rank marks n)
rank_next [] n mark is = absurd cc
rank_next (true ∷ marks) zero true is = ap suc (rank_zero marks)
rank_next (true ∷ marks) zero false is = absurd cc
rank_next (false ∷ marks) zero true is = absurd cc
rank_next (false ∷ marks) zero false is = rank_zero marks
rank_next (true ∷ marks) (suc n) true is = ap suc (rank_next marks n true is)
rank_next (true ∷ marks) (suc n) false is = ap suc (rank_next marks n false is)
rank_next (false ∷ marks) (suc n) mark is = rank_next marks n mark is

-- ---- the entries that are marked

-- that at a place stands among them at its rank
pub marked_at : (marks : List Bool) (xs : List Entry) (n : ℕ) (x : Entry) → slice_get marks n ≡ Some true
    → slice_get xs n ≡ Some x → slice_get (marked marks xs) (rank marks n) ≡ Some x
marked_at [] xs n x mark is = absurd cc
marked_at (mark ∷ marks) [] n x is_mark is = absurd cc
marked_at (true ∷ marks) (y ∷ ys) zero x mark is = is
marked_at (false ∷ marks) (y ∷ ys) zero x mark is = absurd cc
marked_at (true ∷ marks) (y ∷ ys) (suc n) x mark is = marked_at marks ys n x mark is
marked_at (false ∷ marks) (y ∷ ys) (suc n) x mark is = marked_at marks ys n x mark is

-- behind all of them no more come
pub rank_last : (marks : List Bool) (xs : List Entry) (n : ℕ) → length marks ≤ n
    → length (marked marks xs) ≤ rank marks n
rank_last [] xs n l = omega arith
rank_last (mark ∷ marks) [] n l = omega arith
rank_last (mark ∷ marks) (x ∷ xs) zero l = absurd (omega (arith, l))
rank_last (true ∷ marks) (x ∷ xs) (suc n) l = let rest = rank_last marks xs n (omega (arith, l)) in omega (arith, rest)
rank_last (false ∷ marks) (x ∷ xs) (suc n) l = rank_last marks xs n (omega (arith, l))
