-- Lines by the places of their files.
use Rattle.std.proofs.Common.{◌≡◌, ◌<◌, ℕ, zero, suc, List, [], ◌∷◌, refl, sym, ap, subst, ◌∙◌, true, not, ◌&&◌, length}
use Rattle.std.proofs.Common.{get_or, arith, map, filter, Some}
use Rattle.std.specs.List.{slice_get, AllByRecursion}
use Rattle.ice_manifest_reading.specs.declared.entry.Entry.{Entry}
use Rattle.ice_value.specs.declared.file_content.FileContent.{FileContent}
use Rattle.ice_value.specs.declared.file_content.FileContent.TheVariants.{Data, PositionDeletes, EqualityDeletes}
use Rattle.ice_state.specs.Applying.{applies}
use Rattle.ice_state.specs.Outcomes.{line_of, plan_over}
use Rattle.ice_state.specs.Parts.{holds_deletes}
use Rattle.ice_state.specs.Pruning.{holds, same_content}
use Rattle.ice_state.proofs.Filters.{and_true, all_unit, filter_kept}
use Rattle.ice_state.specs.PlaceLists.{LinePlaces}
use Rattle.ice_state.specs.Lines.{entry_at, entries_at, LacksDeletes, line_at, deletes_at, lines_at, AreWithin}
use Rattle.ice_state.specs.Lines.{IsLineWithin}

-- one entry stands at each place within
one_at : (xs : List Entry) (i : ℕ) → i < length xs → (x : Entry) × (slice_get xs i ≡ Some x) × (entry_at xs i ≡ x ∷ [])
one_at [] i l = absurd (omega arith)
one_at (x ∷ xs) zero l = (x, refl, refl)
one_at (x ∷ xs) (suc i) l = one_at xs i (omega arith)

pub length-entries_at : (xs : List Entry) (places : List ℕ) → AreWithin (length xs) places
    → length (entries_at xs places) ≡ length places
length-entries_at xs [] within = refl
length-entries_at xs (i ∷ is) within =
    let one = one_at xs i within.0 in
    rw (one.2) (ap suc (length-entries_at xs is within.1))

-- the entry of a place's place
pub entries_at-get : (xs : List Entry) (places : List ℕ) (k d : ℕ) (x : Entry) → AreWithin (length xs) places
    → k < length places → slice_get xs (get_or places k d) ≡ Some x → slice_get (entries_at xs places) k ≡ Some x
entries_at-get xs [] k d x within l at = absurd (omega arith)
entries_at-get xs (j ∷ js) zero d x within l at =
    let one = one_at xs j within.0 in
    rw (one.2) (sym one.1 ∙ at)
entries_at-get xs (j ∷ js) (suc k) d x within l at =
    let one = one_at xs j within.0 in
    rw (one.2) (entries_at-get xs js k d x within.1 (omega arith) at)

-- each place of a list within is within
pub within-at : (n : ℕ) (places : List ℕ) (k d : ℕ) → AreWithin n places → k < length places → get_or places k d < n
within-at n [] k d within l = absurd (omega arith)
within-at n (j ∷ js) zero d within l = within.0
within-at n (j ∷ js) (suc k) d within l = within-at n js k d within.1 (omega arith)

pub line_within-at : (n : ℕ) (places : List LinePlaces) (k : ℕ) (d : LinePlaces)
    → AllByRecursion (IsLineWithin n) places → slice_get places k ≡ Some d → IsLineWithin n d
line_within-at n [] k d within at = cc
line_within-at n (q ∷ qs) zero d within at = let same : q ≡ d = cc in subst (IsLineWithin n) same within.0
line_within-at n (q ∷ qs) (suc k) d within at = line_within-at n qs k d within.1 at

pub length-lines_at : (deletes files : List Entry) (places : List LinePlaces) → length places ≡ length files
    → length (lines_at deletes files places) ≡ length places
length-lines_at deletes [] [] h = refl
length-lines_at deletes [] (p ∷ ps) h = absurd (omega arith)
length-lines_at deletes (x ∷ xs) [] h = absurd (omega arith)
length-lines_at deletes (x ∷ xs) (p ∷ ps) h = ap suc (length-lines_at deletes xs ps (omega arith))

pub lines_at-get : (deletes files : List Entry) (places : List LinePlaces) (k : ℕ) (x : Entry) (d : LinePlaces)
    → slice_get files k ≡ Some x → slice_get places k ≡ Some d
    → slice_get (lines_at deletes files places) k ≡ Some (line_at deletes x d)
lines_at-get deletes [] places k x d file at = cc
lines_at-get deletes (y ∷ ys) [] k x d file at = cc
lines_at-get deletes (y ∷ ys) (q ∷ qs) zero x d file at =
    let first : y ≡ x = cc in
    let same : q ≡ d = cc in
    ap (λ f. Some (line_at deletes f q)) first ∙ ap (λ l. Some (line_at deletes x l)) same
lines_at-get deletes (y ∷ ys) (q ∷ qs) (suc k) x d file at = lines_at-get deletes ys qs k x d file at

-- the delete files of a line are those at its places
pub deletes_there : (deletes files : List Entry) (places : List LinePlaces) (i : ℕ) (line : LinePlaces)
    → length places ≡ length files → slice_get places i ≡ Some line
    → deletes_at (lines_at deletes files places) i
    ≡ Some (entries_at deletes line.positions, entries_at deletes line.equalities)
deletes_there deletes [] [] i line each at = cc
deletes_there deletes [] (p ∷ ps) i line each at = absurd (omega arith)
deletes_there deletes (x ∷ xs) [] i line each at = absurd (omega arith)
deletes_there deletes (x ∷ xs) (p ∷ ps) zero line each at =
    let same : p ≡ line = cc in
    ap (λ (l : LinePlaces). Some (entries_at deletes l.positions, entries_at deletes l.equalities)) same
deletes_there deletes (x ∷ xs) (p ∷ ps) (suc k) line each at = deletes_there deletes xs ps k line (omega arith) at

-- ---- the whole plan

delete_kind : (a K : FileContent) → (K ≡ Data → ⊥) → same_content a K ≡ true → not (same_content a Data) ≡ true
delete_kind Data Data other h = absurd (other refl)
delete_kind Data PositionDeletes other h = cc
delete_kind Data EqualityDeletes other h = cc
delete_kind PositionDeletes K other h = refl
delete_kind EqualityDeletes K other h = refl

line_of-deletes : (xs : List Entry) (x : Entry) → line_of (filter holds_deletes xs) x ≡ line_of xs x
line_of-deletes xs x =
    let kept : (K : FileContent) → ((d : Entry) → (holds K d && applies x d) ≡ true → holds_deletes d ≡ true)
    → filter (λ d. holds K d && applies x d) xs ≡ filter (λ d. holds K d && applies x d) (filter holds_deletes xs) =
    λ K implied. filter_kept (λ _. Unit {0}) (λ (d : Entry). holds K d && applies x d) holds_deletes
    (λ d _ h. implied d h) xs (all_unit xs) in
    let positions : (d : Entry) → (holds PositionDeletes d && applies x d) ≡ true
    → holds_deletes d ≡ true = λ d h. delete_kind d.file.content PositionDeletes (λ e. cc) (and_true _ _ h).0 in
    let equalities : (d : Entry) → (holds EqualityDeletes d && applies x d) ≡ true
    → holds_deletes d ≡ true = λ d h. delete_kind d.file.content EqualityDeletes (λ e. cc) (and_true _ _ h).0 in
    rw (kept PositionDeletes positions, kept EqualityDeletes equalities) refl

map-same : {X Y : Type 0} (f g : X → Y) → ((x : X) → f x ≡ g x) → (xs : List X) → map f xs ≡ map g xs
map-same f g same [] = refl
map-same f g same (x ∷ xs) = rw (same x, map-same f g same xs) refl

pub planned_is : (xs files deletes : List Entry) (places : List LinePlaces) → files ≡ filter (holds Data) xs
    → deletes ≡ filter holds_deletes xs → lines_at deletes files places ≡ map (line_of deletes) files
    → lines_at deletes files places ≡ plan_over xs xs
planned_is xs files deletes places f d is =
    is ∙ ap (λ ds. map (line_of ds) files) d ∙ ap (map (line_of (filter holds_deletes xs))) f ∙ map-same
    (line_of (filter holds_deletes xs)) (line_of xs) (line_of-deletes xs) (filter (holds Data) xs)

-- ---- lines of a plan that has no delete files

none_at : (places : List ℕ) → entries_at [] places ≡ []
none_at [] = refl
none_at (i ∷ is) = none_at is

pub lines_lack : (files : List Entry) (places : List LinePlaces)
    → AllByRecursion LacksDeletes (lines_at [] files places)
lines_lack [] places = tt
lines_lack (x ∷ xs) [] = tt
lines_lack (x ∷ xs) (p ∷ ps) = ((none_at p.positions, none_at p.equalities), lines_lack xs ps)
