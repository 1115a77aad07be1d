-- What changes say of a path's line, and that nothing is told of one plan.
use Rattle.std.proofs.Common.{◌≡◌, ℕ, Bool, true, false, List, [], ◌∷◌, refl, sym, subst, ◌∙◌, inl, inr}
use Rattle.std.proofs.Common.{Option, Some, None, cond}
use Rattle.std.specs.Cmp.Lexicographic.{pointwise}
use Rattle.std.specs.List.{AllByRecursion}
use Rattle.std.specs.Option.{option_eq}
use Rattle.std.specs.Ordering.{int_eq}
use Rattle.std.specs.Str.{bytes_eq}
use Rattle.std.proofs.lemmas.Bool.Decides.{Decides-eqb, Decides-int_eq}
use Rattle.std.proofs.lemmas.Slice.Eq.{bytes_eq-Decides, slice_eq-Decides}
use Rattle.ice_manifest_reading.specs.declared.entry.Entry.{Entry}
use Rattle.ice_state.specs.Lines.{OwnedLine}
use Rattle.ice_value.specs.Equality.{tuple_decides}
use Rattle.icescan_changes.specs.Changes.{altered, file_changes, file_path, files_told, line_changes, line_path}
use Rattle.icescan_changes.specs.Changes.{lines_told}
use Rattle.icescan_changes.specs.Files.{same_file}
use Rattle.icescan_changes.specs.Meanings.{AreAlike, IsByPath, after, changes_of, line_of, path_of, told_of}
use Rattle.icescan_changes.specs.declared.changes.Change.{Change}
use Rattle.icescan_changes.specs.declared.changes.Change.TheVariants as change
use Rattle.icescan_changes.specs.declared.changes.FileChange.{FileChange}
use Rattle.icescan_changes.specs.declared.changes.FileChange.TheVariants as file
use Rattle.icescan_changes.proofs.Meaning.{meant}
use Rattle.icescan_changes.proofs.Walking.{none_told}

-- ---- each path

altered_about : (q : List ℕ) (l : OwnedLine) (ps es : List FileChange) → line_path l ≡ q
    → AllByRecursion (λ c. path_of c ≡ q) (altered l ps es)
altered_about q l [] [] h = tt
altered_about q l [] (e ∷ es) h = (h, tt)
altered_about q l (p ∷ ps) es h = (h, tt)

told_about_by : (a b : OwnedLine) (t : Bool) → line_path a ≡ line_path b
    → AllByRecursion (λ c. path_of c ≡ line_path a) (cond t
    (altered b (file_changes a.positions b.positions) (file_changes a.equalities b.equalities))
    (change.Removed a ∷ change.Added b ∷ []))
told_about_by a b true h = altered_about (line_path a) b _ _ (sym h)
told_about_by a b false h = (refl, (sym h, tt))

told_about : (a b : OwnedLine) → line_path a ≡ line_path b
    → AllByRecursion (λ c. path_of c ≡ line_path a) (lines_told a b)
told_about a b h = told_about_by a b (same_file a.file b.file) h

pub each_path : (earlier later : List OwnedLine) (path : List ℕ) → IsByPath earlier → IsByPath later
    → changes_of (line_changes earlier later) path ≡ told_of (line_of earlier path) (line_of later path)
each_path earlier later path h k =
    meant line_path change.Removed change.Added lines_told path_of (λ x. refl) (λ x. refl) told_about path earlier later
    h k

-- ---- applied

pub altered_alike : (a b : OwnedLine) (ps es : List FileChange) → (altered b ps es ≡ [] → lines_told a b ≡ [])
    → AreAlike (after (altered b ps es) (Some a)) (Some b)
altered_alike a b [] [] h = inr (h refl)
altered_alike a b [] (e ∷ es) h = inl refl
altered_alike a b (p ∷ ps) es h = inl refl

both_alike : (a b : OwnedLine) (t : Bool) → same_file a.file b.file ≡ t
    → AreAlike (after (lines_told a b) (Some a)) (Some b)
both_alike a b true is =
    let P : List Change → Type 0 = λ cs. AreAlike (after cs (Some a)) (Some b) in
    let told : lines_told a b ≡ altered b (file_changes a.positions b.positions)
    (file_changes a.equalities b.equalities) = rw is refl in
    subst P (sym told) (altered_alike a b (file_changes a.positions b.positions)
    (file_changes a.equalities b.equalities) (λ e. told ∙ e))
both_alike a b false is =
    let P : List Change → Type 0 = λ cs. AreAlike (after cs (Some a)) (Some b) in
    let told : lines_told a b ≡ change.Removed a ∷ change.Added b ∷ [] = rw is refl in
    subst P (sym told) (inl refl)

alike : (x y : Option OwnedLine) → AreAlike (after (told_of x y) x) y
alike None None = tt
alike (Some a) None = tt
alike None (Some b) = inl refl
alike (Some a) (Some b) = both_alike a b (same_file a.file b.file) refl

pub applied : (earlier later : List OwnedLine) (path : List ℕ) → IsByPath earlier → IsByPath later
    → AreAlike (after (changes_of (line_changes earlier later) path) (line_of earlier path)) (line_of later path)
applied earlier later path h k =
    let P : List Change → Type 0 = λ cs. AreAlike (after cs (line_of earlier path)) (line_of later path) in
    subst P (sym (each_path earlier later path h k)) (alike (line_of earlier path) (line_of later path))

-- ---- one plan

bytes_itself : (p : List ℕ) → bytes_eq p p ≡ true
bytes_itself p = (bytes_eq-Decides p p).1 refl

named_itself : (p : Option (List ℕ)) → option_eq bytes_eq p p ≡ true
named_itself None = refl
named_itself (Some p) = bytes_itself p

file_itself : (x : Entry) → same_file x x ≡ true
file_itself x = rw (
  (Decides-eqb x.sequence_number x.sequence_number).1 refl,
  bytes_itself x.file.path,
  (Decides-int_eq x.spec_id x.spec_id).1 refl,
  (tuple_decides x.file.tuple x.file.tuple).1 refl,
  (Decides-int_eq x.file.record_count x.file.record_count).1 refl,
  (Decides-int_eq x.file.file_size x.file.file_size).1 refl,
  (slice_eq-Decides Decides-int_eq x.file.equality_ids x.file.equality_ids
      (pointwise int_eq x.file.equality_ids x.file.equality_ids) refl).1 refl,
  named_itself x.file.referenced,
) refl

files_itself : (xs : List Entry) → file_changes xs xs ≡ []
files_itself xs = none_told file_path file.Removed file.Added files_told (λ x. rw (file_itself x) refl) xs

pub line_itself : (l : OwnedLine) → lines_told l l ≡ []
line_itself l = rw (file_itself l.file, files_itself l.positions, files_itself l.equalities) refl

pub plan_itself : (plan : List OwnedLine) → line_changes plan plan ≡ []
plan_itself plan = none_told line_path change.Removed change.Added lines_told line_itself plan
