-- The paths of a plan rise.
use Rattle.std.proofs.Common.{◌≡◌, ℕ, Bool, true, false, List, [], ◌∷◌, ◌++◌, map, filter, cond, refl, sym, ap, subst, ◌∙◌}
use Rattle.std.specs.Prelude.{Ok}
use Rattle.std.specs.Cmp.Lexicographic.{slice_cmp}
use Rattle.std.specs.Ordering.{nat_cmp, is_eq, is_lt}
use Rattle.std.specs.Str.{bytes_eq}
use Rattle.std.specs.declared.cmp.Ordering.{Ordering}
use Rattle.std.specs.declared.cmp.Ordering.TheVariants.{Less, Equal, Greater}
use Rattle.std.proofs.lemmas.Map.Text.{is_eq-slice_cmp}
use Rattle.contract_words.proofs.Sorted.{Rises as Ascend, sorted_rises}
use Rattle.ice_manifest_reading.specs.declared.entry.Entry.{Entry}
use Rattle.ice_state.proofs.Sharing.{order}
use Rattle.ice_state.specs.Contents.{Content}
use Rattle.ice_state.specs.Lines.{OwnedLine}
use Rattle.ice_state.specs.Outcomes.{bad, by_path, faults_of, first_or, kept_in, line_of as line_with, missing, outcome}
use Rattle.ice_state.specs.Outcomes.{path_before, plan_over, twice}
use Rattle.ice_state.specs.Pruning.{holds}
use Rattle.ice_state.specs.Scans.{Scanned}
use Rattle.ice_state.specs.declared.fault.FinishFault.{FinishFault}
use Rattle.ice_value.specs.declared.file_content.FileContent.TheVariants.{Data}
use Rattle.icescan_changes.specs.Changes.{file_path, files_told, line_path, lines_told}
use Rattle.icescan_changes.specs.Meanings.{IsByPath}
use Rattle.icescan_changes.specs.Walks.{Above, Rises}
use Rattle.icescan_changes.specs.declared.changes.Change.TheVariants as change
use Rattle.icescan_changes.specs.declared.changes.FileChange.TheVariants as file
use Rattle.icescan_changes.proofs.Meaning.{above_through, turned}

abbrev is_above : List ℕ → List Entry → Type 0
is_above p xs = Above file_path file.Removed file.Added files_told p xs

abbrev rise : List Entry → Type 0
rise xs = Rises file_path file.Removed file.Added files_told xs

less : (p q : List ℕ) → is_lt (slice_cmp nat_cmp q p) ≡ false → bytes_eq p q ≡ false → slice_cmp nat_cmp p q ≡ Less
less p q later other = cases (slice_cmp nat_cmp p q) refl where
  cases : (o : Ordering) → slice_cmp nat_cmp p q ≡ o → slice_cmp nat_cmp p q ≡ Less
  cases Less is = is
  cases Equal is =
      let same : bytes_eq p q ≡ true = sym (is_eq-slice_cmp p q) ∙ ap is_eq is in
      let clash : true ≡ false = sym same ∙ other in
      absurd cc
  cases Greater is =
      let turn : is_lt (slice_cmp nat_cmp q p) ≡ true = ap is_lt (turned p q is) in
      let clash : true ≡ false = sym turn ∙ later in
      absurd cc

twice_parts : (x y : Entry) (ys : List Entry) → twice (x ∷ y ∷ ys) ≡ []
    → (bytes_eq x.file.path y.file.path ≡ false) × (twice (y ∷ ys) ≡ [])
twice_parts x y ys h = cases (bytes_eq x.file.path y.file.path) refl where
  cases : (b : Bool) → bytes_eq x.file.path y.file.path ≡ b
      → (bytes_eq x.file.path y.file.path ≡ false) × (twice (y ∷ ys) ≡ [])
  cases true is = let clash = rw is at h in absurd cc
  cases false is = (is, rw is at h)

strict : (xs : List Entry) → Ascend path_before order xs → twice xs ≡ [] → rise xs
strict [] h t = tt
strict (x ∷ []) h t = (tt, tt)
strict (x ∷ y ∷ ys) h t =
    let parts = twice_parts x y ys t in
    let rest = strict (y ∷ ys) h.1 parts.1 in
    let first = less x.file.path y.file.path h.0.0 parts.0 in (
      (first, above_through file_path file.Removed file.Added files_told x.file.path y.file.path ys first rest.0),
      rest,
    )

module _ (t : Entry → Bool) where
  above_if : (p : List ℕ) (y : Entry) (l : List Entry) (b : Bool) → slice_cmp nat_cmp p y.file.path ≡ Less
      → is_above p l → is_above p (cond b (y ∷ l) l)
  above_if p y l true h k = (h, k)
  above_if p y l false h k = k

  above_kept : (p : List ℕ) (xs : List Entry) → is_above p xs → is_above p (filter t xs)
  above_kept p [] h = tt
  above_kept p (y ∷ ys) h = above_if p y (filter t ys) (t y) h.0 (above_kept p ys h.1)

  rises_if : (x : Entry) (l : List Entry) (b : Bool) → is_above x.file.path l → rise l → rise (cond b (x ∷ l) l)
  rises_if x l true h k = (h, k)
  rises_if x l false h k = k

  rises_kept : (xs : List Entry) → rise xs → rise (filter t xs)
  rises_kept [] h = tt
  rises_kept (x ∷ xs) h = rises_if x (filter t xs) (t x) (above_kept x.file.path xs h.0) (rises_kept xs h.1)

lined : (deletes xs : List Entry) → rise xs → IsByPath (map (line_with deletes) xs)
lined deletes [] h = tt
lined deletes (x ∷ xs) h = (above x.file.path xs h.0, lined deletes xs h.1) where
  above : (p : List ℕ) (ys : List Entry) → is_above p ys
      → Above line_path change.Removed change.Added lines_told p (map (line_with deletes) ys)
  above p [] h = tt
  above p (y ∷ ys) h = (h.0, above p ys h.1)

no_faults : (fs : List FinishFault) (made plan : List OwnedLine) → first_or fs made ≡ Ok plan
    → (fs ≡ []) × (made ≡ plan)
no_faults [] made plan h = (refl, cc)
no_faults (f ∷ fs) made plan h = absurd cc

none_last : (xs ys : List FinishFault) → xs ++ ys ≡ [] → ys ≡ []
none_last [] ys h = h
none_last (x ∷ xs) ys h = absurd cc

pub plan_by_path : (scan : Scanned) (c : Content) (plan : List OwnedLine) → outcome scan c ≡ Ok plan → IsByPath plan
plan_by_path scan c plan h =
    let kept = by_path (kept_in c) in
    let made = no_faults (faults_of scan.wanted c) (plan_over kept kept) plan h in
    let once : twice kept ≡ [] = none_last (missing scan.wanted c ++ bad scan.wanted c) (twice kept) made.0 in
    let rising = rises_kept (holds Data) kept (strict kept (sorted_rises path_before order (kept_in c)) once) in
    subst IsByPath made.1 (lined kept (filter (holds Data) kept) rising)
