-- The places that the index gives are those of the delete files that apply.
use Rattle.std.proofs.Common.{◌≡◌, ◌≤◌, ◌+◌, ℕ, suc, Bool, true, false, ◌&&◌, List, [], ◌∷◌, ◌++◌, length, map, filter}
use Rattle.std.proofs.Common.{cond, refl, sym, ap, subst, ◌∙◌, arith, append_assoc}
use Rattle.std.specs.List.{AllByRecursion, enumerate_from}
use Rattle.ice_value.specs.declared.file_content.FileContent.{FileContent}
use Rattle.ice_value.specs.declared.file_content.FileContent.TheVariants.{Data, PositionDeletes, EqualityDeletes}
use Rattle.ice_value.specs.Applying.{DeleteKey, applies as key_applies}
use Rattle.ice_manifest_reading.specs.declared.entry.Entry.{Entry}
use Rattle.ice_deletes.specs.Found.{is_content, holds as key_holds}
use Rattle.ice_state.specs.PlaceLists.{LinePlaces}
use Rattle.ice_state.specs.Applying.{data_key_of, delete_key_of, applies}
use Rattle.ice_state.specs.Lines.{entry_at, entries_at, line_at, lines_at, AreWithin, IsLineWithin, AreLinesOf}
use Rattle.ice_state.specs.Outcomes.{line_of}
use Rattle.ice_state.specs.Parts.{ascending, numbers_of, places_of}
use Rattle.ice_state.specs.Pruning.{holds, same_content}
use Rattle.ice_state.proofs.Ascending.{numbers_from, with_first, numbers_ascend}

at_front : (front : List Entry) (x : Entry) (xs : List Entry) → entry_at (front ++ x ∷ xs) (length front) ≡ x ∷ []
at_front [] x xs = refl
at_front (y ∷ ys) x xs = at_front ys x xs

length-one_more : (front : List Entry) (x : Entry) → length (front ++ x ∷ []) ≡ length front + 1
length-one_more [] x = refl
length-one_more (y ∷ ys) x = let e = length-one_more ys x in omega arith

-- the entries of the numbers of those that pass, behind others
entries_behind : (p : DeleteKey → Bool) (front xs : List Entry)
    → entries_at (front ++ xs) (numbers_from (length front) p (map delete_key_of xs))
    ≡ filter (λ d. p (delete_key_of d)) xs
entries_behind p front [] = refl
entries_behind p front (x ∷ xs) =
    let whole = front ++ x ∷ xs in
    let ks = map delete_key_of xs in
    let joined : (front ++ x ∷ []) ++ xs ≡ whole = append_assoc front (x ∷ []) xs in
    let rest : entries_at whole (numbers_from (length front + 1) p ks) ≡ filter (λ d. p (delete_key_of d)) xs =
    ap (λ es. entries_at es (numbers_from (length front + 1) p ks)) (sym joined)
    ∙ ap (λ n. entries_at ((front ++ x ∷ []) ++ xs) (numbers_from n p ks)) (sym (length-one_more front x))
    ∙ entries_behind p (front ++ x ∷ []) xs in
    elim (p (delete_key_of x)) as (λ v. entries_at whole (with_first p (delete_key_of x) ks (length front) v)
    ≡ cond v (x ∷ filter (λ d. p (delete_key_of d)) xs) (filter (λ d. p (delete_key_of d)) xs)) [
      | true ↦ ap (λ es. es ++ entries_at whole (numbers_from (length front + 1) p ks)) (at_front front x xs)
          ∙ ap (λ es. x ∷ es) rest
      | false ↦ rest
    ]

numbers_within : (n : ℕ) (p : DeleteKey → Bool) (files : List DeleteKey) (m : ℕ) → m + length files ≤ n
    → AreWithin n (numbers_from m p files)
numbers_within n p [] m h = tt
numbers_within n p (f ∷ fs) m h =
    let rest = numbers_within n p fs (m + 1) (omega arith) in
    elim (p f) as (λ v. AreWithin n (with_first p f fs m v)) [ true ↦ (omega arith, rest) | false ↦ rest ]

filter-same : {X : Type 0} (p q : X → Bool) → ((x : X) → p x ≡ q x) → (xs : List X) → filter p xs ≡ filter q xs
filter-same p q same [] = refl
filter-same p q same (x ∷ xs) = rw (same x, filter-same p q same xs) refl

positions_hold : (a : FileContent) → is_content PositionDeletes a ≡ same_content a PositionDeletes
positions_hold Data = refl
positions_hold PositionDeletes = refl
positions_hold EqualityDeletes = refl

equalities_hold : (a : FileContent) → is_content EqualityDeletes a ≡ same_content a EqualityDeletes
equalities_hold Data = refl
equalities_hold PositionDeletes = refl
equalities_hold EqualityDeletes = refl

module _ (deletes : List Entry) where
  abbrev keys : List DeleteKey
  keys = map delete_key_of deletes

  -- the delete files numbered by their places
  abbrev placed : List (ℕ × DeleteKey)
  placed = enumerate_from 0 keys

  abbrev chosen : FileContent → Entry → DeleteKey → Bool
  chosen content x d = key_holds content d && key_applies (data_key_of x) d

  files_at : (content : FileContent) → ((a : FileContent) → is_content content a ≡ same_content a content) → (x : Entry)
      → entries_at deletes (ascending (numbers_of content placed (data_key_of x)))
      ≡ filter (λ d. holds content d && applies x d) deletes
  files_at content same x =
      ap (entries_at deletes) (numbers_ascend (chosen content x) keys)
      ∙ entries_behind (chosen content x) [] deletes
      ∙ filter-same (λ d. key_holds content (delete_key_of d) && applies x d) (λ d. holds content d && applies x d)
      (λ d. ap (λ b. b && applies x d) (same d.file.content)) deletes

  line_is : (x : Entry) → line_at deletes x (places_of placed (data_key_of x)) ≡ line_of deletes x
  line_is x = rw (files_at PositionDeletes positions_hold x, files_at EqualityDeletes equalities_hold x) refl

  each_line_is : (files : List Entry)
      → lines_at deletes files (map (λ x. places_of placed (data_key_of x)) files) ≡ map (line_of deletes) files
  each_line_is [] = refl
  each_line_is (x ∷ xs) = rw (line_is x, each_line_is xs) refl

  length-keys : (xs : List Entry) → length (map delete_key_of xs) ≡ length xs
  length-keys [] = refl
  length-keys (x ∷ xs) = ap suc (length-keys xs)

  within : (content : FileContent) (x : Entry)
      → AreWithin (length deletes) (ascending (numbers_of content placed (data_key_of x)))
  within content x =
      subst (AreWithin (length deletes)) (sym (numbers_ascend (chosen content x) keys))
      (numbers_within (length deletes) (chosen content x) keys 0 (let e = length-keys deletes in omega arith))

  each_within : (files : List Entry)
      → AllByRecursion (IsLineWithin (length deletes)) (map (λ x. places_of placed (data_key_of x)) files)
  each_within [] = tt
  each_within (x ∷ xs) = ((within PositionDeletes x, within EqualityDeletes x), each_within xs)

  one_each : (files : List Entry) → length (map (λ x. places_of placed (data_key_of x)) files) ≡ length files
  one_each [] = refl
  one_each (x ∷ xs) = ap suc (one_each xs)

-- the lines with these places, and that the places are within
module _ (deletes files : List Entry) (places : List LinePlaces)
    (are : places ≡ map (λ x. places_of (enumerate_from 0 (map delete_key_of deletes)) (data_key_of x)) files) where
  pub lines_are : lines_at deletes files places ≡ map (line_of deletes) files
  lines_are = ap (lines_at deletes files) are ∙ each_line_is deletes files

  pub lines_fit : AreLinesOf files deletes places
  lines_fit = subst (λ (ps : List LinePlaces). AreLinesOf files deletes ps) (sym are)
      (record { each = one_each deletes files; within = each_within deletes files })
