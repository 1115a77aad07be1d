-- What only one of two plans has is told.
use Rattle.std.proofs.Common.{◌≡◌, ℕ, Bool, true, false, List, [], ◌∷◌, refl, sym, ◌∙◌, Option, Some, None}
use Rattle.std.specs.List.{AllByRecursion, Contains}
use Rattle.std.specs.Str.{bytes_eq}
use Rattle.std.proofs.lemmas.List.Elements.{All-contains, All-from_recursion}
use Rattle.std.proofs.lemmas.Slice.Eq.{bytes_eq-Decides}
use Rattle.ice_state.specs.Lines.{OwnedLine}
use Rattle.icescan_changes.specs.Changes.{line_changes, line_path}
use Rattle.icescan_changes.specs.Meanings.{AreAlike, IsByPath, changes_of, line_of}
use Rattle.icescan_changes.proofs.Alike.{untold}

-- where no line of a path is found, each has another
other_paths : (plan : List OwnedLine) (path : List ℕ) → line_of plan path ≡ None
    → AllByRecursion (λ l. bytes_eq path (line_path l) ≡ false) plan
other_paths [] path none = tt
other_paths (l ∷ ls) path none = cases (other_paths ls path) (bytes_eq path (line_path l)) refl where
  cases : (line_of ls path ≡ None → AllByRecursion (λ l. bytes_eq path (line_path l) ≡ false) ls) → (t : Bool)
      → bytes_eq path (line_path l) ≡ t → AllByRecursion (λ l. bytes_eq path (line_path l) ≡ false) (l ∷ ls)
  cases next true is = let clash : Some l ≡ None = rw is at none in absurd cc
  cases next false is = let rest : line_of ls path ≡ None = rw is at none in (is, next rest)

pub is_found : (plan : List OwnedLine) (line : OwnedLine) → Contains plan line → line_of plan (line_path line) ≡ None
    → ⊥
is_found plan line has none =
    let path = line_path line in
    let other : bytes_eq path path ≡ false = All-contains (λ (l : OwnedLine). bytes_eq path (line_path l) ≡ false) plan
    line (All-from_recursion (λ (l : OwnedLine). bytes_eq path (line_path l) ≡ false) plan
    (other_paths plan path none)) has in
    let clash : true ≡ false = sym ((bytes_eq-Decides path path).1 refl) ∙ other in
    absurd cc

none_later : (x y : Option OwnedLine) → x ≡ None → AreAlike x y → y ≡ None
none_later None None e h = refl
none_later None (Some b) e h = absurd h
none_later (Some a) y e h = absurd cc

none_earlier : (x y : Option OwnedLine) → y ≡ None → AreAlike x y → x ≡ None
none_earlier None y e h = refl
none_earlier (Some a) None e h = absurd h
none_earlier (Some a) (Some b) e h = absurd cc

module _ (earlier later : List OwnedLine) (line : OwnedLine) (h : IsByPath earlier) (k : IsByPath later) where
  pub added_told : Contains later line → line_of earlier (line_path line) ≡ None
      → changes_of (line_changes earlier later) (line_path line) ≡ [] → ⊥
  added_told has lacks none = is_found later line has
      (none_later (line_of earlier (line_path line)) (line_of later (line_path line)) lacks
      (untold earlier later (line_path line) h k none))

  pub removed_told : Contains earlier line → line_of later (line_path line) ≡ None
      → changes_of (line_changes earlier later) (line_path line) ≡ [] → ⊥
  removed_told has lacks none = is_found earlier line has
      (none_earlier (line_of earlier (line_path line)) (line_of later (line_path line)) lacks
      (untold earlier later (line_path line) h k none))
