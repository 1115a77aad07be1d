-- What changes mean for each path, a plan being a map from paths of data files to lines.
use Rattle.std.specs.Prelude.{◌≡◌, ◌⊎◌, ℕ, List, [], ◌∷◌, Option, Some, None}
use Rattle.ice_state.specs.Lines.{OwnedLine}
use Rattle.icescan_changes.specs.Changes.{line_path, lines_told}
use Rattle.icescan_changes.specs.Walks.{Rises, about_path, at, told_by}
use Rattle.icescan_changes.specs.declared.changes.Change.{Change}
use Rattle.icescan_changes.specs.declared.changes.Change.TheVariants as change

-- the paths of a plan's data files rise, as those of any plan do
abbrev pub IsByPath : List OwnedLine → Type 0
IsByPath plan = Rises line_path change.Removed change.Added lines_told plan

-- the line of a path, where a plan has one
abbrev pub line_of : List OwnedLine → List ℕ → Option OwnedLine
line_of plan path = at line_path change.Removed change.Added lines_told plan path

-- the path that a change is about
abbrev pub path_of : Change → List ℕ
path_of (change.Removed l) = line_path l
path_of (change.Added l) = line_path l
path_of (change.Altered l positions equalities) = line_path l

-- those of the changes that are about a path
abbrev pub changes_of : List Change → List ℕ → List Change
changes_of changes path = about_path line_path change.Removed change.Added lines_told path_of path changes

-- What there is to tell of a path, by the lines that both plans have of it: nothing where neither has one, that it was
-- removed or added where one has none, and of two lines what `lines_told` says.
abbrev pub told_of : Option OwnedLine → Option OwnedLine → List Change
told_of earlier later = told_by line_path change.Removed change.Added lines_told earlier later

-- the line of a path after such changes, in turn
abbrev pub after : List Change → Option OwnedLine → Option OwnedLine
after [] found = found
after (change.Removed l ∷ changes) found = after changes None
after (change.Added l ∷ changes) found = after changes (Some l)
after (change.Altered l positions equalities ∷ changes) found = after changes (Some l)

-- one line, or two of which there is nothing to tell
abbrev pub AreAlike : Option OwnedLine → Option OwnedLine → Type 0
AreAlike None None = Unit {0}
AreAlike (Some a) (Some b) = (a ≡ b) ⊎ (lines_told a b ≡ [])
AreAlike _ _ = ⊥
