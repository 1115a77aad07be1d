-- The files that some snapshots alone reach, and those that are reached without them, have no file in common and are
-- together all.
use Rattle.std.specs.Prelude.{◌≡◌, ◌⊎◌, ℕ, List}
use Rattle.std.specs.List.{Contains}
use Rattle.icescan_parts.specs.Alone.{alone, path_of}
use Rattle.icescan_reachable.specs.Lines.{line}
use Rattle.icescan_reachable.specs.declared.kind.FileKind.{FileKind}

-- one of the lines is of this file, whatever it is to the table
abbrev pub Tells : List (List ℕ) → List ℕ → Type 0
Tells lines file = (kind : FileKind) × Contains lines (line kind file)

-- one of the lines has the path of this line
abbrev pub HasPathOf : List (List ℕ) → List ℕ → Type 0
HasPathOf lines text = (other : List ℕ) × Contains lines other × (path_of other ≡ path_of text)

-- lines that are left alone, and the rest: no file has a line in both
abbrev pub AreApart : Type 0
AreApart = (all rest : List (List ℕ)) (file : List ℕ) → Tells (alone all rest) file → Tells rest file → ⊥

-- each of all lines is left alone, or its path has a line in the rest
abbrev pub AreTogether : Type 0
AreTogether = (all rest : List (List ℕ)) (text : List ℕ) → Contains all text
    → Contains (alone all rest) text ⊎ HasPathOf rest text

-- what is left alone was there
abbrev pub AreNoMore : Type 0
AreNoMore = (all rest : List (List ℕ)) (text : List ℕ) → Contains (alone all rest) text → Contains all text
