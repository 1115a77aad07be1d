-- The files that a commit writes.
use Rattle.std.specs.Prelude.{ℕ, List}
use Rattle.uuid.specs.Text.{hyphenated_text, lower}
use Rattle.ice_catalog_changes.specs.declared.change.Ids.{Ids}

-- paths, each with the bytes of its file, in the order in which they are written
abbrev pub Added : Type 0
Added = List (List ℕ × List ℕ)

-- what the name of each begins with, or has
abbrev pub uuid_text : Ids → List ℕ
uuid_text ids = hyphenated_text lower ids.uuid
