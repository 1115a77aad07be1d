-- Full names, and the names that were met. Avro 1.11.1, "Names": a name with a dot is full, any other is in a
-- namespace.
use Rattle.std.specs.Prelude.{ℕ, List, [], ◌∷◌, ◌++◌, Bool, false, ◌||◌, ◌==◌, Option, Some, None, if◌then◌else◌}
use Rattle.std.specs.declared.cmp.Ordering.{Ordering}
use Rattle.std.specs.Ordering.{nat_cmp, match_ordering, on, then_cmp}
use Rattle.std.specs.Cmp.{IsTotalOrder, then_total, on_total}
use Rattle.std.specs.Cmp.Lexicographic.{slice_cmp, nat_list_cmp_total}
use Rattle.avro_schema.specs.Tree.{Tree}

-- whether a dot (46) is in the text
unfoldable pub dotted : List ℕ → Bool
dotted [] = false
dotted (x ∷ s) = x == 46 || dotted s

-- the text before the last dot
unfoldable pub space_of : List ℕ → List ℕ
space_of [] = []
space_of (x ∷ s) = if dotted s then x ∷ space_of s else []

-- the text behind the last dot; all of it, where it has none
unfoldable pub last_of : List ℕ → List ℕ
last_of [] = []
last_of (x ∷ s) = if dotted (x ∷ s) then last_of s else x ∷ s

-- a name in a namespace; an empty one is none
abbrev pub within : List ℕ → List ℕ → List ℕ
within [] name = name
within (x ∷ space) name = (x ∷ space) ++ 46 ∷ name

-- what a name in a namespace stands for
unfoldable pub full : List ℕ → List ℕ → List ℕ
full space name = if dotted name then name else within space name

-- the namespace that a definition gives, or the one around it
abbrev pub or_around : Option (List ℕ) → List ℕ → List ℕ
or_around None space = space
or_around (Some s) space = s

-- a full name, with its tree once its definition is whole
abbrev pub Entry : Type 0
Entry = List ℕ × Option Tree

-- what is known of a name
abbrev pub lookup : List ℕ → List Entry → Option (Option Tree)
lookup name [] = None
lookup name (e ∷ es) = match_ordering (slice_cmp nat_cmp name e.0) (lookup name es) (Some e.1) (lookup name es)

-- the order of full names: by their last parts, and then whole
abbrev pub name_order : List ℕ → List ℕ → Ordering
name_order = then_cmp (on last_of (slice_cmp nat_cmp)) (slice_cmp nat_cmp)

pub names_total : IsTotalOrder name_order
names_total = then_total (on_total last_of nat_list_cmp_total) nat_list_cmp_total

-- the entries in the order of their names, with x at the name
abbrev pub put : List ℕ → Option Tree → List Entry → List Entry
put name x [] = (name, x) ∷ []
put name x (e ∷ es) =
    match_ordering (name_order name e.0) ((name, x) ∷ e ∷ es) ((e.0, x) ∷ es) (e ∷ put name x es)
