-- Where the values of an object begin, as a layout places them.
use Rattle.std.specs.Prelude.{◌≡◌, ◌≤◌, ℕ, zero, suc, ℤ, List, [], ◌∷◌, length, Option, Some, None, IfSome}
use Rattle.avro_schema.specs.Tree.{Tree}
use Rattle.avro_schema.specs.View.{tree}
use Rattle.avro_file.specs.declared.object.Object.{Object}
use Rattle.avro_file.specs.Alike.{EndAlike}
use Rattle.avro_file.specs.Blocks.{max_items}
use Rattle.avro_file_picked.specs.declared.layout.Layout.{Layout}
use Rattle.avro_file_picked.specs.declared.places.Places.{Places}
use Rattle.avro_file_picked.specs.Rows.{row, trees_of, AreAlike, Stand, AreLeads}
use Rattle.avro_file_picked.specs.Finding.{layout_tree, field_paths_of}
use Rattle.avro_file_picked.specs.Guides.{IsGuideOf}

-- the k-th field path
abbrev pub nth_field_path : List (List ℤ) → ℕ → List ℤ
nth_field_path [] k = []
nth_field_path (field_path ∷ field_paths) zero = field_path
nth_field_path (field_path ∷ field_paths) (suc k) = nth_field_path field_paths k

abbrev pub field_path_of : Layout → ℕ → List ℤ
field_path_of l k = nth_field_path (field_paths_of l) k

-- Its steps end as the row of its type does, in which its leads go where its field paths do. The type that it passes
-- objects
-- by ends as its own, and its guide is one of its type.
abbrev pub IsLayout : Layout → Type 0
IsLayout l = AreAlike (trees_of l.steps.items) (row (layout_tree l))
    × AreLeads (layout_tree l) l.field_paths.items l.leads.items × EndAlike (tree l.passing) (layout_tree l)
    × IfSome l.guide (IsGuideOf (field_paths_of l) (layout_tree l))

-- a list with a place for each value
abbrev pub FitsLayout : Layout → Places → Type 0
FitsLayout l p = IsLayout l × (length p.starts.items ≡ length l.steps.items)

-- the row ends there, if it was looked through
abbrev pub StandTo : Option ℕ → List Tree → List ℕ → List ℕ → Type 0
StandTo None ts places bytes = Unit {0}
StandTo (Some end) ts places bytes = (end ≤ length bytes) × (left : ℕ) × Stand ts places bytes 0 max_items end left

-- the places of the values of this object, which is of the layout's type
abbrev pub ArePlaced : Layout → Object → Places → Type 0
ArePlaced l o p = IsLayout l × (tree o.schema.now ≡ layout_tree l)
    × StandTo p.end (row (layout_tree l)) p.starts.items o.bytes.now
