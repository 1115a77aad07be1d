-- A type as the row of the types that are read one after the other, and where each of their values begins.
-- Avro 1.11.1 specification, 'Records': the values of the fields, one after the other, with nothing between them.
use Rattle.std.specs.Prelude.{◌≡◌, ◌≤◌, ℕ, zero, suc, ℤ, List, [], ◌∷◌, ◌++◌, length, drop, map, Option, Some, None, Ok}
use Rattle.std.specs.Prelude.{IfSome, Vec}
use Rattle.std.specs.Global.{Global}
use Rattle.std.specs.Prelude.{nat_lt, if◌then◌else◌}
use Rattle.avro_schema.specs.Tree.{Tree, null, fixed, structure, Fields, no_fields, field}
use Rattle.avro_schema.specs.View.{tree}
use Rattle.avro_file.specs.Value.{Value, values_of}
use Rattle.avro_file.specs.Reading.{datum_at, fields_at}
use Rattle.avro_file.specs.Alike.{EndAlike}
use Rattle.avro_file.specs.Ending.{standing, EndsCounted}
use Rattle.avro_file.specs.Blocks.{max_items, StandsAt}
use Rattle.avro_file.specs.Picking.{Picked, unless_absent, field_value, pick}
use Rattle.avro_file_picked.specs.declared.row.Step.{Step}
use Rattle.avro_file_picked.specs.declared.row.Lead.{Lead}
use Rattle.avro_file_picked.specs.Picked.{value_met}

-- records in records are opened, and types whose values take no bytes are left out; every other type stays whole
abbrev mutual
  pub row : Tree → List Tree
  row null = []
  row (fixed n kind) = if nat_lt 0 n then fixed n kind ∷ [] else []
  row (structure fs) = row_of fs
  row t = t ∷ []

  pub row_of : Fields → List Tree
  row_of no_fields = []
  row_of (field id t fs) = row t ++ row_of fs

abbrev pub trees_of : List Step → List Tree
trees_of steps = map (λ step. tree step.schema) steps

-- as many types, and values of each end where those of the other do
abbrev pub AreAlike : List Tree → List Tree → Type 0
AreAlike [] [] = Unit {0}
AreAlike (s ∷ ss) (t ∷ ts) = EndAlike s t × AreAlike ss ts
AreAlike ss ts = ⊥

-- A value of each type stands in the bytes, one after the other, and begins at its place; so many items are left at
-- the end.
abbrev pub Stand : List Tree → List ℕ → List ℕ → ℕ → ℕ → ℕ → ℕ → Type 0
Stand [] [] bytes at left end after = (at ≡ end) × (left ≡ after)
Stand (t ∷ ts) (a ∷ places) bytes at left end after = (mid : ℕ) × (next : ℕ) × (a ≡ at)
    × EndsCounted (datum_at t) bytes at left mid next × Stand ts places bytes mid next end after
Stand ts places bytes at left end after = ⊥

-- the place of the k-th value; behind the last of them it is where the row ends
abbrev pub place_at : List ℕ → ℕ → ℕ → ℕ
place_at [] end k = end
place_at (a ∷ places) end zero = a
place_at (a ∷ places) end (suc k) = place_at places end k

-- the value of this type that begins at a place of a row, and from which picking goes on as from the whole
abbrev pub IsLedTo : Option Lead → List ℤ → List ℕ → ℕ → List ℕ → Picked → Type 0
IsLedTo None field_path places end bytes met = value_met met ≡ None
IsLedTo (Some lead) field_path places end bytes met = (v : Value) × (place_at places end lead.step ≤ length bytes)
    × StandsAt (tree lead.schema.now) (drop (place_at places end lead.step) bytes) v
    × (met ≡ pick (drop lead.passed field_path) (tree lead.schema.now, v))

-- where the field path leads in each row that is read of this type
abbrev pub IsLead : Tree → List ℤ → Option Lead → Type 0
IsLead t field_path lead = (bytes : List ℕ) (at left end after : ℕ) (places : List ℕ) (v : Value) → at ≤ length bytes
    → left ≤ max_items → Stand (row t) places bytes at left end after
    → datum_at t (standing bytes at left) ≡ Ok (v, standing bytes end after)
    → IsLedTo lead field_path places end bytes (pick field_path (t, v))

-- where the field path leads below the field with this id, in each row of the fields that is read
abbrev pub IsLeadBelow : Fields → ℤ → List ℤ → Option Lead → Type 0
IsLeadBelow fs id field_path lead = (bytes : List ℕ) (at left end after : ℕ) (places : List ℕ) (vs : List Value)
    → at ≤ length bytes → left ≤ max_items → Stand (row_of fs) places bytes at left end after
    → fields_at fs (standing bytes at left) ≡ Ok (vs, standing bytes end after)
    → IsLedTo lead (id ∷ field_path) places end bytes
    (unless_absent (pick field_path) (field_value id fs (values_of vs)))

-- where each field path leads
abbrev pub AreLeads : Tree → List (Vec ℤ Global) → List (Option Lead) → Type 0
AreLeads t [] [] = Unit {0}
AreLeads t (field_path ∷ field_paths) (lead ∷ leads) = IsLead t field_path.items lead
    × IfSome lead (λ l. l.passed ≤ length field_path.items)
    × AreLeads t field_paths leads
AreLeads t field_paths leads = ⊥
