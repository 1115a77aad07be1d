-- What is found in an object, and what a layout asks for.
-- Avro 1.11.1 specification, 'Binary Encoding': a value is read where its bytes begin.
use Rattle.std.specs.Prelude.{◌≡◌, ◌≤◌, ℕ, ℤ, List, map, Option, Some, None, option_map, Result, Ok, Err, Vec}
use Rattle.std.specs.Prelude.{[], ◌∷◌, Bool, true, false, ◌⊎◌}
use Rattle.std.specs.Global.{Global}
use denote.Ref.{Bor}
use Rattle.avro_schema.specs.Tree.{Tree, null, structure, array, union, Fields, no_fields, Branches}
use Rattle.avro_schema.specs.View.{tree}
use Rattle.avro_schema.specs.declared.schema.Schema.{Schema}
use Rattle.avro_file_parts.specs.declared.place.Place.{Place}
use Rattle.avro_file_parts.specs.declared.refusal.Refusal.{Refusal}
use Rattle.avro_file_parts.specs.Place.{position_of}
use Rattle.avro_file_parts.specs.Parts.{Position}
use Rattle.avro_file.specs.declared.datum.Datum.{Datum}
use Rattle.avro_file.specs.declared.fault.AvroFault.{AvroFault}
use Rattle.avro_file.specs.declared.fault.AvroFault.TheVariants.{Memory}
use Rattle.avro_file.specs.Value.{Value}
use Rattle.avro_file.specs.View.{view}
use Rattle.avro_file.specs.Reading.{datum_at}
use Rattle.avro_file.specs.Blocks.{StandsAt}
use Rattle.avro_file.specs.Picking.{Typed, Picked, present, field_with, unless_null, unless_absent, pick}
use Rattle.avro_file.specs.Ahead.{Ahead}
use Rattle.avro_file.specs.Files.{Next}
use Rattle.avro_file_picked.specs.declared.found.Found.{Found}
use Rattle.avro_file_picked.specs.declared.layout.Layout.{Layout}
use Rattle.avro_file_picked.specs.Picked.{value_met, all_picked}

-- what a found value is, which lies at the front of its bytes
abbrev pub Shows : Found → Value → Type 0
Shows f v = StandsAt (tree f.schema.now) f.bytes.now v

-- what was found is what is met, by the type of a branch that was chosen
abbrev pub IsMet : Option Found → Picked → Type 0
IsMet (Some f) met = (v : Value) × Shows f v × (met ≡ present (tree f.schema.now, v))
IsMet None met = value_met met ≡ None

-- a value of this type is read at the place, by a reader that could read so many items
abbrev pub ReadsAt : Tree → Place → ℕ → Value → Type 0
ReadsAt s place left v = (place.left ≤ left) × (after : Position) × (datum_at s (position_of place) ≡ Ok (v, after))

-- ---- types on the field path

-- the fields of a record; any other type has none
abbrev pub fields_in : Tree → Fields
fields_in (structure fs) = fs
fields_in t = no_fields

-- a record's type
abbrev pub is_structure : Tree → Bool
is_structure (structure fs) = true
is_structure t = false

-- the branches of a union
abbrev pub branches_in : Tree → Option Branches
branches_in (union bs) = Some bs
branches_in t = None

-- the type of an array's items
abbrev pub items_in : Tree → Option Tree
items_in (array t id kind) = Some t
items_in t = None

-- the type of the items of a list that was met
abbrev pub items_type : Picked → Option Tree
items_type (present x) = items_in x.0
items_type met = None

-- the type whose only value is null
abbrev pub has_null_only : Tree → Bool
has_null_only null = true
has_null_only t = false

-- where the field path leads from a value that is no union's, or that a union chose
abbrev pub within : List ℤ → Typed → Picked
within [] x = unless_null present x
within (id ∷ ids) x = unless_null (λ y. unless_absent (pick ids) (field_with id y)) x

-- reading never fails there, and leads to what is met
abbrev pub LeadsTo : ℕ → Picked → Result (Option (Bor Schema × Place)) Refusal → Type 0
LeadsTo left met (Ok (Some x)) = (v : Value) × ReadsAt (tree x.0.now) x.1 left v × (met ≡ present (tree x.0.now, v))
LeadsTo left met (Ok None) = value_met met ≡ None
LeadsTo left met (Err e) = ⊥

-- ---- layouts

abbrev pub layout_tree : Layout → Tree
layout_tree l = tree l.schema.now

abbrev pub field_paths_of : Layout → List (List ℤ)
field_paths_of l = map (λ field_path. field_path.items) l.field_paths.items

-- what was picked, without where it lies in memory
abbrev pub seen : Vec (Option Datum) Global → List (Option Value)
seen found = map (option_map view) found.items

-- these are what stands where the field paths lead
abbrev pub ArePicked : Tree → List (List ℤ) → Vec (Option Datum) Global → Value → Type 0
ArePicked s field_paths found v = seen found ≡ all_picked s v field_paths

-- what next gives, seen along the field paths; or memory lacks, and nothing was passed
abbrev pub NextPicked : Tree → List (List ℤ) → Ahead → Result (Option (Vec (Option Datum) Global)) AvroFault → Ahead
    → Type 0
NextPicked s field_paths old result new = Next (ArePicked s field_paths) old result new ⊎
    ((result ≡ Err Memory) × (new ≡ old))
