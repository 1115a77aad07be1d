-- Types as field paths go through them.
use Rattle.std.specs.Prelude.{◌≡◌, ℕ, ℤ, List, [], ◌∷◌, map, Bool, true, false, ◌||◌, Option, Some, None, Vec}
use Rattle.std.specs.Prelude.{Result, Ok, Err}
use Rattle.std.specs.Prelude.{if◌then◌else◌}
use Rattle.std.specs.Global.{Global}
use Rattle.std.specs.Ordering.{int_eq}
use Rattle.std.specs.Option.{option_eq}
use Rattle.avro_schema.specs.Tree.{Tree, structure, array, union, Fields, no_fields, field, Branches, no_branches}
use Rattle.avro_schema.specs.Tree.{branch}
use Rattle.avro_schema.specs.View.{tree}
use Rattle.avro_file_parts.specs.declared.place.Place.{Place}
use Rattle.avro_file_parts.specs.declared.refusal.Refusal.{Refusal}
use Rattle.avro_file.specs.Alike.{EndAlike}
use Rattle.avro_file.specs.Blocks.{StandsAt}
use Rattle.avro_file.specs.Picking.{Picked, present}
use Rattle.avro_file.specs.Value.{Value}
use Rattle.avro_file_picked.specs.Picked.{value_met}
use Rattle.avro_file_picked.specs.Finding.{ReadsAt, items_in, items_type}
use Rattle.avro_file_picked.specs.declared.guide.GuidedObject.{GuidedObject}
use denote.Ref.{Bor}
use Rattle.avro_file.specs.Spelling.{takes_bytes}
use Rattle.avro_file_picked.specs.declared.guide.Guide.{Guide, fold-Guide}
use Rattle.avro_file_picked.specs.declared.guide.Guide.TheOpen.{Guide-F}

-- ---- a guide, without where it lies in memory

mutual
  -- the id of the field, its type, the type by which its values are passed, and its parts
  pub data Guided : Type 0 where
    guided : Option ℤ → Tree → Tree → Guides → Guided

  pub data Guides : Type 0 where
    no_guides : Guides
    guide : Guided → Guides → Guides

abbrev pub guides_of : List Guided → Guides
guides_of [] = no_guides
guides_of (g ∷ gs) = guide g (guides_of gs)

abbrev pub guide_step : Guide-F Guided → Guided
guide_step g = guided g.id (tree g.schema.now) (tree g.passing) (guides_of g.parts.items)

abbrev pub seen : Guide → Guided
seen = fold-Guide Guided guide_step

abbrev pub all_seen : List Guide → Guides
all_seen gs = guides_of (map seen gs)

-- ---- what field paths ask for

abbrev pub ids_in : List (Vec ℤ Global) → List (List ℤ)
ids_in field_paths = map (λ field_path. field_path.items) field_paths

-- the id is on the field path
abbrev pub is_on : List ℤ → Option ℤ → Bool
is_on [] id = false
is_on (passed ∷ field_path) id = option_eq int_eq id (Some passed) || is_on field_path id

-- the id is on one of the field paths
abbrev pub asks : List (List ℤ) → Option ℤ → Bool
asks [] id = false
asks (field_path ∷ field_paths) id = is_on field_path id || asks field_paths id

-- each id of the field path is one that the field paths ask for
abbrev pub AreAsked : List (List ℤ) → List ℤ → Type 0
AreAsked field_paths [] = Unit {0}
AreAsked field_paths (id ∷ field_path) = (asks field_paths (Some id) ≡ true) × AreAsked field_paths field_path

-- the fields that take bytes or that a field path asks for
abbrev pub kept : List (List ℤ) → Fields → Fields
kept field_paths no_fields = no_fields
kept field_paths (field id t fs) = if takes_bytes t || asks field_paths id then field id t
    (kept field_paths fs) else kept field_paths fs

-- ---- guides of types

-- branches, as fields without ids
abbrev pub as_fields : Branches → Fields
as_fields no_branches = no_fields
as_fields (branch t bs) = field None t (as_fields bs)

-- what field paths may go through: of a record the fields that are kept, of a union its branches, and of an array its
-- items
abbrev pub inner : List (List ℤ) → Tree → Fields
inner field_paths (structure fs) = kept field_paths fs
inner field_paths (union bs) = as_fields bs
inner field_paths (array t id kind) = field None t no_fields
inner field_paths t = no_fields

abbrev pub type_guided : Guided → Tree
type_guided (guided id t passing parts) = t

abbrev pub id_guided : Guided → Option ℤ
id_guided (guided id t passing parts) = id

abbrev mutual
  -- values are passed by a type that ends alike, and field paths go on through the parts
  pub IsGuide : List (List ℤ) → Guided → Type 0
  IsGuide field_paths (guided id t passing parts) = EndAlike passing t
      × AreParts field_paths parts (inner field_paths t)

  pub AreParts : List (List ℤ) → Guides → Fields → Type 0
  AreParts field_paths no_guides no_fields = Unit {0}
  AreParts field_paths (guide g gs) (field id t fs) = (id_guided g ≡ id) × (type_guided g ≡ t) × IsGuide field_paths g
      × AreParts field_paths gs fs
  AreParts field_paths gs fs = ⊥

-- a guide of this type
abbrev pub IsGuideOf : List (List ℤ) → Tree → Guide → Type 0
IsGuideOf field_paths t g = (type_guided (seen g) ≡ t) × IsGuide field_paths (seen g)

-- ---- what guides find

-- reading never fails there, and leads to what is met, by a guide of its type
abbrev pub GuidesTo : List (List ℤ) → ℕ → Picked → Result (Option (Bor Guide × Place)) Refusal → Type 0
GuidesTo field_paths left met (Ok (Some x)) = (v : Value) × ReadsAt (type_guided (seen x.0.now)) x.1 left v
    × (met ≡ present (type_guided (seen x.0.now), v)) × IsGuide field_paths (seen x.0.now)
GuidesTo field_paths left met (Ok None) = value_met met ≡ None
GuidesTo field_paths left met (Err e) = ⊥

-- this guide is of the type of the items, if the type is an array
abbrev pub HasItems : List (List ℤ) → Tree → Option (Bor Guide) → Type 0
HasItems field_paths t (Some g) = (items_in t ≡ Some (type_guided (seen g.now))) × IsGuide field_paths (seen g.now)
HasItems field_paths t None = items_in t ≡ None

-- this guide is of the type of the items of the list that was met, if one was
abbrev pub GuidesItems : List (List ℤ) → Option (Bor Guide) → Picked → Type 0
GuidesItems field_paths (Some g) met = (t : Tree) × (items_type met ≡ Some t) × IsGuideOf field_paths t g.now
GuidesItems field_paths None met = items_type met ≡ None

-- the value of this type stands there, and the guide is of that type
abbrev pub IsGuided : List (List ℤ) → Tree → Value → GuidedObject → Type 0
IsGuided field_paths t v o = IsGuideOf field_paths t o.guide.now × StandsAt t o.bytes.now v

-- a guide of this type, by which these ids are found
abbrev pub IsGuideFor : List ℤ → Tree → Guide → Type 0
IsGuideFor ids t g = (field_paths : List (List ℤ)) × IsGuideOf field_paths t g × AreAsked field_paths ids

-- the guide, if there is one, is of the type of the items of the list that was met, and these ids are found by it
abbrev pub MayGuide : List ℤ → Option (Bor Guide) → Picked → Type 0
MayGuide ids (Some g) met = (t : Tree) × (items_type met ≡ Some t) × IsGuideFor ids t g.now
MayGuide ids None met = Unit {0}
