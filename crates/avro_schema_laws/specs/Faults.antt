-- The faults that a stop of the walk has, given the stops before it, and the first of a walk. Avro 1.11.1, "Names";
-- field ids by the Iceberg table spec, Appendix A, "Avro". The limits of nodes and levels are our own.
use Rattle.std.specs.Prelude.{◌≡◌, ◌<◌, ℕ, suc, ◌+◌, ℤ, List, [], ◌∷◌, true, false, Some, codes}
use Rattle.std.specs.Str.{is_utf8}
use Rattle.serde_json.specs.Data.{Data, Items}
use Rattle.serde_json.specs.Read.{read}
use Rattle.avro_schema.specs.declared.fault.SchemaFault.{SchemaFault}
use Rattle.avro_schema.specs.declared.fault.SchemaFault.TheVariants.{UnknownType, UnknownName, Recursive, TooBig}
use Rattle.avro_schema.specs.declared.fault.SchemaFault.TheVariants.{FieldTwice, NameTwice}
use Rattle.avro_schema.specs.Tree.{Tree}
use Rattle.avro_schema.specs.Size.{nodes, depth}
use Rattle.avro_schema.specs.Attributes.{id_in}
use Rattle.avro_schema.specs.Inside.{Among, Uses, Defines}
use Rattle.avro_schema.specs.Stands.{Meaning, Stands}
use Rattle.avro_schema.specs.Texts.{most_nodes, most_levels}
use Rattle.avro_schema_laws.specs.Walk.{Place, Stop, at_type, at_field, walk}
use Rattle.avro_schema_laws.specs.Sound.{is_type, is_field}

-- the text is this JSON, in UTF-8
abbrev pub IsJson : List ℕ → Data → Type 0
IsJson text d = (is_utf8 text ≡ true) × (read text ≡ Some d)

pub data OneOf {A : Type 0} : A → List A → Type 0 where
  first_one : {x : A} {xs : List A} → OneOf x (x ∷ xs)
  later_one : {x y : A} {xs : List A} → OneOf x xs → OneOf x (y ∷ xs)

-- one of the stops defines the name
abbrev pub Met : List Stop → List ℕ → Type 0
Met before name = (p : Place) × (d : Data) × OneOf (at_type p d) before × Defines p.space d name

-- Each name that the stops define has the tree that its definition stands for. Those of the records around have none
-- yet.
abbrev pub NamesOf : List Stop → List (List ℕ) → Meaning → Type 0
NamesOf before records names = (p : Place) (d : Data) (name : List ℕ) → OneOf (at_type p d) before
    → Defines p.space d name → (OneOf name records → ⊥)
    → (t : Tree) × ((names name ≡ Some t) × Stands names p.space d t)

-- the types at the stops are so many nodes, where a name that is used counts with the whole tree of its definition
pub data Takes (names : Meaning) : List Stop → ℕ → Type 0 where
  nothing : Takes names [] 0
  a_use : {p : Place} {d : Data} {name : List ℕ} {t : Tree} {before : List Stop} {n : ℕ} → Uses p.space d name
      → names name ≡ Some t → Takes names before n → Takes names (at_type p d ∷ before) (nodes t + n)
  no_use : {p : Place} {d : Data} {before : List Stop} {n : ℕ} → ((name : List ℕ) → Uses p.space d name → ⊥)
      → Takes names before n → Takes names (at_type p d ∷ before) (suc n)
  no_node : {fs : Items} {f : Data} {before : List Stop} {n : ℕ} → Takes names before n
      → Takes names (at_field fs f ∷ before) n

-- so many nodes more, behind those of the stops, and so many levels from here on are too many
pub data IsTooBig (before : List Stop) (p : Place) (more levels : ℕ) : Type 0 where
  too_deep : p.levels < levels → IsTooBig before p more levels
  too_many : {names : Meaning} {n : ℕ} → NamesOf before p.records names → Takes names before n
      → most_nodes < n + more → IsTooBig before p more levels

-- there is room for the type, and it is one
abbrev pub IsSound : List Stop → Place → Data → Type 0
IsSound before p d = (IsTooBig before p 1 1 → ⊥) × (is_type p.is_branch d ≡ true)

-- A stop has one fault at most. A type is counted before anything is read of it; then it has to be a type; then come
-- the names, and the tree of a name that is used. Of a field its name and that it has a type come before its id, which
-- no field before it in the record may have.
pub data IsFault (before : List Stop) : Stop → SchemaFault → Type 0 where
  no_room : {p : Place} {d : Data} → IsTooBig before p 1 1 → IsFault before (at_type p d) TooBig
  no_type : {p : Place} {d : Data} → (IsTooBig before p 1 1 → ⊥) → is_type p.is_branch d ≡ false
      → IsFault before (at_type p d) UnknownType
  unknown : {p : Place} {d : Data} {name : List ℕ} → IsSound before p d → Uses p.space d name
      → (Met before name → ⊥) → IsFault before (at_type p d) UnknownName
  recursive : {p : Place} {d : Data} {name : List ℕ} → IsSound before p d → Uses p.space d name
      → OneOf name p.records → IsFault before (at_type p d) Recursive
  no_room_again : {p : Place} {d : Data} {name : List ℕ} {names : Meaning} {t : Tree} → IsSound before p d
      → Uses p.space d name → Met before name → (OneOf name p.records → ⊥) → NamesOf before p.records names
      → names name ≡ Some t → IsTooBig before p (nodes t) (depth t) → IsFault before (at_type p d) TooBig
  twice : {p : Place} {d : Data} {name : List ℕ} → IsSound before p d → Defines p.space d name → Met before name
      → IsFault before (at_type p d) NameTwice
  no_field : {fs : Items} {f : Data} → is_field f ≡ false → IsFault before (at_field fs f) UnknownType
  id_twice : {fs : Items} {f g : Data} {id : ℤ} → is_field f ≡ true → id_in (codes "field-id") f ≡ Some id
      → Among g fs → id_in (codes "field-id") g ≡ Some id → IsFault before (at_field fs f) (FieldTwice id)

-- The first of the stops that has a fault has this one. Those before them stand in front, the last first.
pub data FirstFault : List Stop → List Stop → SchemaFault → Type 0 where
  here : {before more : List Stop} {s : Stop} {e : SchemaFault} → IsFault before s e → FirstFault before (s ∷ more) e
  later : {before more : List Stop} {s : Stop} {e : SchemaFault} → ((f : SchemaFault) → IsFault before s f → ⊥)
      → FirstFault (s ∷ before) more e → FirstFault before (s ∷ more) e

-- the first fault on the walk from the root
abbrev pub HasFirstFault : Data → SchemaFault → Type 0
HasFirstFault d e = FirstFault [] (walk most_levels false [] [] d) e
