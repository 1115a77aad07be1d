-- The tree that a schema's JSON names, or the first fault on a walk from the root, fields and branches in their order.
-- Avro 1.11.1, "Schema Declaration" and "Names"; field ids by the Iceberg table spec, Appendix A, "Avro". The two
-- limits are our own. At one type the faults come in this order: too big, no type that is known, no name that is known,
-- a name inside its own definition, a name that is defined twice.
use Rattle.std.specs.Prelude.{ℕ, zero, suc, ◌-◌, ℤ, List, [], ◌∷◌, ◌++◌, Bool, Option, Some, None, Result, Ok, Err}
use Rattle.std.specs.Prelude.{if◌then◌else◌, codes, nat_lt}
use Rattle.std.specs.Ordering.{int_eq}
use Rattle.std.specs.List.{list_any}
use Rattle.std.specs.Option.{option_eq}
use Rattle.serde_json.specs.Data as json
use Rattle.serde_json.specs.Data.{Data, Items}
use Rattle.serde_json.specs.Find.{get}
use Rattle.avro_schema.specs.declared.fault.SchemaFault.{SchemaFault}
use Rattle.avro_schema.specs.declared.fault.SchemaFault.TheVariants.{UnknownType, UnknownName, Recursive, TooBig}
use Rattle.avro_schema.specs.declared.fault.SchemaFault.TheVariants.{FieldTwice, NameTwice}
use Rattle.avro_schema.specs.declared.reading.Role.{Role}
use Rattle.avro_schema.specs.declared.reading.Role.TheVariants as role
use Rattle.avro_schema.specs.declared.attributes.Kind.{Kind}
use Rattle.avro_schema.specs.declared.attributes.Kind.TheVariants as kind
use Rattle.contract_words.specs.Outcome.{◌>>=◌}
use Rattle.avro_schema.specs.Tree.{Tree, octets, fixed, symbols, structure, array, map, union}
use Rattle.avro_schema.specs.Size.{below, height, left_after}
use Rattle.avro_schema.specs.View.{Part, fields_of, branches_of}
use Rattle.avro_schema.specs.Names.{full, space_of, or_around, Entry, lookup, put}
use Rattle.avro_schema.specs.Attributes.{text_in, name_in, is_object, items_in, symbols_in, id_in, array_kind}
use Rattle.avro_schema.specs.Attributes.{bytes_kind, size_in, plain, kind_of}

-- what a walk carries along: the names that were met, and how many nodes may still come
pub record Seen : Type 0 where
  pub names : List Entry
  pub left : ℕ

-- what was read, and what the walk carries on, or the first fault
abbrev pub Read : Type 0 → Type 0
Read A = Result (A × Seen) SchemaFault

-- how a type inside another is read: its role there, and the namespace around it
abbrev pub Reader : Type 0
Reader = Role → List ℕ → Data → Seen → Read Tree

-- an attribute that must be there
abbrev pub asked : {A : Type 0} → Option A → Result A SchemaFault
asked None = Err UnknownType
asked (Some x) = Ok x

-- ---- names

-- a tree once more, where so many nodes would be left after it
abbrev pub if_left : ℕ → Tree → Option ℕ → Seen → Read Tree
if_left most t None seen = Err TooBig
if_left most t (Some left) seen = if nat_lt most (height t) then Err TooBig else Ok (t, record seen { left = left })

-- the tree of a definition once more, at a node that was counted and that may have so many levels below it: all nodes
-- below the root count again
abbrev pub repeated : ℕ → Tree → Seen → Read Tree
repeated most t seen = if_left most t (left_after seen.left (below t)) seen

-- a name that is used: never defined, defined around the place of use, or defined before
abbrev pub used : ℕ → Option (Option Tree) → Seen → Read Tree
used most None seen = Err UnknownName
used most (Some None) seen = Err Recursive
used most (Some (Some t)) seen = repeated most t seen

abbrev pub plain_or_used : ℕ → Option Tree → List ℕ → Seen → Read Tree
plain_or_used most (Some t) name seen = Ok (t, seen)
plain_or_used most None name seen = used most (lookup name seen.names) seen

-- the type that a text names: a primitive one, before any definition of that name
unfoldable pub named : ℕ → List ℕ → List ℕ → Seen → Read Tree
named most space s seen = plain_or_used most (plain s) (full space s) seen

-- the names with the new one, unless it was there
abbrev pub if_new : Option (Option Tree) → Seen → Result Seen SchemaFault
if_new None seen = Ok seen
if_new (Some e) seen = Err NameTwice

-- a name that is defined; it has no tree while its definition is open
unfoldable pub defined : List ℕ → Option Tree → Seen → Result Seen SchemaFault
defined name x seen = if_new (lookup name seen.names) (record seen { names = put name x seen.names })

-- the full name that an object defines
abbrev pub defines : List ℕ → List ℕ → Data → List ℕ
defines space name d = full (or_around (text_in (codes "namespace") d) space) name

-- ---- types

-- what the items are read as, one after the other; front is what those before were read as
unfoldable pub each_at : {A : Type 0} → (List A → Data → Seen → Read A) → List A → Items → Seen → Read (List A)
each_at read front json.no_items seen = Ok (front, seen)
each_at read front (json.item d ds) seen = read front d seen >>= λ x. each_at read (front ++ x.0 ∷ []) ds x.1

-- a branch does not ask for those before it
abbrev pub whatever_before : {A : Type 0} → (Data → Seen → Read A) → List A → Data → Seen → Read A
whatever_before read front = read

abbrev pub branches_at : (Data → Seen → Read Tree) → List Tree → Items → Seen → Read (List Tree)
branches_at read = each_at (whatever_before read)

abbrev pub has_id : ℤ → Part → Bool
has_id id f = option_eq int_eq f.0 (Some id)

-- an id that no field before has
abbrev pub fresh : Option ℤ → List Part → Result (Option ℤ) SchemaFault
fresh None front = Ok None
fresh (Some id) front = if list_any (has_id id) front then Err (FieldTwice id) else Ok (Some id)

-- a field is no node: its name and that it has a type come before its id, and its id before its type
unfoldable pub field_at : (Data → Seen → Read Tree) → List Part → Data → Seen → Read Part
field_at read front d seen = do
  name ← asked (name_in d)
  type ← asked (get (codes "type") d)
  id ← fresh (id_in (codes "field-id") d) front
  t ← read type seen
  Ok ((id, t.0), t.1)

abbrev pub fields_at : (Data → Seen → Read Tree) → List Part → Items → Seen → Read (List Part)
fields_at read = each_at (field_at read)

-- the fields are read in the namespace of the record's full name, which is open meanwhile
unfoldable pub record_at : Reader → List ℕ → Data → Seen → Read Tree
record_at read space d seen = do
  name ← asked (name_in d)
  items ← asked (items_in is_object (codes "fields") d)
  opened ← defined (defines space name d) None seen
  fields ← fields_at (read role.Elsewhere (space_of (defines space name d))) [] items opened
  Ok (
    structure (fields_of fields.0),
    record {
      names = put (defines space name d)
          (Some (structure (fields_of fields.0))) fields.1.names;
      left = fields.1.left;
    },
  )

unfoldable pub array_at : Reader → List ℕ → Data → Seen → Read Tree
array_at read space d seen = do
  items ← asked (get (codes "items") d)
  t ← read role.Elsewhere space items seen
  Ok (array t.0 (id_in (codes "element-id") d) (array_kind d), t.1)

unfoldable pub map_at : Reader → List ℕ → Data → Seen → Read Tree
map_at read space d seen = do
  values ← asked (get (codes "values") d)
  t ← read role.Elsewhere space values seen
  Ok (map t.0, t.1)

unfoldable pub enum_at : List ℕ → Data → Seen → Read Tree
enum_at space d seen = do
  name ← asked (name_in d)
  count ← asked (symbols_in d)
  now ← defined (defines space name d) (Some (symbols count)) seen
  Ok (symbols count, now)

unfoldable pub fixed_at : List ℕ → Data → Seen → Read Tree
fixed_at space d seen = do
  name ← asked (name_in d)
  size ← asked (size_in d)
  now ← defined (defines space name d) (Some (fixed size (bytes_kind d))) seen
  Ok (fixed size (bytes_kind d), now)

-- the type of an object, by what its type text says
abbrev pub of_kind : Reader → ℕ → List ℕ → Kind → List ℕ → Data → Seen → Read Tree
of_kind read most space kind.Array s d seen = array_at read space d seen
of_kind read most space kind.Map s d seen = map_at read space d seen
of_kind read most space kind.Record s d seen = record_at read space d seen
of_kind read most space kind.Enum s d seen = enum_at space d seen
of_kind read most space kind.Fixed s d seen = fixed_at space d seen
of_kind read most space kind.Bytes s d seen = Ok (octets (bytes_kind d), seen)
of_kind read most space kind.Word s d seen = named most space s seen

unfoldable pub object_at : Reader → ℕ → List ℕ → Data → Seen → Read Tree
object_at read most space d seen = asked (text_in (codes "type") d) >>= λ s.
    of_kind read most space (kind_of s) s d seen

-- a text alone; a complex type needs its attributes and so an object
abbrev pub of_word : ℕ → List ℕ → Kind → List ℕ → Seen → Read Tree
of_word most space kind.Array s seen = Err UnknownType
of_word most space kind.Map s seen = Err UnknownType
of_word most space kind.Record s seen = Err UnknownType
of_word most space kind.Enum s seen = Err UnknownType
of_word most space kind.Fixed s seen = Err UnknownType
of_word most space kind.Bytes s seen = named most space s seen
of_word most space kind.Word s seen = named most space s seen

unfoldable pub text_at : ℕ → List ℕ → List ℕ → Seen → Read Tree
text_at most space s seen = of_word most space (kind_of s) s seen

-- a union is no branch of a union
unfoldable pub union_at : Reader → Role → List ℕ → Items → Seen → Read Tree
union_at read role.Branch space ds seen = Err UnknownType
union_at read role.Elsewhere space ds seen = branches_at (read role.Branch space) [] ds seen >>= λ x.
    Ok (union (branches_of x.0), x.1)

unfoldable pub node_at : Reader → ℕ → Role → List ℕ → Data → Seen → Read Tree
node_at read most at space json.null seen = Err UnknownType
node_at read most at space (json.boolean b) seen = Err UnknownType
node_at read most at space (json.number n) seen = Err UnknownType
node_at read most at space (json.string s) seen = text_at most space s seen
node_at read most at space (json.array ds) seen = union_at read at space ds seen
node_at read most at space (json.object ms) seen = object_at read most space (json.object ms) seen

-- a node takes one of those that may come
abbrev pub counted : Seen → Result Seen SchemaFault
counted seen = if nat_lt 0 seen.left then Ok (record seen { left = seen.left - 1 }) else Err TooBig

-- the tree of a type, where so many levels may come: its node is counted before anything is read of it
unfoldable pub tree_at : ℕ → Reader
tree_at zero at space d seen = Err TooBig
tree_at (suc most) at space d seen = counted seen >>= λ now. node_at (tree_at most) most at space d now
