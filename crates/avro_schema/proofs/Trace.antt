-- What reading a type did to the names that were met: each rule once, so that what follows needs no reader.
use Rattle.std.proofs.Common.{◌≡◌, ◌⊎◌, ℕ, List, [], ◌∷◌, Option, Some, None}
use Rattle.std.specs.Prelude.{⊤, ℤ, codes}
use Rattle.serde_json.specs.Data.{Data, Items}
use Rattle.avro_schema.specs.declared.fault.SchemaFault.{SchemaFault}
use Rattle.avro_schema.specs.declared.fault.SchemaFault.TheVariants.{NotJson, UnknownType, UnknownName, Recursive}
use Rattle.avro_schema.specs.declared.fault.SchemaFault.TheVariants.{TooBig, FieldTwice, Memory, NameTwice}
use Rattle.avro_schema.specs.declared.attributes.Kind.TheVariants as kind
use Rattle.avro_schema.specs.Tree.{Tree}
use Rattle.avro_schema.specs.Names.{Entry, lookup, put}
use Rattle.avro_schema.specs.Attributes.{items_in, is_object}
use Rattle.avro_schema.specs.Inside.{kind_in, Uses, Defines}
use Rattle.avro_schema.specs.Order.{Node, parts_in}
use Rattle.avro_schema.specs.Stands.{Meaning, Stands}
use Rattle.avro_schema.specs.Faults.{IdTwice}

-- each part stands for its tree
pub data AllStand : Meaning → List Node → List Tree → Type 0 where
  all_none : {names : Meaning} → AllStand names [] []
  all_next : {names : Meaning} {n : Node} {ns : List Node} {t : Tree} {ts : List Tree} → Stands names n.0 n.1 t
      → AllStand names ns ts → AllStand names (n ∷ ns) (t ∷ ts)

-- the type stands for the tree where its parts stand for theirs
abbrev pub Builds : List ℕ → Data → List Tree → Tree → Type 0
Builds space d ts t = (names : Meaning) → AllStand names (parts_in space d) ts → Stands names space d t

abbrev pub NoUse : List ℕ → Data → Type 0
NoUse space d = (name : List ℕ) → Uses space d name → ⊥

abbrev pub NoDefinition : List ℕ → Data → Type 0
NoDefinition space d = (name : List ℕ) → Defines space d name → ⊥

abbrev pub NoIdTwice : Data → Type 0
NoIdTwice d = (id : ℤ) (ds : Items) → kind_in d ≡ Some kind.Record → items_in is_object (codes "fields") d ≡ Some ds
    → IdTwice id ds → ⊥

-- a definition is closed: its name has its tree, and nothing else changes
abbrev pub Closes : List ℕ → Tree → List Entry → List Entry → Type 0
Closes own t es fs = (lookup own fs ≡ Some (Some t)) × ((name : List ℕ)
    → (name ≡ own) ⊎ (lookup name fs ≡ lookup name es))

mutual
  -- a type was read with the names before it, gave the tree and left the names after it
  pub data Took : List ℕ → Data → List Entry → Tree → List Entry → Type 0 where
    took_use : {space name : List ℕ} {d : Data} {es : List Entry} {t : Tree} → Uses space d name
        → lookup name es ≡ Some (Some t) → Took space d es t es
    took_plain : {space : List ℕ} {d : Data} {es fs : List Entry} {ts : List Tree} {t : Tree} → NoUse space d
        → NoDefinition space d → NoIdTwice d → TookAll (parts_in space d) es ts fs → Builds space d ts t
        → Took space d es t fs
    took_named : {space own : List ℕ} {d : Data} {es fs gs : List Entry} {ts : List Tree} {t : Tree}
        → Defines space d own → lookup own es ≡ None → NoIdTwice d → TookAll (parts_in space d) (put own None es) ts fs
        → Closes own t fs gs → Builds space d ts t → Took space d es t gs

  pub data TookAll : List Node → List Entry → List Tree → List Entry → Type 0 where
    took_none : {es : List Entry} → TookAll [] es [] es
    took_next : {n : Node} {ns : List Node} {es fs gs : List Entry} {t : Tree} {ts : List Tree} → Took n.0 n.1 es t fs
        → TookAll ns fs ts gs → TookAll (n ∷ ns) es (t ∷ ts) gs

-- a fault of which nothing is said here
abbrev pub Another : SchemaFault → Type 0
Another NotJson = ⊤
Another UnknownType = ⊤
Another UnknownName = ⊥
Another Recursive = ⊤
Another TooBig = ⊤
Another (FieldTwice id) = ⊥
Another Memory = ⊤
Another NameTwice = ⊥

mutual
  -- a type was read with the names before it, and had the fault
  pub data Failed : List ℕ → Data → List Entry → SchemaFault → Type 0 where
    failed_other : {space : List ℕ} {d : Data} {es : List Entry} {e : SchemaFault} → Another e → Failed space d es e
    failed_use : {space name : List ℕ} {d : Data} {es : List Entry} {e : SchemaFault} → e ≡ UnknownName
        → Uses space d name → lookup name es ≡ None → Failed space d es e
    failed_name : {space own : List ℕ} {d : Data} {es : List Entry} {x : Option Tree} {e : SchemaFault} → e ≡ NameTwice
        → Defines space d own → lookup own es ≡ Some x → Failed space d es e
    failed_id : {space : List ℕ} {d : Data} {es : List Entry} {id : ℤ} {ds : Items} {e : SchemaFault}
        → e ≡ FieldTwice id → kind_in d ≡ Some kind.Record → items_in is_object (codes "fields") d ≡ Some ds
        → IdTwice id ds → Failed space d es e
    failed_plain : {space : List ℕ} {d : Data} {es : List Entry} {e : SchemaFault} → NoUse space d
        → NoDefinition space d → FailedIn (parts_in space d) es e → Failed space d es e
    failed_named : {space own : List ℕ} {d : Data} {es : List Entry} {e : SchemaFault} → Defines space d own
        → lookup own es ≡ None → FailedIn (parts_in space d) (put own None es) e → Failed space d es e

  pub data FailedIn : List Node → List Entry → SchemaFault → Type 0 where
    failed_first : {n : Node} {ns : List Node} {es : List Entry} {e : SchemaFault} → Failed n.0 n.1 es e
        → FailedIn (n ∷ ns) es e
    failed_later : {n : Node} {ns : List Node} {es fs : List Entry} {t : Tree} {e : SchemaFault} → Took n.0 n.1 es t fs
        → FailedIn ns fs e → FailedIn (n ∷ ns) es e
