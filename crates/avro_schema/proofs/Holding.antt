-- Which types hold others, use a name or define one.
use Rattle.std.proofs.Common.{◌≡◌, ℕ, List, [], ◌∷◌, Option, Some, None, refl, sym, ap, ◌∙◌}
use Rattle.std.specs.Prelude.{⊤, codes}
use Rattle.serde_json.specs.Data as json
use Rattle.serde_json.specs.Data.{Data, Items}
use Rattle.serde_json.specs.Find.{get}
use Rattle.avro_schema.specs.declared.attributes.Kind.{Kind}
use Rattle.avro_schema.specs.declared.attributes.Kind.TheVariants as kind
use Rattle.avro_schema.specs.Names.{space_of}
use Rattle.avro_schema.specs.Attributes.{name_in, items_in, is_object}
use Rattle.avro_schema.specs.Reading.{defines}
use Rattle.avro_schema.specs.Inside.{kind_in, Uses, a_text, a_type, Defines, a_record, an_enum, a_fixed}
use Rattle.avro_schema.specs.Order.{field_nodes, record_nodes, nodes_of, parts_in}

pub one_kind : (d : Data) (k j : Kind) → kind_in d ≡ Some k → kind_in d ≡ Some j → k ≡ j
one_kind d k j h i = let e : Some k ≡ Some j = sym h ∙ i in cc

abbrev pub IsWord : Kind → Type 0
IsWord kind.Array = ⊥
IsWord kind.Map = ⊥
IsWord kind.Record = ⊥
IsWord kind.Enum = ⊥
IsWord kind.Fixed = ⊥
IsWord kind.Bytes = ⊥
IsWord kind.Word = ⊤

abbrev pub IsNamed : Kind → Type 0
IsNamed kind.Array = ⊥
IsNamed kind.Map = ⊥
IsNamed kind.Record = ⊤
IsNamed kind.Enum = ⊤
IsNamed kind.Fixed = ⊤
IsNamed kind.Bytes = ⊥
IsNamed kind.Word = ⊥

pub uses_kind : (space name : List ℕ) (d : Data) (k : Kind) → kind_in d ≡ Some k → Uses space d name → IsWord k
uses_kind space name d k is (a_text w p) = absurd cc
uses_kind space name d k is (a_type {word} type w p) = let e : kind.Word ≡ k = one_kind d kind.Word k
    (rw (type, w) refl) is in rw (← e) tt

pub defines_kind : (space : List ℕ) (d : Data) (name : List ℕ) (k : Kind) → kind_in d ≡ Some k → Defines space d name
    → IsNamed k
defines_kind space d name k is (a_record r n) = let e : kind.Record ≡ k = one_kind d kind.Record k r is in rw (← e) tt
defines_kind space d name k is (an_enum r n) = let e : kind.Enum ≡ k = one_kind d kind.Enum k r is in rw (← e) tt
defines_kind space d name k is (a_fixed r n) = let e : kind.Fixed ≡ k = one_kind d kind.Fixed k r is in rw (← e) tt

some_kind : (d : Data) (k : Kind) → kind_in d ≡ None → kind_in d ≡ Some k → ⊥
some_kind d k none is = let e : None ≡ Some k = sym none ∙ is in absurd cc

pub defines_no_kind : (space : List ℕ) (d : Data) (name : List ℕ) → kind_in d ≡ None → Defines space d name → ⊥
defines_no_kind space d name none (a_record r n) = some_kind d kind.Record none r
defines_no_kind space d name none (an_enum r n) = some_kind d kind.Enum none r
defines_no_kind space d name none (a_fixed r n) = some_kind d kind.Fixed none r

-- a use defines nothing
pub uses_no_definition : (space name : List ℕ) (d : Data) (other : List ℕ) → Uses space d name → Defines space d other
    → ⊥
uses_no_definition space name d other u (a_record r n) = uses_kind space name d kind.Record r u
uses_no_definition space name d other u (an_enum r n) = uses_kind space name d kind.Enum r u
uses_no_definition space name d other u (a_fixed r n) = uses_kind space name d kind.Fixed r u

own_name : (space : List ℕ) (d : Data) (own : List ℕ) → Defines space d own
    → (name : List ℕ) × ((name_in d ≡ Some name) × (own ≡ defines space name d))
own_name space d own (a_record {name} r n) = (name, (n, refl))
own_name space d own (an_enum {name} r n) = (name, (n, refl))
own_name space d own (a_fixed {name} r n) = (name, (n, refl))

-- a type defines one name
pub one_definition : (space : List ℕ) (d : Data) (own other : List ℕ) → Defines space d own → Defines space d other
    → own ≡ other
one_definition space d own other h k =
    let a = own_name space d own h in
    let b = own_name space d other k in
    let e : Some a.0 ≡ Some b.0 = sym a.1.0 ∙ b.1.0 in
    let same : a.0 ≡ b.0 = cc in
    a.1.1 ∙ ap (λ (z : List ℕ). defines space z d) same ∙ sym b.1.1

-- ---- parts

pub parts_kind : (space : List ℕ) (d : Data) (k : Kind) → kind_in d ≡ Some k
    → parts_in space d ≡ nodes_of (Some k) space d
unfolding parts_in
parts_kind space json.null k h = absurd cc
parts_kind space (json.boolean b) k h = absurd cc
parts_kind space (json.number m) k h = absurd cc
parts_kind space (json.string x) k h = absurd cc
parts_kind space (json.array ds) k h = absurd cc
parts_kind space (json.object ms) k h = ap (λ (o : Option Kind). nodes_of o space (json.object ms)) h

pub parts_items : (space : List ℕ) (d e : Data) → kind_in d ≡ Some kind.Array → get (codes "items") d ≡ Some e
    → parts_in space d ≡ (space, e) ∷ []
parts_items space d e is there = parts_kind space d kind.Array is ∙ rw there refl

pub parts_values : (space : List ℕ) (d e : Data) → kind_in d ≡ Some kind.Map → get (codes "values") d ≡ Some e
    → parts_in space d ≡ (space, e) ∷ []
parts_values space d e is there = parts_kind space d kind.Map is ∙ rw there refl

pub parts_fields : (space name : List ℕ) (d : Data) (ds : Items) → kind_in d ≡ Some kind.Record → name_in d ≡ Some name
    → items_in is_object (codes "fields") d ≡ Some ds → parts_in space d ≡ field_nodes (space_of (defines space name d))
    ds
parts_fields space name d ds is named there = parts_kind space d kind.Record is ∙ ap (λ (o : Option (List ℕ)).
    record_nodes space o (items_in is_object (codes "fields") d) d) named ∙ ap (λ (o : Option Items). record_nodes space
    (Some name) o d) there

pub parts_use : (space name : List ℕ) (d : Data) → Uses space d name → parts_in space d ≡ []
unfolding parts_in
parts_use space name d (a_text w p) = refl
parts_use space name d (a_type {word} type w p) = parts_kind space d kind.Word (rw (type, w) refl)
