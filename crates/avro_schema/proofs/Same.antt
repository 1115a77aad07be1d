-- A type stands for one tree, where the names stand for what their definitions stand for.
use Rattle.std.proofs.Common.{◌≡◌, ◌⊎◌, ℕ, suc, List, [], ◌∷◌, Option, Some, None, option_and_then, Ok, refl, sym, ap}
use Rattle.std.proofs.Common.{◌∙◌}
use mathlib.Core.Logic.{inl, inr}
use Rattle.std.specs.Prelude.{codes}
use Rattle.serde_json.specs.Data as json
use Rattle.serde_json.specs.Data.{Data, Items}
use Rattle.avro_schema.specs.declared.attributes.Kind.{Kind}
use Rattle.avro_schema.specs.declared.attributes.Kind.TheVariants as kind
use Rattle.avro_schema.specs.Tree.{Tree, null, octets, symbols, fixed, structure, union, array, map, Fields, field}
use Rattle.avro_schema.specs.Tree.{Branches, branch}
use Rattle.avro_schema.specs.View.{branches_of}
use Rattle.avro_schema.specs.Names.{Entry, lookup, put, space_of}
use Rattle.avro_schema.specs.Attributes.{id_in, items_in, is_object, symbols_in, size_in, array_kind, bytes_kind, plain}
use Rattle.avro_schema.specs.Attributes.{text_in}
use Rattle.avro_schema.specs.Reading.{defines}
use Rattle.avro_schema.specs.Texts.{json_of, schema_of}
use Rattle.avro_schema.specs.Inside.{kind_in, Uses, Defines}
use Rattle.avro_schema.specs.Order.{Node, parts_in, branch_nodes, field_nodes, Nth, first_part, later_part, At, root}
use Rattle.avro_schema.specs.Order.{below}
use Rattle.avro_schema.specs.Stands.{Meaning, Stands, used_name, plain_text, bytes_text, union_array, plain_object}
use Rattle.avro_schema.specs.Stands.{bytes_object, fixed_object, enum_object, array_object, map_object, record_object}
use Rattle.avro_schema.specs.Stands.{BranchesStand, no_branch, next_branch, FieldsStand, no_field, next_field, NamesOf}
use Rattle.avro_schema.proofs.Kept.{lookup-put_same}
use Rattle.avro_schema.proofs.Holding.{uses_kind, uses_no_definition, parts_kind, parts_items, parts_values}
use Rattle.avro_schema.proofs.Holding.{parts_fields}
use Rattle.avro_schema.proofs.Trace.{AllStand, all_none, all_next, Builds, NoUse, Closes, Took, took_use, took_plain}
use Rattle.avro_schema.proofs.Trace.{took_named, TookAll, took_none, took_next}
use Rattle.avro_schema.proofs.Traced.{plain_no_use, plain_type_no_use, union_no_use}
use Rattle.avro_schema.proofs.Whole.{fields_with, nodes_on}
use Rattle.avro_schema.proofs.Known.{Agrees, name_is, not_open, known_outside, one_use}
use Rattle.avro_schema.proofs.Faulty.{schema_took}

-- ---- the tree that a type makes of its parts' trees

abbrev or_null : Option Tree → Tree
or_null None = null
or_null (Some t) = t

abbrev array_of : Data → List Tree → Tree
array_of d [] = null
array_of d (t ∷ ts) = array t (id_in (codes "element-id") d) (array_kind d)

abbrev map_of : List Tree → Tree
map_of [] = null
map_of (t ∷ ts) = map t

abbrev record_of : Option Items → List Tree → Tree
record_of None ts = null
record_of (Some ds) ts = structure (fields_with ds ts)

abbrev enum_of : Option ℕ → Tree
enum_of None = null
enum_of (Some n) = symbols n

abbrev fixed_of : Data → Option ℕ → Tree
fixed_of d None = null
fixed_of d (Some n) = fixed n (bytes_kind d)

abbrev made_of : Option Kind → Data → List Tree → Tree
made_of None d ts = null
made_of (Some kind.Array) d ts = array_of d ts
made_of (Some kind.Map) d ts = map_of ts
made_of (Some kind.Record) d ts = record_of (items_in is_object (codes "fields") d) ts
made_of (Some kind.Enum) d ts = enum_of (symbols_in d)
made_of (Some kind.Fixed) d ts = fixed_of d (size_in d)
made_of (Some kind.Bytes) d ts = octets (bytes_kind d)
made_of (Some kind.Word) d ts = or_null (option_and_then plain (text_in (codes "type") d))

abbrev made : Data → List Tree → Tree
made json.null ts = null
made (json.boolean b) ts = null
made (json.number n) ts = null
made (json.string s) ts = or_null (plain s)
made (json.array ds) ts = union (branches_of ts)
made (json.object ms) ts = made_of (kind_in (json.object ms)) (json.object ms) ts

made_kind : (d : Data) (k : Kind) (ts : List Tree) → kind_in d ≡ Some k → made d ts ≡ made_of (Some k) d ts
made_kind json.null k ts h = absurd cc
made_kind (json.boolean b) k ts h = absurd cc
made_kind (json.number m) k ts h = absurd cc
made_kind (json.string x) k ts h = absurd cc
made_kind (json.array ds) k ts h = absurd cc
made_kind (json.object ms) k ts h = ap (λ (o : Option Kind). made_of o (json.object ms) ts) h

-- the parts stand for trees of which the type makes its own
abbrev Parted : Meaning → List ℕ → Data → Tree → Type 0
Parted names space d u = (us : List Tree) × (AllStand names (parts_in space d) us × (u ≡ made d us))

alone : (names : Meaning) (space : List ℕ) (d : Data) (u : Tree) → parts_in space d ≡ [] → u ≡ made d []
    → Parted names space d u
alone names space d u none is = let all : AllStand names (parts_in space d) [] = rw none all_none in ([], (all, is))

branches_parted : (names : Meaning) (space : List ℕ) (ds : Items) (bs : Branches) → BranchesStand names space ds bs
    → (us : List Tree) × (AllStand names (branch_nodes space ds) us × (bs ≡ branches_of us))
branches_parted names space ds bs no_branch = ([], (all_none, refl))
branches_parted names space ds bs (next_branch {ds = more} {t} {bs = others} single h rest) =
    let r = branches_parted names space more others rest in (t ∷ r.0, (all_next h r.1.0, ap (branch t) r.1.1))

fields_parted : (names : Meaning) (space : List ℕ) (ds : Items) (fs : Fields) → FieldsStand names space ds fs
    → (us : List Tree) × (AllStand names (field_nodes space ds) us × (fs ≡ fields_with ds us))
fields_parted names space ds fs no_field = ([], (all_none, refl))
fields_parted names space ds fs (next_field {d} {e} {ds = more} {t} {fs = others} named there h rest) =
    let r = fields_parted names space more others rest in
    let all : AllStand names (field_nodes space (json.item d more)) (t ∷ r.0) = rw (nodes_on space d e more there)
    (all_next h r.1.0) in
    (t ∷ r.0, (all, ap (field (id_in (codes "field-id") d) t) r.1.1))

only_one : (names : Meaning) (space : List ℕ) (d e : Data) (t : Tree) → parts_in space d ≡ (space, e) ∷ []
    → Stands names space e t → AllStand names (parts_in space d) (t ∷ [])
only_one names space d e t parts h = rw parts (all_next h all_none)

stands_parted : (names : Meaning) (space : List ℕ) (d : Data) (u : Tree) → NoUse space d → Stands names space d u
    → Parted names space d u
unfolding parts_in
stands_parted names space d u no_use (used_name {name} use_of is) = absurd (no_use name use_of)
stands_parted names space d u no_use (plain_text {s} k p) = alone names space (json.string s) u refl (rw p refl)
stands_parted names space d u no_use bytes_text = alone names space (json.string (codes "bytes")) u refl refl
stands_parted names space d u no_use (union_array {ds} {bs} h) = let r = branches_parted names space ds bs h in
    (r.0, (r.1.0, ap union r.1.1))
stands_parted names space d u no_use (plain_object {s} type k p) =
    let is : kind_in d ≡ Some kind.Word = rw (type, k) refl in
    alone names space d u (parts_kind space d kind.Word is) (sym (made_kind d kind.Word [] is ∙ rw (type, p) refl))
stands_parted names space d u no_use (bytes_object is) = alone names space d u (parts_kind space d kind.Bytes is)
    (sym (made_kind d kind.Bytes [] is))
stands_parted names space d u no_use (fixed_object is named there) = alone names space d u
    (parts_kind space d kind.Fixed is) (sym (made_kind d kind.Fixed [] is ∙ ap (fixed_of d) there))
stands_parted names space d u no_use (enum_object is named there) = alone names space d u (parts_kind space d kind.Enum
    is) (sym (made_kind d kind.Enum [] is ∙ ap enum_of there))
stands_parted names space d u no_use (array_object {e} {t} is there h) =
    (t ∷ [], (only_one names space d e t (parts_items space d e is there) h, sym (made_kind d kind.Array (t ∷ []) is)))
stands_parted names space d u no_use (map_object {e} {t} is there h) =
    (t ∷ [], (only_one names space d e t (parts_values space d e is there) h, sym (made_kind d kind.Map (t ∷ []) is)))
stands_parted names space d u no_use (record_object {name} {ds} {fs} is named there h) =
    let r = fields_parted names (space_of (defines space name d)) ds fs h in
    let all : AllStand names (parts_in space d) r.0 = rw (parts_fields space name d ds is named there) r.1.0 in (
      r.0,
      (
        all,
        ap structure r.1.1 ∙ sym (made_kind d kind.Record r.0 is ∙ ap (λ (o : Option Items). record_of o r.0)
            there),
      ),
    )

one_tree : (names : Meaning) (space : List ℕ) (d : Data) (ts : List Tree) (t : Tree) → NoUse space d
    → Builds space d ts t → ((us : List Tree) → AllStand names (parts_in space d) us → us ≡ ts) → (u : Tree)
    → Stands names space d u → u ≡ t
one_tree names space d ts t no_use builds same u h =
    let a = stands_parted names space d u no_use h in
    let all : AllStand names (parts_in space d) ts = rw (same a.0 a.1.0) at a.1.0 in
    let b = stands_parted names space d t no_use (builds names all) in
    a.1.1 ∙ ap (made d) (same a.0 a.1.0) ∙ ap (made d) (sym (same b.0 b.1.0)) ∙ sym b.1.1

-- ---- uses

use_stands : (names : Meaning) (space name : List ℕ) (d : Data) (v : Tree) → Uses space d name → Stands names space d v
    → names name ≡ Some v
use_stands names space name d v u (used_name {name = other} w is) = ap names (one_use space d name other u w) ∙ is
use_stands names space name d v u (plain_text {s} {t} k p) = absurd (plain_no_use space s name t p u)
use_stands names space name d v u (bytes_text) = absurd (plain_no_use space (codes "bytes") name v refl u)
use_stands names space name d v u (union_array {ds} h) = absurd (union_no_use space name ds u)
use_stands names space name d v u (plain_object {s} {t} type k p) = absurd (plain_type_no_use space s name d t type p u)
use_stands names space name d v u (bytes_object is) = absurd (uses_kind space name d kind.Bytes is u)
use_stands names space name d v u (fixed_object is named there) = absurd (uses_kind space name d kind.Fixed is u)
use_stands names space name d v u (enum_object is named there) = absurd (uses_kind space name d kind.Enum is u)
use_stands names space name d v u (array_object is there h) = absurd (uses_kind space name d kind.Array is u)
use_stands names space name d v u (map_object is there h) = absurd (uses_kind space name d kind.Map is u)
use_stands names space name d v u (record_object is named there h) = absurd (uses_kind space name d kind.Record is u)

pub some_is : (o : Option Tree) (a b : Tree) → o ≡ Some a → o ≡ Some b → a ≡ b
some_is o a b h k = let e : Some a ≡ Some b = sym h ∙ k in cc

-- ---- what was read

abbrev pub Complete : Meaning → List ℕ → Data → Type 0
Complete names space d = (place last name : List ℕ) (e : Data) → At place space d last e → Defines last e name
    → (t : Tree) × ((names name ≡ Some t) × Stands names last e t)

abbrev pub CompleteAmong : Meaning → List Node → Type 0
CompleteAmong names ns = (i : ℕ) (n : Node) (place last name : List ℕ) (e : Data) → Nth i n ns → At place n.0 n.1 last e
    → Defines last e name → (t : Tree) × ((names name ≡ Some t) × Stands names last e t)

pub complete_below : (names : Meaning) (space : List ℕ) (d : Data) → Complete names space d
    → CompleteAmong names (parts_in space d)
complete_below names space d complete i n place last name e nth at h = complete (i ∷ place) last name e (below nth at) h

pub complete_first : (names : Meaning) (n : Node) (ns : List Node) → CompleteAmong names (n ∷ ns)
    → Complete names n.0 n.1
complete_first names n ns complete place last name e at h = complete 0 n place last name e first_part at h

pub complete_later : (names : Meaning) (n : Node) (ns : List Node) → CompleteAmong names (n ∷ ns)
    → CompleteAmong names ns
complete_later names n ns complete i m place last name e nth at h = complete (suc i) m place last name e
    (later_part nth) at h

abbrev pub SameTree : Meaning → List ℕ → Data → Tree → Type 0
SameTree names space d t = (u : Tree) → Stands names space d u → u ≡ t

abbrev SameTrees : Meaning → List Node → List Tree → Type 0
SameTrees names ns ts = (us : List Tree) → AllStand names ns us → us ≡ ts

pub agrees_open : (names : Meaning) (own : List ℕ) (es : List Entry) → Agrees names es → Agrees names (put own None es)
agrees_open names own es agree = λ name t h. at name t h (known_outside own name es (Some t) h)
  where
    at : (name : List ℕ) (t : Tree) → lookup name (put own None es) ≡ Some (Some t)
        → (name ≡ own) ⊎ (lookup name es ≡ Some (Some t)) → names name ≡ Some t
    at name t h (inl same) = absurd (not_open (lookup name (put own None es)) t (name_is name own (put own None es)
        (Some None) same (lookup-put_same own None es)) h)
    at name t h (inr k) = agree name t k

agrees_closed : (names : Meaning) (own : List ℕ) (t : Tree) (fs gs : List Entry) → names own ≡ Some t
    → Closes own t fs gs → Agrees names fs → Agrees names gs
agrees_closed names own t fs gs is closed agree = λ name u h. at name u h (closed.1 name)
  where
    at : (name : List ℕ) (u : Tree) → lookup name gs ≡ Some (Some u) → (name ≡ own) ⊎ (lookup name gs ≡ lookup name fs)
        → names name ≡ Some u
    at name u h (inl same) =
        let e : Some (Some t) ≡ Some (Some u) = sym closed.0 ∙ sym (ap (λ (z : List ℕ). lookup z gs) same) ∙ h in
        let f : Some t ≡ Some u = cc in ap names same ∙ is ∙ f
    at name u h (inr e) = agree name u (sym e ∙ h)

none_same : (names : Meaning) (ns : List Node) (us : List Tree) → ns ≡ [] → AllStand names ns us → us ≡ []
none_same names ns us e all_none = refl
none_same names ns us e (all_next h rest) = absurd cc

next_same : (names : Meaning) (n : Node) (ns : List Node) (t : Tree) (ts us : List Tree) → SameTree names n.0 n.1 t
    → SameTrees names ns ts → AllStand names (n ∷ ns) us → us ≡ t ∷ ts
next_same names n ns t ts us one rest (all_next {t = u} {ts = others} h more) = rw (one u h, rest others more) refl

mutual
  pub took_same : {space : List ℕ} {d : Data} {es fs : List Entry} {t : Tree} → Took space d es t fs → (names : Meaning)
      → Complete names space d → Agrees names es → SameTree names space d t × Agrees names fs
  took_same (took_use {space} {name} {d} {t} w l) names complete agree =
      (λ u h. some_is (names name) u t (use_stands names space name d u w h) (agree name t l), agree)
  took_same (took_plain {space} {d} {ts} {t} a b c all builds) names complete agree =
      let r = all_same all names (complete_below names space d complete) agree in
      (one_tree names space d ts t a builds r.0, r.1)
  took_same (took_named {space} {own} {d} {es} {fs} {gs} {ts} {t} makes new ids all closed builds) names complete agree
      =
      let r = all_same all names (complete_below names space d complete) (agrees_open names own es agree) in
      let one : SameTree names space d t = one_tree names space d ts t (λ name w. uses_no_definition space name d own w
      makes) builds r.0 in
      let whole = complete [] space own d root makes in
      let is : names own ≡ Some t = whole.1.0 ∙ ap Some (one whole.0 whole.1.1) in
      (one, agrees_closed names own t fs gs is closed r.1)

  all_same : {ns : List Node} {es fs : List Entry} {ts : List Tree} → TookAll ns es ts fs → (names : Meaning)
      → CompleteAmong names ns → Agrees names es → SameTrees names ns ts × Agrees names fs
  all_same took_none names complete agree = (λ us h. none_same names [] us refl h, agree)
  all_same (took_next {n} {ns} {t} {ts} one rest) names complete agree =
      let first = took_same one names (complete_first names n ns complete) agree in
      let later = all_same rest names (complete_later names n ns complete) first.1 in
      (λ us h. next_same names n ns t ts us first.0 later.0 h, later.1)

pub schema_only : (text : List ℕ) (d : Data) (names : Meaning) (t u : Tree) → json_of text ≡ Ok d → NamesOf d names
    → Stands names [] d u → schema_of text ≡ Ok t → t ≡ u
schema_only text d names t u is of stands ok =
    let took = schema_took text d t is ok in
    let agree : Agrees names [] = λ name v h. absurd cc in
    let same = took_same took.1 names (λ place last name e at h. of.0 place last name e at h) agree in
    sym (same.0 u stands)
