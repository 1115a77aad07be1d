-- A schema that uses no name is accepted with its shape, where the limits hold, unless a name or an id stands twice.
use Rattle.std.proofs.Common.{◌≡◌, ℕ, zero, suc, ◌+◌, ◌≤◌, ◌<◌, Bool, true, false, List, [], ◌∷◌, ◌++◌, Option, Some}
use Rattle.std.proofs.Common.{None, Result, Ok, Err, refl, ap, ◌∙◌, arith}
use Rattle.std.proofs.lemmas.Bool.{lt-ltb}
use Rattle.std.specs.Prelude.{MatchResult, ⊤, codes, ℤ, nat_lt, if◌then◌else◌}
use Rattle.std.specs.List.{list_any}
use Rattle.serde_json.specs.Data as json
use Rattle.serde_json.specs.Data.{Data, Items}
use Rattle.serde_json.specs.Find.{get, as_array}
use Rattle.avro_schema.specs.declared.fault.SchemaFault.{SchemaFault}
use Rattle.avro_schema.specs.declared.fault.SchemaFault.TheVariants.{FieldTwice}
use Rattle.avro_schema.specs.declared.reading.Role.{Role}
use Rattle.avro_schema.specs.declared.reading.Role.TheVariants as role
use Rattle.contract_words.specs.Outcome.{◌>>=◌}
use Rattle.avro_schema.specs.Tree.{Tree, symbols, fixed, structure, union, array, map, Fields, field, Branches, branch}
use Rattle.avro_schema.specs.Size.{below, in_fields, in_branches, height, deepest_field, deepest_branch, nodes, depth}
use Rattle.avro_schema.specs.View.{Part, fields_of, branches_of}
use Rattle.avro_schema.specs.Names.{lookup, space_of}
use Rattle.avro_schema.specs.Attributes.{name_in, id_in, items_in, is_object, symbols_in, size_in, array_kind}
use Rattle.avro_schema.specs.Attributes.{bytes_kind, plain}
use Rattle.avro_schema.specs.Reading.{Seen, Reader, has_id, fresh, named, if_new, defined, defines, each_at}
use Rattle.avro_schema.specs.Reading.{branches_at, field_at, fields_at, record_at, array_at, map_at, enum_at, fixed_at}
use Rattle.avro_schema.specs.Reading.{text_at, union_at, node_at, counted, tree_at}
use Rattle.avro_schema.specs.Shape.{Shape, word, bytes_word, a_union, a_word, some_bytes, a_fixed, an_enum, an_array}
use Rattle.avro_schema.specs.Shape.{a_map, a_record, BranchShapes, none, more, FieldShapes, no_more, one_more, IsTwice}
use Rattle.avro_schema.specs.Texts.{json_of, schema_of, most_nodes, most_levels}
use Rattle.avro_schema.proofs.Limits.{IfLeaf, plain_leaf}
use Rattle.avro_schema.proofs.Shapes.{before_branches, before_branches-push, before_branches-none, before_fields}
use Rattle.avro_schema.proofs.Shapes.{before_fields-push, before_fields-none, object_is}

-- P of the value, or a fault of something that stands twice
abbrev Gives : {A : Type 0} → Result A SchemaFault → (A → Type 0) → Type 0
Gives r P = MatchResult r P IsTwice

bind_gives : {A B : Type 0} (P : A → Type 0) (Q : B → Type 0) (r : Result A SchemaFault) (f : A → Result B SchemaFault)
    → Gives r P → ((x : A) → P x → Gives (f x) Q) → Gives (r >>= f) Q
bind_gives P Q (Ok x) f h k = k x h
bind_gives P Q (Err e) f h k = h

gives_weaker : {A : Type 0} (r : Result A SchemaFault) (P Q : A → Type 0) → ((x : A) → P x → Q x) → Gives r P
    → Gives r Q
gives_weaker (Ok x) P Q f h = f x h
gives_weaker (Err e) P Q f h = h

-- ---- steps

fresh_gives : (o : Option ℤ) (front : List Part) → Gives (fresh o front) (λ x. x ≡ o)
fresh_gives None front = refl
fresh_gives (Some id) front = or_not (list_any (has_id id) front) id
  where
    or_not : (b : Bool) (id : ℤ) → Gives (if b then Err (FieldTwice id) else Ok (Some id)) (λ x. x ≡ Some id)
    or_not true id = tt
    or_not false id = refl

if_new_gives : (o : Option (Option Tree)) (s : Seen) → Gives (if_new o s) (λ q. q.left ≡ s.left)
if_new_gives None s = refl
if_new_gives (Some e) s = tt

defined_gives : (name : List ℕ) (x : Option Tree) (s : Seen) → Gives (defined name x s) (λ q. q.left ≡ s.left)
unfolding defined
defined_gives name x s = if_new_gives (lookup name s.names) _

counted_gives : (s : Seen) → 0 < s.left → Gives (counted s) (λ now. suc now.left ≡ s.left)
counted_gives s some = let e : nat_lt 0 s.left ≡ true = lt-ltb 0 s.left some in rw e (omega (arith, some))

-- ---- the kinds of types

abbrev Here : Tree → ℕ → Tree × Seen → Type 0
Here t left x = (x.0 ≡ t) × (x.1.left + below t ≡ left)

abbrev There : Tree → ℕ → Tree × Seen → Type 0
There t left x = (x.0 ≡ t) × (x.1.left + nodes t ≡ left)

-- a branch is no union
abbrev Stands : Role → Data → Type 0
Stands role.Branch d = as_array d ≡ None
Stands role.Elsewhere d = ⊤

abbrev Accepts : ℕ → Reader → Type 0
Accepts n read = (at : Role) (space : List ℕ) (d : Data) (s : Seen) (t : Tree) → Stands at d → Shape d t → depth t ≤ n
    → nodes t ≤ s.left → Gives (read at space d s) (There t s.left)

named_gives : (n : ℕ) (space w : List ℕ) (s : Seen) (t : Tree) → plain w ≡ Some t
    → Gives (named n space w s) (Here t s.left)
unfolding named
named_gives n space w s t h = let leaf : IfLeaf (Some t) = rw h at (plain_leaf w) in rw h (refl, omega (arith, leaf.0))

branches_give : (n : ℕ) (read : Reader) → Accepts n read
    → (space : List ℕ) (front : List Tree) (ds : Items) (bs : Branches) (s : Seen) → BranchShapes ds bs
    → deepest_branch bs ≤ n → in_branches bs ≤ s.left
    → Gives (branches_at (read role.Branch space) front ds s) (λ x. (branches_of x.0 ≡ before_branches front bs) ×
    (x.1.left + in_branches bs ≡ s.left))
unfolding each_at in_branches deepest_branch
branches_give n read h space front json.no_items bs s none deep many = (before_branches-none front, omega arith)
branches_give n read h space front (json.item d ds) bs s (more {t} {bs = rest} single here after) deep many =
    bind_gives (There t s.left) _ (read role.Branch space d s) _ (h role.Branch space d s t single here
    (omega (arith, deep)) (omega (arith, many))) (λ x e.
    gives_weaker (branches_at (read role.Branch space) (front ++ x.0 ∷ []) ds x.1)
    (λ y. (branches_of y.0 ≡ before_branches (front ++ x.0 ∷ []) rest) × (y.1.left + in_branches rest ≡ x.1.left)) _
    (λ y p. (
      p.0 ∙ before_branches-push front x.0 rest ∙ ap (λ (z : Tree). before_branches front (branch z rest)) e.0,
      omega (arith, p.1, e.1),
    ))
    (branches_give n read h space (front ++ x.0 ∷ []) ds rest x.1 after (omega (arith, deep))
    (omega (arith, many, e.1))))

field_gives : (n : ℕ) (read : Reader) → Accepts n read
    → (space : List ℕ) (front : List Part) (d type : Data) (name : List ℕ) (s : Seen) (t : Tree) → name_in d ≡ Some name
    → get (codes "type") d ≡ Some type → Shape type t → depth t ≤ n → nodes t ≤ s.left
    → Gives (field_at (read role.Elsewhere space) front d s) (λ x. (x.0 ≡ (id_in (codes "field-id") d, t)) ×
    (x.1.left + nodes t ≡ s.left))
unfolding field_at
field_gives n read h space front d type name s t named there shape deep many =
    rw (named, there) (
    bind_gives (λ x. x ≡ id_in (codes "field-id") d) _ (fresh (id_in (codes "field-id") d) front) _
    (fresh_gives (id_in (codes "field-id") d) front) (λ id i.
    bind_gives (There t s.left) _ (read role.Elsewhere space type s) _ (h role.Elsewhere space type s t tt shape deep
    many) (λ x e. (rw (i, e.0) refl, e.1))))

fields_give : (n : ℕ) (read : Reader) → Accepts n read → (space : List ℕ) (front : List Part) (ds : Items) (fs : Fields)
    (s : Seen) → FieldShapes ds fs → deepest_field fs ≤ n → in_fields fs ≤ s.left
    → Gives (fields_at (read role.Elsewhere space) front ds s) (λ x. (fields_of x.0 ≡ before_fields front fs) ×
    (x.1.left + in_fields fs ≡ s.left))
unfolding each_at in_fields deepest_field
fields_give n read h space front json.no_items fs s no_more deep many = (before_fields-none front, omega arith)
fields_give n read h space front (json.item d ds) fs s (one_more {type} {name} {t} {fs = rest} named there here after)
    deep many =
    bind_gives (λ x. (x.0 ≡ (id_in (codes "field-id") d, t)) × (x.1.left + nodes t ≡ s.left)) _
    (field_at (read role.Elsewhere space) front d s) _ (field_gives n read h space front d type name s t named there
    here (omega (arith, deep)) (omega (arith, many))) (λ x e.
    gives_weaker (fields_at (read role.Elsewhere space) (front ++ x.0 ∷ []) ds x.1)
    (λ y. (fields_of y.0 ≡ before_fields (front ++ x.0 ∷ []) rest) × (y.1.left + in_fields rest ≡ x.1.left)) _
    (λ y p. (
      p.0 ∙ before_fields-push front x.0 rest ∙ ap (λ (z : Part). before_fields front (field z.0 z.1 rest)) e.0,
      omega (arith, p.1, e.1),
    ))
    (fields_give n read h space (front ++ x.0 ∷ []) ds rest x.1 after (omega (arith, deep)) (omega (arith, many, e.1))))

record_gives : (n : ℕ) (read : Reader) → Accepts n read → (space name : List ℕ) (d : Data) (ds : Items) (fs : Fields)
    (s : Seen) → name_in d ≡ Some name → items_in is_object (codes "fields") d ≡ Some ds → FieldShapes ds fs
    → deepest_field fs ≤ n → in_fields fs ≤ s.left
    → Gives (record_at read space d s) (Here (structure fs) s.left)
unfolding record_at before_fields below
record_gives n read h space name d ds fs s named there shapes deep many =
    rw (named, there) (
    bind_gives (λ q. q.left ≡ s.left) _ (defined (defines space name d) None s) _ (defined_gives (defines space name d)
    None s) (λ opened e.
    bind_gives (λ x. (fields_of x.0 ≡ fs) × (x.1.left + in_fields fs ≡ opened.left)) _
    (fields_at (read role.Elsewhere (space_of (defines space name d))) [] ds opened) _
    (fields_give n read h (space_of (defines space name d)) [] ds fs opened shapes deep (omega (arith, many, e)))
    (λ x p. (ap structure p.0, p.1 ∙ e))))

array_gives : (n : ℕ) (read : Reader) → Accepts n read → (space : List ℕ) (d items : Data) (s : Seen) (t : Tree)
    → get (codes "items") d ≡ Some items → Shape items t → depth t ≤ n → nodes t ≤ s.left
    → Gives (array_at read space d s) (Here (array t (id_in (codes "element-id") d) (array_kind d)) s.left)
unfolding array_at below
array_gives n read h space d items s t there shape deep many =
    rw there (bind_gives (There t s.left) _ (read role.Elsewhere space items s) _ (h role.Elsewhere space items s t tt
    shape deep many) (λ x e. (rw e.0 refl, e.1)))

map_gives : (n : ℕ) (read : Reader) → Accepts n read → (space : List ℕ) (d values : Data) (s : Seen) (t : Tree)
    → get (codes "values") d ≡ Some values → Shape values t → depth t ≤ n → nodes t ≤ s.left
    → Gives (map_at read space d s) (Here (map t) s.left)
unfolding map_at below
map_gives n read h space d values s t there shape deep many =
    rw there (bind_gives (There t s.left) _ (read role.Elsewhere space values s) _ (h role.Elsewhere space values s t tt
    shape deep many) (λ x e. (ap map e.0, e.1)))

enum_gives : (space name : List ℕ) (d : Data) (s : Seen) (n : ℕ) → name_in d ≡ Some name → symbols_in d ≡ Some n
    → Gives (enum_at space d s) (Here (symbols n) s.left)
unfolding enum_at below
enum_gives space name d s n named there =
    rw (named, there) (bind_gives (λ q. q.left ≡ s.left) _ (defined (defines space name d) (Some (symbols n)) s) _
    (defined_gives (defines space name d) (Some (symbols n)) s) (λ now e. (refl, omega (arith, e))))

fixed_gives : (space name : List ℕ) (d : Data) (s : Seen) (n : ℕ) → name_in d ≡ Some name → size_in d ≡ Some n
    → Gives (fixed_at space d s) (Here (fixed n (bytes_kind d)) s.left)
unfolding fixed_at below
fixed_gives space name d s n named there =
    rw (named, there) (bind_gives (λ q. q.left ≡ s.left) _ (defined (defines space name d)
    (Some (fixed n (bytes_kind d))) s) _ (defined_gives (defines space name d) (Some (fixed n (bytes_kind d))) s)
    (λ now e. (refl, omega (arith, e))))

union_gives : (n : ℕ) (read : Reader) → Accepts n read
    → (at : Role) (space : List ℕ) (ds : Items) (bs : Branches) (s : Seen) → Stands at (json.array ds)
    → BranchShapes ds bs → deepest_branch bs ≤ n → in_branches bs ≤ s.left
    → Gives (union_at read at space ds s) (Here (union bs) s.left)
unfolding union_at before_branches below
union_gives n read h role.Branch space ds bs s stands shapes deep many = absurd cc
union_gives n read h role.Elsewhere space ds bs s stands shapes deep many =
    bind_gives (λ x. (branches_of x.0 ≡ bs) × (x.1.left + in_branches bs ≡ s.left)) _
    (branches_at (read role.Branch space) [] ds s) _ (branches_give n read h space [] ds bs s shapes deep many)
    (λ x p. (ap union p.0, p.1))

node_gives : (n : ℕ) (read : Reader) → Accepts n read → (at : Role) (space : List ℕ) (d : Data) (s : Seen) (t : Tree)
    → Stands at d → Shape d t → height t ≤ n → below t ≤ s.left → Gives (node_at read n at space d s) (Here t s.left)
unfolding node_at text_at below height
node_gives n read h at space d s t stands (word {s = w} kind is) deep many = rw kind (named_gives n space w s t is)
node_gives n read h at space d s t stands bytes_word deep many = named_gives n space (codes "bytes") s t refl
node_gives n read h at space d s t stands (a_union {ds} {bs} shapes) deep many = union_gives n read h at space ds bs s
    stands shapes deep many
node_gives n read h at space d s t stands (a_word {s = w} type kind is) deep many =
    rw (object_is read n at space d s w type, kind) (named_gives n space w s t is)
node_gives n read h at space d s t stands (some_bytes type) deep many =
    rw (object_is read n at space d s (codes "bytes") type) (refl, omega arith)
node_gives n read h at space d s t stands (a_fixed {name} {n = size} type named there) deep many =
    rw (object_is read n at space d s (codes "fixed") type) (fixed_gives space name d s size named there)
node_gives n read h at space d s t stands (an_enum {name} {n = count} type named there) deep many =
    rw (object_is read n at space d s (codes "enum") type) (enum_gives space name d s count named there)
node_gives n read h at space d s t stands (an_array {items} {t = u} type there shape) deep many =
    rw (object_is read n at space d s (codes "array") type) (array_gives n read h space d items s u there shape deep
    many)
node_gives n read h at space d s t stands (a_map {values} {t = u} type there shape) deep many =
    rw (object_is read n at space d s (codes "map") type) (map_gives n read h space d values s u there shape deep many)
node_gives n read h at space d s t stands (a_record {name} {ds} {fs} type named there shapes) deep many =
    rw (object_is read n at space d s (codes "record") type) (record_gives n read h space name d ds fs s named there
    shapes deep many)

tree_gives : (n : ℕ) → Accepts n (tree_at n)
unfolding tree_at
tree_gives zero at space d s t stands shape deep many = absurd (omega (arith, deep))
tree_gives (suc n) at space d s t stands shape deep many =
    bind_gives (λ now. suc now.left ≡ s.left) _ (counted s) _ (counted_gives s (omega (arith, many))) (λ now e.
    gives_weaker (node_at (tree_at n) n at space d now) (Here t now.left) (There t s.left)
    (λ x p. (p.0, omega (arith, e, p.1))) (node_gives n (tree_at n) (tree_gives n) at space d now t stands shape
    (omega (arith, deep)) (omega (arith, many, e))))

pub schema_gives : (text : List ℕ) (d : Data) (t : Tree) → json_of text ≡ Ok d → Shape d t → nodes t ≤ most_nodes
    → depth t ≤ most_levels → MatchResult (schema_of text) (λ u. u ≡ t) IsTwice
unfolding schema_of
schema_gives text d t is shape many deep =
    rw is (bind_gives (There t most_nodes) _ (tree_at most_levels role.Elsewhere [] d (record {
      names = [];
      left = most_nodes;
    })) _ (tree_gives most_levels role.Elsewhere [] d (record { names = []; left = most_nodes }) t
    tt shape deep many) (λ x p. p.0))
