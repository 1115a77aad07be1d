-- An accepted tree is the shape of its JSON, where that has one.
use Rattle.std.proofs.Common.{◌≡◌, ℕ, zero, suc, List, [], ◌∷◌, ◌++◌, ◌∙◌, Bool, true, false, Ok, Err, Option, Some}
use Rattle.std.proofs.Common.{None, refl, ap}
use Rattle.std.specs.Prelude.{IfOk, option_map, codes, ℤ, if◌then◌else◌}
use Rattle.std.specs.List.{list_any}
use Rattle.avro_schema.specs.declared.fault.SchemaFault.TheVariants.{FieldTwice}
use Rattle.serde_json.specs.Data as json
use Rattle.serde_json.specs.Data.{Data, Items}
use Rattle.serde_json.specs.Find.{get}
use Rattle.avro_schema.specs.declared.attributes.Kind.{Kind}
use Rattle.avro_schema.specs.declared.reading.Role.{Role}
use Rattle.avro_schema.specs.declared.reading.Role.TheVariants as role
use Rattle.avro_schema.specs.Tree.{Tree, symbols, fixed, structure, union, array, map, Fields, no_fields, field}
use Rattle.avro_schema.specs.Tree.{Branches, no_branches, branch}
use Rattle.avro_schema.specs.View.{Part, fields_of, branches_of}
use Rattle.avro_schema.specs.Names.{space_of}
use Rattle.avro_schema.specs.Attributes.{name_in, id_in, items_in, is_object, symbols_in, size_in, array_kind}
use Rattle.avro_schema.specs.Attributes.{bytes_kind, plain, text_in, kind_of}
use Rattle.avro_schema.specs.Reading.{Seen, Read, Reader, asked, has_id, fresh, named, defined, defines, each_at}
use Rattle.avro_schema.specs.Reading.{branches_at, field_at, fields_at, record_at, array_at, map_at, enum_at, fixed_at}
use Rattle.avro_schema.specs.Reading.{of_kind, object_at, text_at, union_at, node_at, counted, tree_at}
use Rattle.avro_schema.specs.Inside.{kind_in}
use Rattle.avro_schema.specs.Shape.{Shape, word, bytes_word, a_union, a_word, some_bytes, a_fixed, an_enum, an_array}
use Rattle.avro_schema.specs.Shape.{a_map, a_record, BranchShapes, none, more, FieldShapes, no_more, one_more}
use Rattle.avro_schema.specs.Texts.{json_of, schema_of, most_nodes, most_levels}
use Rattle.avro_schema.proofs.Binds.{bind_if, bind_any}

-- ---- trees one after the other

unfoldable pub before_branches : List Tree → Branches → Branches
before_branches [] bs = bs
before_branches (t ∷ ts) bs = branch t (before_branches ts bs)

pub before_branches-push : (front : List Tree) (t : Tree) (bs : Branches)
    → before_branches (front ++ t ∷ []) bs ≡ before_branches front (branch t bs)
unfolding before_branches
before_branches-push [] t bs = refl
before_branches-push (u ∷ front) t bs = ap (branch u) (before_branches-push front t bs)

pub before_branches-none : (front : List Tree) → branches_of front ≡ before_branches front no_branches
unfolding before_branches
before_branches-none [] = refl
before_branches-none (u ∷ front) = ap (branch u) (before_branches-none front)

unfoldable pub before_fields : List Part → Fields → Fields
before_fields [] fs = fs
before_fields (p ∷ ps) fs = field p.0 p.1 (before_fields ps fs)

pub before_fields-push : (front : List Part) (p : Part) (fs : Fields)
    → before_fields (front ++ p ∷ []) fs ≡ before_fields front (field p.0 p.1 fs)
unfolding before_fields
before_fields-push [] p fs = refl
before_fields-push (u ∷ front) p fs = ap (field u.0 u.1) (before_fields-push front p fs)

pub before_fields-none : (front : List Part) → fields_of front ≡ before_fields front no_fields
unfolding before_fields
before_fields-none [] = refl
before_fields-none (u ∷ front) = ap (field u.0 u.1) (before_fields-none front)

-- ---- the kinds of types

abbrev Agrees : (Data → Seen → Read Tree) → Type 0
Agrees read = (d : Data) (s : Seen) (t : Tree) → Shape d t → IfOk (read d s) (λ x. x.0 ≡ t)

abbrev AlwaysAgrees : Reader → Type 0
AlwaysAgrees read = (at : Role) (space : List ℕ) → Agrees (read at space)

named_agrees : (n : ℕ) (space s : List ℕ) (t : Tree) (seen : Seen) → plain s ≡ Some t
    → IfOk (named n space s seen) (λ x. x.0 ≡ t)
unfolding named
named_agrees n space s t seen h = rw h refl

branches_agree : (read : Data → Seen → Read Tree) → Agrees read
    → (front : List Tree) (ds : Items) (bs : Branches) (s : Seen) → BranchShapes ds bs
    → IfOk (branches_at read front ds s) (λ x. branches_of x.0 ≡ before_branches front bs)
unfolding each_at
branches_agree read h front json.no_items bs s none = before_branches-none front
branches_agree read h front (json.item d ds) bs s (more {t} {bs = rest} single here after) =
    bind_if (λ x. x.0 ≡ t) _ (read d s) _ (h d s t here) (λ x e.
    rw (← before_branches-push front t rest, ← e) (branches_agree read h (front ++ x.0 ∷ []) ds rest x.1 after))

fresh_same : (o : Option ℤ) (front : List Part) → IfOk (fresh o front) (λ x. x ≡ o)
fresh_same None front = refl
fresh_same (Some id) front = or_not (list_any (has_id id) front) id
  where
    or_not : (b : Bool) (id : ℤ) → IfOk (if b then Err (FieldTwice id) else Ok (Some id)) (λ x. x ≡ Some id)
    or_not true id = tt
    or_not false id = refl

field_agrees : (read : Data → Seen → Read Tree) → Agrees read
    → (front : List Part) (d type : Data) (s : Seen) (t : Tree) → get (codes "type") d ≡ Some type → Shape type t
    → IfOk (field_at read front d s) (λ x. x.0 ≡ (id_in (codes "field-id") d, t))
unfolding field_at
field_agrees read h front d type s t there shape =
    bind_any _ (asked (name_in d)) _ (λ name. rw there (
    bind_if (λ x. x ≡ id_in (codes "field-id") d) _ (fresh (id_in (codes "field-id") d) front) _
    (fresh_same (id_in (codes "field-id") d) front) (λ id i.
    bind_if (λ x. x.0 ≡ t) _ (read type s) _ (h type s t shape) (λ x e. rw (i, e) refl))))

fields_agree : (read : Data → Seen → Read Tree) → Agrees read
    → (front : List Part) (ds : Items) (fs : Fields) (s : Seen) → FieldShapes ds fs
    → IfOk (fields_at read front ds s) (λ x. fields_of x.0 ≡ before_fields front fs)
unfolding each_at
fields_agree read h front json.no_items fs s no_more = before_fields-none front
fields_agree read h front (json.item d ds) fs s (one_more {type} {t} {fs = rest} named there here after) =
    bind_if (λ x. x.0 ≡ (id_in (codes "field-id") d, t)) _ (field_at read front d s) _ (field_agrees read h front d type
    s t there here) (λ x e.
    rw (← before_fields-push front (id_in (codes "field-id") d, t) rest, ← e) (fields_agree read h (front ++ x.0 ∷ [])
    ds rest x.1 after))

record_agrees : (read : Reader) → AlwaysAgrees read → (space : List ℕ) (d : Data) (s : Seen) (ds : Items) (fs : Fields)
    → items_in is_object (codes "fields") d ≡ Some ds → FieldShapes ds fs
    → IfOk (record_at read space d s) (λ x. x.0 ≡ structure fs)
unfolding record_at before_fields
record_agrees read h space d s ds fs there shapes =
    bind_any _ (asked (name_in d)) _ (λ name. rw there (
    bind_any _ (defined (defines space name d) None s) _ (λ opened.
    bind_if (λ x. fields_of x.0 ≡ fs) _ (fields_at (read role.Elsewhere (space_of (defines space name d))) [] ds opened)
    _
    (fields_agree (read role.Elsewhere (space_of (defines space name d)))
    (h role.Elsewhere (space_of (defines space name d))) [] ds fs opened shapes)
    (λ x e. ap structure e))))

array_agrees : (read : Reader) → AlwaysAgrees read → (space : List ℕ) (d items : Data) (s : Seen) (t : Tree)
    → get (codes "items") d ≡ Some items → Shape items t
    → IfOk (array_at read space d s) (λ x. x.0 ≡ array t (id_in (codes "element-id") d) (array_kind d))
unfolding array_at
array_agrees read h space d items s t there shape =
    rw there (bind_if (λ x. x.0 ≡ t) _ (read role.Elsewhere space items s) _ (h role.Elsewhere space items s t shape)
    (λ x e. rw e refl))

map_agrees : (read : Reader) → AlwaysAgrees read → (space : List ℕ) (d values : Data) (s : Seen) (t : Tree)
    → get (codes "values") d ≡ Some values → Shape values t → IfOk (map_at read space d s) (λ x. x.0 ≡ map t)
unfolding map_at
map_agrees read h space d values s t there shape =
    rw there (bind_if (λ x. x.0 ≡ t) _ (read role.Elsewhere space values s) _ (h role.Elsewhere space values s t shape)
    (λ x e. ap map e))

enum_agrees : (space : List ℕ) (d : Data) (s : Seen) (n : ℕ) → symbols_in d ≡ Some n
    → IfOk (enum_at space d s) (λ x. x.0 ≡ symbols n)
unfolding enum_at
enum_agrees space d s n there =
    bind_any _ (asked (name_in d)) _ (λ name. rw there (bind_any _ (defined (defines space name d) (Some (symbols n)) s)
    _ (λ now. refl)))

fixed_agrees : (space : List ℕ) (d : Data) (s : Seen) (n : ℕ) → size_in d ≡ Some n
    → IfOk (fixed_at space d s) (λ x. x.0 ≡ fixed n (bytes_kind d))
unfolding fixed_at
fixed_agrees space d s n there =
    bind_any _ (asked (name_in d)) _ (λ name. rw there
    (bind_any _ (defined (defines space name d) (Some (fixed n (bytes_kind d))) s) _ (λ now. refl)))

union_agrees : (read : Reader) → AlwaysAgrees read
    → (at : Role) (space : List ℕ) (ds : Items) (s : Seen) (bs : Branches) → BranchShapes ds bs
    → IfOk (union_at read at space ds s) (λ x. x.0 ≡ union bs)
unfolding union_at before_branches
union_agrees read h role.Branch space ds s bs shapes = tt
union_agrees read h role.Elsewhere space ds s bs shapes =
    bind_if (λ x. branches_of x.0 ≡ bs) _ (branches_at (read role.Branch space) [] ds s) _
    (branches_agree (read role.Branch space) (h role.Branch space) [] ds bs s shapes) (λ x e. ap union e)

-- an object whose type is a text
pub object_is : (read : Reader) (n : ℕ) (at : Role) (space : List ℕ) (d : Data) (s : Seen) (w : List ℕ)
    → text_in (codes "type") d ≡ Some w → node_at read n at space d s ≡ of_kind read n space (kind_of w) w d s
unfolding node_at object_at
object_is read n at space json.null s w h = absurd cc
object_is read n at space (json.boolean b) s w h = absurd cc
object_is read n at space (json.number m) s w h = absurd cc
object_is read n at space (json.string x) s w h = absurd cc
object_is read n at space (json.array ds) s w h = absurd cc
object_is read n at space (json.object ms) s w h = rw h refl

-- the text of a type of this kind
kind_text : (k : Kind) (o : Option (List ℕ)) → option_map kind_of o ≡ Some k
    → (w : List ℕ) × ((o ≡ Some w) × (kind_of w ≡ k))
kind_text k None h = absurd cc
kind_text k (Some w) h = (w, (refl, cc))

pub kind_is : (read : Reader) (n : ℕ) (at : Role) (space : List ℕ) (d : Data) (s : Seen) (k : Kind) → kind_in d ≡ Some k
    → (w : List ℕ) × (node_at read n at space d s ≡ of_kind read n space k w d s)
kind_is read n at space d s k is =
    let t = kind_text k (text_in (codes "type") d) is in
    (t.0, object_is read n at space d s t.0 t.1.0 ∙ ap (λ (j : Kind). of_kind read n space j t.0 d s) t.1.1)

node_agrees : (n : ℕ) (read : Reader) → AlwaysAgrees read
    → (at : Role) (space : List ℕ) (d : Data) (s : Seen) (t : Tree) → Shape d t
    → IfOk (node_at read n at space d s) (λ x. x.0 ≡ t)
unfolding node_at text_at
node_agrees n read h at space d s t (word {s = w} kind is) = rw kind (named_agrees n space w t s is)
node_agrees n read h at space d s t bytes_word = named_agrees n space (codes "bytes") t s refl
node_agrees n read h at space d s t (a_union {ds} {bs} shapes) = union_agrees read h at space ds s bs shapes
node_agrees n read h at space d s t (a_word {s = w} type kind is) = rw (object_is read n at space d s w type, kind)
    (named_agrees n space w t s is)
node_agrees n read h at space d s t (some_bytes type) = rw (object_is read n at space d s (codes "bytes") type) refl
node_agrees n read h at space d s t (a_fixed {n = size} type named there) =
    rw (object_is read n at space d s (codes "fixed") type) (fixed_agrees space d s size there)
node_agrees n read h at space d s t (an_enum {n = count} type named there) =
    rw (object_is read n at space d s (codes "enum") type) (enum_agrees space d s count there)
node_agrees n read h at space d s t (an_array {items} {t = u} type there shape) =
    rw (object_is read n at space d s (codes "array") type) (array_agrees read h space d items s u there shape)
node_agrees n read h at space d s t (a_map {values} {t = u} type there shape) =
    rw (object_is read n at space d s (codes "map") type) (map_agrees read h space d values s u there shape)
node_agrees n read h at space d s t (a_record {ds} {fs} type named there shapes) =
    rw (object_is read n at space d s (codes "record") type) (record_agrees read h space d s ds fs there shapes)

tree_agrees : (n : ℕ) → AlwaysAgrees (tree_at n)
unfolding tree_at
tree_agrees zero at space d s t shape = tt
tree_agrees (suc n) at space d s t shape = bind_any _ (counted s) _ (λ now. node_agrees n (tree_at n) (tree_agrees n) at
    space d now t shape)

pub schema_agrees : (text : List ℕ) (d : Data) (t : Tree) → json_of text ≡ Ok d → Shape d t
    → IfOk (schema_of text) (λ u. u ≡ t)
unfolding schema_of
schema_agrees text d t is shape =
    rw is (bind_if (λ x. x.0 ≡ t) _ (tree_at most_levels role.Elsewhere [] d (record { names = []; left = most_nodes }))
    _ (tree_agrees most_levels role.Elsewhere [] d (record { names = []; left = most_nodes }) t shape) (λ x e. e))
