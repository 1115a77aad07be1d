-- No fault of a schema is want of memory.
use Rattle.std.proofs.Common.{◌≡◌, ◌≢◌, ℕ, zero, suc, ◌-◌, ℤ, Bool, true, false, cond, ltb, List, [], ◌∷◌, ◌++◌, Option}
use Rattle.std.proofs.Common.{Some, None, Result, Ok, Err, ap}
use Rattle.std.specs.Prelude.{codes}
use Rattle.std.specs.List.{list_any}
use Rattle.std.specs.Str.{is_utf8}
use Rattle.serde_json.specs.Data as json
use Rattle.serde_json.specs.Data.{Data, Items}
use Rattle.serde_json.specs.Find.{get}
use Rattle.serde_json.specs.Read.{read as json_read}
use Rattle.contract_words.specs.Outcome.{◌>>=◌}
use Rattle.avro_schema.specs.declared.fault.SchemaFault.{SchemaFault}
use Rattle.avro_schema.specs.declared.fault.SchemaFault.TheVariants.{NotJson, TooBig, FieldTwice, Memory}
use Rattle.avro_schema.specs.declared.reading.Role.{Role}
use Rattle.avro_schema.specs.declared.reading.Role.TheVariants as role
use Rattle.avro_schema.specs.declared.attributes.Kind.{Kind}
use Rattle.avro_schema.specs.declared.attributes.Kind.TheVariants as kind
use Rattle.avro_schema.specs.Tree.{Tree, symbols, fixed}
use Rattle.avro_schema.specs.Size.{below, height, left_after}
use Rattle.avro_schema.specs.View.{Part}
use Rattle.avro_schema.specs.Names.{full, lookup, put}
use Rattle.avro_schema.specs.Attributes.{text_in, name_in, is_object, items_in, symbols_in, id_in, bytes_kind, size_in}
use Rattle.avro_schema.specs.Attributes.{plain, kind_of}
use Rattle.avro_schema.specs.Reading.{Seen, Read, Reader, asked, if_left, used, plain_or_used, named, if_new, defined}
use Rattle.avro_schema.specs.Reading.{defines, each_at, has_id, fresh, field_at, record_at, array_at, map_at, enum_at}
use Rattle.avro_schema.specs.Reading.{fixed_at, of_kind, object_at, of_word, text_at, union_at, node_at, counted}
use Rattle.avro_schema.specs.Reading.{tree_at}
use Rattle.avro_schema.specs.Texts.{if_read, json_of, schema_of, most_nodes, most_levels}

abbrev Passes : {A : Type 0} → Result A SchemaFault → Type 0
Passes r = r ≢ Err Memory

bind_passes : {A B : Type 0} (r : Result A SchemaFault) (f : A → Result B SchemaFault) → Passes r
    → ((x : A) → Passes (f x)) → Passes (r >>= f)
bind_passes (Ok x) f p q = q x
bind_passes {A} (Err e) f p q = λ h. let same : e ≡ Memory = cc in p (ap (λ (y : SchemaFault). Err y) same)

cond_passes : {A : Type 0} (b : Bool) (x y : Result A SchemaFault) → Passes x → Passes y → Passes (cond b x y)
cond_passes true x y p q = p
cond_passes false x y p q = q

asked_passes : {A : Type 0} (o : Option A) → Passes (asked o)
asked_passes None = λ h. cc
asked_passes (Some x) = λ h. cc

-- ---- names

if_left_passes : (most : ℕ) (t : Tree) (o : Option ℕ) (s : Seen) → Passes (if_left most t o s)
if_left_passes most t None s = λ h. cc
if_left_passes most t (Some left) s = cond_passes {A = Tree × Seen} (ltb most (height t)) (Err TooBig)
    (Ok (t, record s { left = left })) (λ h. cc) (λ h. cc)

used_passes : (most : ℕ) (o : Option (Option Tree)) (s : Seen) → Passes (used most o s)
used_passes most None s = λ h. cc
used_passes most (Some None) s = λ h. cc
used_passes most (Some (Some t)) s = if_left_passes most t (left_after s.left (below t)) s

plain_or_used_passes : (most : ℕ) (o : Option Tree) (name : List ℕ) (s : Seen) → Passes (plain_or_used most o name s)
plain_or_used_passes most (Some t) name s = λ h. cc
plain_or_used_passes most None name s = used_passes most (lookup name s.names) s

named_passes : (most : ℕ) (space word : List ℕ) (s : Seen) → Passes (named most space word s)
unfolding named
named_passes most space word s = plain_or_used_passes most (plain word) (full space word) s

if_new_passes : (o : Option (Option Tree)) (s : Seen) → Passes (if_new o s)
if_new_passes None s = λ h. cc
if_new_passes (Some e) s = λ h. cc

defined_passes : (name : List ℕ) (x : Option Tree) (s : Seen) → Passes (defined name x s)
unfolding defined
defined_passes name x s = if_new_passes (lookup name s.names) (record s { names = put name x s.names })

-- ---- types

each_passes : {A : Type 0} (read : List A → Data → Seen → Read A)
    → ((front : List A) (d : Data) (s : Seen) → Passes (read front d s)) → (front : List A) (ds : Items) (s : Seen)
    → Passes (each_at read front ds s)
unfolding each_at
each_passes read each front json.no_items s = λ h. cc
each_passes read each front (json.item d ds) s = bind_passes (read front d s) _ (each front d s)
    (λ x. each_passes read each (front ++ x.0 ∷ []) ds x.1)

fresh_passes : (o : Option ℤ) (front : List Part) → Passes (fresh o front)
fresh_passes None front = λ h. cc
fresh_passes (Some id) front = cond_passes {A = Option ℤ} (list_any (has_id id) front) (Err (FieldTwice id))
    (Ok (Some id)) (λ h. cc) (λ h. cc)

field_passes : (read : Data → Seen → Read Tree) → ((d : Data) (s : Seen) → Passes (read d s))
    → (front : List Part) (d : Data) (s : Seen) → Passes (field_at read front d s)
unfolding field_at
field_passes read each front d s =
    bind_passes (asked (name_in d)) _ (asked_passes (name_in d)) (λ name.
    bind_passes (asked (get (codes "type") d)) _ (asked_passes (get (codes "type") d)) (λ type.
    bind_passes (fresh (id_in (codes "field-id") d) front) _ (fresh_passes (id_in (codes "field-id") d) front) (λ id.
    bind_passes (read type s) _ (each type s) (λ t h. cc))))

abbrev AllPass : Reader → Type 0
AllPass read = (at : Role) (space : List ℕ) (d : Data) (s : Seen) → Passes (read at space d s)

record_passes : (read : Reader) → AllPass read → (space : List ℕ) (d : Data) (s : Seen)
    → Passes (record_at read space d s)
unfolding record_at
record_passes read each space d s =
    bind_passes (asked (name_in d)) _ (asked_passes (name_in d)) (λ name.
    bind_passes (asked (items_in is_object (codes "fields") d)) _ (asked_passes (items_in is_object (codes "fields") d))
    (λ items.
    bind_passes (defined (defines space name d) None s) _ (defined_passes (defines space name d) None s) (λ opened.
    bind_passes (each_at (field_at (read role.Elsewhere _)) [] items opened) _
    (each_passes (field_at (read role.Elsewhere _)) (λ front e q. field_passes (read role.Elsewhere _)
    (λ e q. each role.Elsewhere _ e q) front e q) [] items opened) (λ fields h. cc))))

array_passes : (read : Reader) → AllPass read → (space : List ℕ) (d : Data) (s : Seen)
    → Passes (array_at read space d s)
unfolding array_at
array_passes read each space d s = bind_passes (asked (get (codes "items") d)) _ (asked_passes (get (codes "items") d))
    (λ items. bind_passes (read role.Elsewhere space items s) _ (each role.Elsewhere space items s) (λ t h. cc))

map_passes : (read : Reader) → AllPass read → (space : List ℕ) (d : Data) (s : Seen) → Passes (map_at read space d s)
unfolding map_at
map_passes read each space d s = bind_passes (asked (get (codes "values") d)) _ (asked_passes (get (codes "values") d))
    (λ values. bind_passes (read role.Elsewhere space values s) _ (each role.Elsewhere space values s) (λ t h. cc))

enum_passes : (space : List ℕ) (d : Data) (s : Seen) → Passes (enum_at space d s)
unfolding enum_at
enum_passes space d s =
    bind_passes (asked (name_in d)) _ (asked_passes (name_in d)) (λ name.
    bind_passes (asked (symbols_in d)) _ (asked_passes (symbols_in d)) (λ n.
    bind_passes (defined (defines space name d) (Some (symbols n)) s) _ (defined_passes (defines space name d)
    (Some (symbols n)) s) (λ now h. cc)))

fixed_passes : (space : List ℕ) (d : Data) (s : Seen) → Passes (fixed_at space d s)
unfolding fixed_at
fixed_passes space d s =
    bind_passes (asked (name_in d)) _ (asked_passes (name_in d)) (λ name.
    bind_passes (asked (size_in d)) _ (asked_passes (size_in d)) (λ n.
    bind_passes (defined (defines space name d) (Some (fixed n (bytes_kind d))) s) _
    (defined_passes (defines space name d) (Some (fixed n (bytes_kind d))) s) (λ now h. cc)))

of_kind_passes : (read : Reader) → AllPass read → (most : ℕ) (space : List ℕ) (k : Kind) (word : List ℕ) (d : Data)
    (s : Seen) → Passes (of_kind read most space k word d s)
of_kind_passes read each most space kind.Array word d s = array_passes read each space d s
of_kind_passes read each most space kind.Map word d s = map_passes read each space d s
of_kind_passes read each most space kind.Record word d s = record_passes read each space d s
of_kind_passes read each most space kind.Enum word d s = enum_passes space d s
of_kind_passes read each most space kind.Fixed word d s = fixed_passes space d s
of_kind_passes read each most space kind.Bytes word d s = λ h. cc
of_kind_passes read each most space kind.Word word d s = named_passes most space word s

of_word_passes : (most : ℕ) (space : List ℕ) (k : Kind) (word : List ℕ) (s : Seen)
    → Passes (of_word most space k word s)
of_word_passes most space kind.Array word s = λ h. cc
of_word_passes most space kind.Map word s = λ h. cc
of_word_passes most space kind.Record word s = λ h. cc
of_word_passes most space kind.Enum word s = λ h. cc
of_word_passes most space kind.Fixed word s = λ h. cc
of_word_passes most space kind.Bytes word s = named_passes most space word s
of_word_passes most space kind.Word word s = named_passes most space word s

union_passes : (read : Reader) → AllPass read → (at : Role) (space : List ℕ) (ds : Items) (s : Seen)
    → Passes (union_at read at space ds s)
unfolding union_at
union_passes read each role.Branch space ds s = λ h. cc
union_passes read each role.Elsewhere space ds s = bind_passes (each_at (λ front. read role.Branch space) [] ds s) _
    (each_passes (λ front. read role.Branch space) (λ front d q. each role.Branch space d q) [] ds s) (λ x h. cc)

node_passes : (read : Reader) → AllPass read → (most : ℕ) (at : Role) (space : List ℕ) (d : Data) (s : Seen)
    → Passes (node_at read most at space d s)
unfolding node_at text_at object_at
node_passes read each most at space json.null s = λ h. cc
node_passes read each most at space (json.boolean b) s = λ h. cc
node_passes read each most at space (json.number n) s = λ h. cc
node_passes read each most at space (json.string word) s = of_word_passes most space (kind_of word) word s
node_passes read each most at space (json.array ds) s = union_passes read each at space ds s
node_passes read each most at space (json.object ms) s = bind_passes (asked (text_in (codes "type") (json.object ms))) _
    (asked_passes (text_in (codes "type") (json.object ms))) (λ word. of_kind_passes read each most space (kind_of word)
    word (json.object ms) s)

tree_passes : (most : ℕ) → AllPass (tree_at most)
unfolding tree_at
tree_passes zero at space d s = λ h. cc
tree_passes (suc most) at space d s =
    bind_passes (counted s) _ (cond_passes {A = Seen} (ltb 0 s.left) (Ok (record s { left = s.left - 1 })) (Err TooBig)
    (λ h. cc) (λ h. cc)) (λ now. node_passes (tree_at most) (tree_passes most) most at space d now)

-- ---- texts

if_read_passes : (o : Option Data) → Passes (if_read o)
if_read_passes None = λ h. cc
if_read_passes (Some d) = λ h. cc

json_passes : (text : List ℕ) → Passes (json_of text)
unfolding json_of
json_passes text = cond_passes (is_utf8 text) (if_read (json_read text)) (Err NotJson) (if_read_passes (json_read text))
    (λ h. cc)

pub schema_passes : (text : List ℕ) → schema_of text ≢ Err Memory
unfolding schema_of
schema_passes text =
    bind_passes (json_of text) _ (json_passes text) (λ d.
    bind_passes (tree_at most_levels role.Elsewhere [] d (record { names = []; left = most_nodes })) _
    (tree_passes most_levels role.Elsewhere [] d (record { names = []; left = most_nodes })) (λ t h. cc))
