-- `Recursive` is answered only where a record's own name is used inside it.
use Rattle.std.proofs.Common.{◌≡◌, ℕ, zero, suc, List, [], ◌∷◌, ◌++◌, Option, Some, None, Ok, Err, Ordering, Less}
use Rattle.std.proofs.Common.{Equal, Greater, nat_cmp, refl, sym, ◌∙◌}
use mathlib.Core.Logic.{◌⊎◌, inl, inr}
use Rattle.std.specs.Prelude.{IfOk, IfErr, codes, ℤ, Bool, true, false, nat_lt, if◌then◌else◌}
use Rattle.std.specs.List.{list_any}
use Rattle.std.specs.Ordering.{match_ordering}
use Rattle.std.specs.Cmp.Lexicographic.{slice_cmp}
use Rattle.std.proofs.lemmas.Map.Lookups.{exact_bytes}
use Rattle.std.specs.Str.{bytes_eq}
use Rattle.std.proofs.lemmas.Slice.Eq.{bytes_eq-Decides}
use Rattle.serde_json.specs.Data as json
use Rattle.serde_json.specs.Data.{Data, Items}
use Rattle.serde_json.specs.Find.{get}
use Rattle.avro_schema.specs.declared.fault.SchemaFault.{SchemaFault}
use Rattle.avro_schema.specs.declared.fault.SchemaFault.TheVariants.{Recursive, FieldTwice}
use Rattle.avro_schema.specs.declared.reading.Role.{Role}
use Rattle.avro_schema.specs.declared.reading.Role.TheVariants as role
use Rattle.avro_schema.specs.declared.attributes.Kind.{Kind}
use Rattle.avro_schema.specs.declared.attributes.Kind.TheVariants as kind
use Rattle.avro_schema.specs.Tree.{Tree, symbols, fixed}
use Rattle.avro_schema.specs.Size.{left_after, below, height}
use Rattle.avro_schema.specs.View.{Part}
use Rattle.avro_schema.specs.Names.{Entry, lookup, put, full, space_of}
use Rattle.avro_schema.specs.Attributes.{name_in, id_in, items_in, is_object, symbols_in, size_in, bytes_kind, plain}
use Rattle.avro_schema.specs.Attributes.{text_in, kind_of}
use Rattle.avro_schema.specs.Reading.{Seen, Read, Reader, asked, has_id, fresh, if_left, used, plain_or_used, named}
use Rattle.avro_schema.specs.Reading.{if_new, defined, defines, each_at, branches_at, whatever_before, field_at}
use Rattle.avro_schema.specs.Reading.{fields_at, record_at, array_at, map_at, enum_at, fixed_at, of_kind, object_at}
use Rattle.avro_schema.specs.Reading.{of_word, text_at, union_at, node_at, counted, tree_at}
use Rattle.avro_schema.specs.Inside.{kind_in, Among, first, later, HasPart, its_items, its_values, a_branch, a_field}
use Rattle.avro_schema.specs.Inside.{Inside, itself, further, Uses, a_text, a_type, a_record, HasRecursion, recursion}
use Rattle.avro_schema.specs.Texts.{json_of, schema_of, most_nodes, most_levels}
use Rattle.avro_schema.proofs.Binds.{bind_err, bind_err_any, err_weaker}
use Rattle.avro_schema.proofs.Kept.{Grown, Grows, AlwaysKeeps, New, lookup-put, defined_new, field_keeps, tree_keeps}
use Rattle.avro_schema.proofs.Kept.{counted_same}

-- ---- what is found where the answer is `Recursive`

-- a use, inside the type, of a name whose definition is open
data OpenUse : List ℕ → Data → List Entry → Type 0 where
  open_use : {space last name : List ℕ} {d u : Data} {es : List Entry} → Inside space d last u → Uses last u name
      → lookup name es ≡ Some None → OpenUse space d es

abbrev Found : List ℕ → Data → List Entry → Type 0
Found space d es = HasRecursion space d ⊎ OpenUse space d es

-- X is found where the fault is `Recursive`
abbrev Finds : Type 0 → SchemaFault → Type 0
Finds X e = e ≡ Recursive → X

found_further : (space next : List ℕ) (d e : Data) (es : List Entry) → HasPart space d next e → Found next e es
    → Found space d es
found_further space next d e es holds (inl (recursion i m h j u)) = inl (recursion (further holds i) m h j u)
found_further space next d e es holds (inr (open_use i u l)) = inr (open_use (further holds i) u l)

was_open : (x y : Option (Option Tree)) → Grown x y → y ≡ Some None → x ≡ Some None
was_open (Some x) y h k = sym h ∙ k
was_open None y h k = absurd (rw k at h)

found_before : (space : List ℕ) (d : Data) (es fs : List Entry) → Grows es fs → Found space d fs → Found space d es
found_before space d es fs grows (inl r) = inl r
found_before space d es fs grows (inr (open_use {name} i u l)) = inr
    (open_use i u (was_open (lookup name es) (lookup name fs) (grows name) l))

-- ---- steps that find nothing

pub asked_is : {A : Type 0} (o : Option A) → IfOk (asked o) (λ x. o ≡ Some x)
asked_is None = tt
asked_is (Some x) = refl

asked_finds : {A : Type 0} (X : Type 0) (o : Option A) → IfErr (asked o) (Finds X)
asked_finds X None = λ h. absurd cc
asked_finds X (Some x) = tt

fresh_finds : (X : Type 0) (o : Option ℤ) (front : List Part) → IfErr (fresh o front) (Finds X)
fresh_finds X None front = tt
fresh_finds X (Some id) front = or_not (list_any (has_id id) front) X id
  where
    or_not : (b : Bool) (X : Type 0) (id : ℤ) → IfErr (if b then Err (FieldTwice id) else Ok (Some id)) (Finds X)
    or_not true X id = λ h. absurd cc
    or_not false X id = tt

if_new_finds : (X : Type 0) (o : Option (Option Tree)) (s : Seen) → IfErr (if_new o s) (Finds X)
if_new_finds X None s = tt
if_new_finds X (Some e) s = λ h. absurd cc

defined_finds : (X : Type 0) (name : List ℕ) (x : Option Tree) (s : Seen) → IfErr (defined name x s) (Finds X)
unfolding defined
defined_finds X name x s = if_new_finds X (lookup name s.names) _

counted_finds : (X : Type 0) (b : Bool) (s : Seen) → nat_lt 0 s.left ≡ b → IfErr (counted s) (Finds X)
counted_finds X true s h = rw h tt
counted_finds X false s h = rw h (λ k. absurd cc)

-- ---- names

if_left_finds : (X : Type 0) (n : ℕ) (t : Tree) (o : Option ℕ) (b : Bool) (s : Seen) → nat_lt n (height t) ≡ b
    → IfErr (if_left n t o s) (Finds X)
if_left_finds X n t None b s h = λ k. absurd cc
if_left_finds X n t (Some left) true s h = rw h (λ k. absurd cc)
if_left_finds X n t (Some left) false s h = rw h tt

used_finds : (n : ℕ) (o : Option (Option Tree)) (s : Seen) → IfErr (used n o s) (Finds (o ≡ Some None))
used_finds n None s = λ h. absurd cc
used_finds n (Some None) s = λ h. refl
used_finds n (Some (Some t)) s = if_left_finds (Some (Some t) ≡ Some None) n t (left_after s.left (below t))
    (nat_lt n (height t)) s refl

plain_or_used_finds : (n : ℕ) (o : Option Tree) (name : List ℕ) (s : Seen)
    → IfErr (plain_or_used n o name s) (Finds ((o ≡ None) × (lookup name s.names ≡ Some None)))
plain_or_used_finds n (Some t) name s = tt
plain_or_used_finds n None name s = err_weaker (used n (lookup name s.names) s)
    (Finds (lookup name s.names ≡ Some None)) (Finds ((None ≡ None) × (lookup name s.names ≡ Some None)))
    (λ e f r. (refl, f r)) (used_finds n (lookup name s.names) s)

named_finds : (n : ℕ) (space word : List ℕ) (s : Seen)
    → IfErr (named n space word s) (Finds ((plain word ≡ None) × (lookup (full space word) s.names ≡ Some None)))
unfolding named
named_finds n space word s = plain_or_used_finds n (plain word) (full space word) s

-- the text of bytes is a primitive type
last_of_six : (a m r e f b : Bool) → (if a then kind.Array else (if m then kind.Map else (if r then kind.Record else
    (if e then kind.Enum else (if f then kind.Fixed else (if b then kind.Bytes else kind.Word)))))) ≡ kind.Bytes
    → b ≡ true
last_of_six true m r e f b h = absurd cc
last_of_six false true r e f b h = absurd cc
last_of_six false false true e f b h = absurd cc
last_of_six false false false true f b h = absurd cc
last_of_six false false false false true b h = absurd cc
last_of_six false false false false false true h = refl
last_of_six false false false false false false h = absurd cc

pub bytes_text : (word : List ℕ) → kind_of word ≡ kind.Bytes → word ≡ codes "bytes"
bytes_text word is = (bytes_eq-Decides word (codes "bytes")).0 (last_of_six (bytes_eq word (codes "array"))
    (bytes_eq word (codes "map")) (bytes_eq word (codes "record")) (bytes_eq word (codes "enum"))
    (bytes_eq word (codes "fixed")) (bytes_eq word (codes "bytes")) is)

bytes_found : (X : Type 0) (n : ℕ) (space : List ℕ) (s : Seen) → IfErr (named n space (codes "bytes") s) (Finds X)
unfolding named
bytes_found X n space s = tt

of_word_finds : (n : ℕ) (space : List ℕ) (k : Kind) (word : List ℕ) (s : Seen) → kind_of word ≡ k
    → IfErr (of_word n space k word s) (Finds (Found space (json.string word) s.names))
of_word_finds n space kind.Array word s is = λ h. absurd cc
of_word_finds n space kind.Map word s is = λ h. absurd cc
of_word_finds n space kind.Record word s is = λ h. absurd cc
of_word_finds n space kind.Enum word s is = λ h. absurd cc
of_word_finds n space kind.Fixed word s is = λ h. absurd cc
of_word_finds n space kind.Bytes word s is = rw (bytes_text word is) (bytes_found _ n space s)
of_word_finds n space kind.Word word s is =
    err_weaker (named n space word s) (Finds ((plain word ≡ None) × (lookup (full space word) s.names ≡ Some None)))
    (Finds (Found space (json.string word) s.names)) (λ e f r. inr (open_use itself (a_text is (f r).0) (f r).1))
    (named_finds n space word s)

-- ---- the kinds of types

abbrev AlwaysFinds : Reader → Type 0
AlwaysFinds read = (at : Role) (space : List ℕ) (d : Data) (s : Seen)
    → IfErr (read at space d s) (Finds (Found space d s.names))

-- what is found in one of the items
abbrev AmongFound : (Data → List Entry → Type 0) → Items → List Entry → Type 0
AmongFound F ds es = (d : Data) × (Among d ds × F d es)

among_later : (F : Data → List Entry → Type 0) (e : Data) (ds : Items) (es fs : List Entry)
    → ((d : Data) → F d fs → F d es) → AmongFound F ds fs → AmongFound F (json.item e ds) es
among_later F e ds es fs back found = (found.0, (later found.1.0, back found.0 found.1.1))

each_finds : {A : Type 0} (F : Data → List Entry → Type 0) → ((d : Data) (es fs : List Entry) → Grows es fs → F d fs
    → F d es) → (read : List A → Data → Seen → Read A)
    → ((front : List A) (d : Data) (s : Seen) → IfOk (read front d s) (λ x. Grows s.names x.1.names))
    → ((front : List A) (d : Data) (s : Seen) → IfErr (read front d s) (Finds (F d s.names)))
    → (front : List A) (ds : Items) (s : Seen) → IfErr (each_at read front ds s) (Finds (AmongFound F ds s.names))
unfolding each_at
each_finds F back read keeps finds front json.no_items s = tt
each_finds F back read keeps finds front (json.item d ds) s =
    bind_err (λ x. Grows s.names x.1.names) _ (read front d s) _ (keeps front d s)
    (err_weaker (read front d s) (Finds (F d s.names)) (Finds (AmongFound F (json.item d ds) s.names))
    (λ e f r. (d, (first, f r))) (finds front d s))
    (λ x grows. err_weaker (each_at read (front ++ x.0 ∷ []) ds x.1) (Finds (AmongFound F ds x.1.names))
    (Finds (AmongFound F (json.item d ds) s.names))
    (λ e f r. among_later F d ds s.names x.1.names (λ c. back c s.names x.1.names grows) (f r))
    (each_finds F back read keeps finds (front ++ x.0 ∷ []) ds x.1))

-- what is found in a field's type
abbrev FieldFound : List ℕ → Data → List Entry → Type 0
FieldFound space f es = (e : Data) × ((get (codes "type") f ≡ Some e) × Found space e es)

field_before : (space : List ℕ) (f : Data) (es fs : List Entry) → Grows es fs → FieldFound space f fs
    → FieldFound space f es
field_before space f es fs grows found = (found.0, (found.1.0, found_before space found.0 es fs grows found.1.1))

field_finds : (read : Reader) → AlwaysFinds read → (space : List ℕ) (front : List Part) (f : Data) (s : Seen)
    → IfErr (field_at (read role.Elsewhere space) front f s) (Finds (FieldFound space f s.names))
unfolding field_at
field_finds read h space front f s =
    bind_err_any _ (asked (name_in f)) _ (asked_finds _ (name_in f)) (λ name.
    bind_err (λ x. get (codes "type") f ≡ Some x) _ (asked (get (codes "type") f)) _ (asked_is (get (codes "type") f))
    (asked_finds _ (get (codes "type") f)) (λ type is.
    bind_err_any _ (fresh (id_in (codes "field-id") f) front) _ (fresh_finds _ (id_in (codes "field-id") f) front)
    (λ id.
    bind_err_any _ (read role.Elsewhere space type s) _
    (err_weaker (read role.Elsewhere space type s) (Finds (Found space type s.names))
    (Finds (FieldFound space f s.names)) (λ e g r. (type, (is, g r))) (h role.Elsewhere space type s))
    (λ x. tt))))

-- the names inside a record, where its own is open
opened : (o : Ordering) (a : Option (Option Tree)) → match_ordering o a (Some None) a ≡ Some None
    → (o ≡ Equal) ⊎ (a ≡ Some None)
opened Less a h = inr h
opened Equal a h = inl refl
opened Greater a h = inr h

own_or_open : (space name last used : List ℕ) (d e u : Data) (next : List ℕ) (es : List Entry)
    → kind_in d ≡ Some kind.Record → name_in d ≡ Some name → HasPart space d next e → Inside next e last u
    → Uses last u used
    → (slice_cmp nat_cmp used (defines space name d) ≡ Equal) ⊎ (lookup used es ≡ Some None) → Found space d es
own_or_open space name last used d e u next es is named holds inside made (inl same) = inl
    (recursion itself (a_record is named) holds inside (rw (exact_bytes used (defines space name d) same) at made))
own_or_open space name last used d e u next es is named holds inside made (inr l) = inr (open_use (further holds inside)
    made l)

found_outside : (space name next : List ℕ) (d e : Data) (es fs : List Entry) → kind_in d ≡ Some kind.Record
    → name_in d ≡ Some name → HasPart space d next e → fs ≡ put (defines space name d) None es → Found next e fs
    → Found space d es
found_outside space name next d e es fs is named holds same (inl (recursion i m h j u)) = inl
    (recursion (further holds i) m h j u)
found_outside space name next d e es fs is named holds same (inr (open_use {last} {name = used} {u = type} i u l)) =
    let k : match_ordering (slice_cmp nat_cmp used (defines space name d)) (lookup used es) (Some None) (lookup used es)
    ≡ Some None = sym (lookup-put used (defines space name d) None es) ∙ rw same at l in
    own_or_open space name last used d e type next es is named holds i u
    (opened (slice_cmp nat_cmp used (defines space name d)) (lookup used es) k)

record_finds : (read : Reader) → AlwaysKeeps read → AlwaysFinds read → (space : List ℕ) (d : Data) (s : Seen)
    → kind_in d ≡ Some kind.Record → IfErr (record_at read space d s) (Finds (Found space d s.names))
unfolding record_at
record_finds read keeps h space d s is =
    bind_err (λ x. name_in d ≡ Some x) _ (asked (name_in d)) _ (asked_is (name_in d)) (asked_finds _ (name_in d))
    (λ name named.
    bind_err (λ x. items_in is_object (codes "fields") d ≡ Some x) _ (asked (items_in is_object (codes "fields") d)) _
    (asked_is (items_in is_object (codes "fields") d)) (asked_finds _ (items_in is_object (codes "fields") d))
    (λ items there.
    bind_err (New (defines space name d) None s) _ (defined (defines space name d) None s) _
    (defined_new (defines space name d) None s) (defined_finds _ (defines space name d) None s) (λ opened new.
    bind_err_any _ (fields_at (read role.Elsewhere (space_of (defines space name d))) [] items opened) _
    (err_weaker (fields_at (read role.Elsewhere (space_of (defines space name d))) [] items opened)
    (Finds (AmongFound (FieldFound (space_of (defines space name d))) items opened.names))
    (Finds (Found space d s.names))
    (λ e f r. let a : AmongFound (FieldFound (space_of (defines space name d))) items opened.names = f r in
    found_outside space name (space_of (defines space name d)) d a.1.1.0 s.names opened.names is named
    (a_field is named there a.1.0 a.1.1.1.0) new.1 a.1.1.1.1)
    (each_finds (FieldFound (space_of (defines space name d))) (field_before (space_of (defines space name d)))
    (field_at (read role.Elsewhere (space_of (defines space name d))))
    (field_keeps (read role.Elsewhere (space_of (defines space name d)))
    (keeps role.Elsewhere (space_of (defines space name d))))
    (field_finds read h (space_of (defines space name d))) [] items opened))
    (λ x. tt))))

array_finds : (read : Reader) → AlwaysFinds read → (space : List ℕ) (d : Data) (s : Seen) → kind_in d ≡ Some kind.Array
    → IfErr (array_at read space d s) (Finds (Found space d s.names))
unfolding array_at
array_finds read h space d s is =
    bind_err (λ x. get (codes "items") d ≡ Some x) _ (asked (get (codes "items") d)) _
    (asked_is (get (codes "items") d)) (asked_finds _ (get (codes "items") d)) (λ items there.
    bind_err_any _ (read role.Elsewhere space items s) _
    (err_weaker (read role.Elsewhere space items s) (Finds (Found space items s.names)) (Finds (Found space d s.names))
    (λ e f r. found_further space space d items s.names (its_items is there) (f r)) (h role.Elsewhere space items
    s))
    (λ x. tt))

map_finds : (read : Reader) → AlwaysFinds read → (space : List ℕ) (d : Data) (s : Seen) → kind_in d ≡ Some kind.Map
    → IfErr (map_at read space d s) (Finds (Found space d s.names))
unfolding map_at
map_finds read h space d s is =
    bind_err (λ x. get (codes "values") d ≡ Some x) _ (asked (get (codes "values") d)) _
    (asked_is (get (codes "values") d)) (asked_finds _ (get (codes "values") d)) (λ values there.
    bind_err_any _ (read role.Elsewhere space values s) _
    (err_weaker (read role.Elsewhere space values s) (Finds (Found space values s.names))
    (Finds (Found space d s.names)) (λ e f r. found_further space space d values s.names (its_values is there)
    (f r)) (h role.Elsewhere space values s))
    (λ x. tt))

enum_finds : (X : Type 0) (space : List ℕ) (d : Data) (s : Seen) → IfErr (enum_at space d s) (Finds X)
unfolding enum_at
enum_finds X space d s =
    bind_err_any _ (asked (name_in d)) _ (asked_finds X (name_in d)) (λ name.
    bind_err_any _ (asked (symbols_in d)) _ (asked_finds X (symbols_in d)) (λ count.
    bind_err_any _ (defined (defines space name d) (Some (symbols count)) s) _ (defined_finds X (defines space name d)
    (Some (symbols count)) s) (λ now. tt)))

fixed_finds : (X : Type 0) (space : List ℕ) (d : Data) (s : Seen) → IfErr (fixed_at space d s) (Finds X)
unfolding fixed_at
fixed_finds X space d s =
    bind_err_any _ (asked (name_in d)) _ (asked_finds X (name_in d)) (λ name.
    bind_err_any _ (asked (size_in d)) _ (asked_finds X (size_in d)) (λ size.
    bind_err_any _ (defined (defines space name d) (Some (fixed size (bytes_kind d))) s) _
    (defined_finds X (defines space name d) (Some (fixed size (bytes_kind d))) s) (λ now. tt)))

of_kind_finds : (n : ℕ) (read : Reader) → AlwaysKeeps read → AlwaysFinds read
    → (space : List ℕ) (k : Kind) (word : List ℕ) (d : Data) (s : Seen) → text_in (codes "type") d ≡ Some word
    → kind_of word ≡ k → IfErr (of_kind read n space k word d s) (Finds (Found space d s.names))
of_kind_finds n read keeps h space kind.Array word d s type is = array_finds read h space d s (rw (type, is) refl)
of_kind_finds n read keeps h space kind.Map word d s type is = map_finds read h space d s (rw (type, is) refl)
of_kind_finds n read keeps h space kind.Record word d s type is = record_finds read keeps h space d s
    (rw (type, is) refl)
of_kind_finds n read keeps h space kind.Enum word d s type is = enum_finds (Found space d s.names) space d s
of_kind_finds n read keeps h space kind.Fixed word d s type is = fixed_finds (Found space d s.names) space d s
of_kind_finds n read keeps h space kind.Bytes word d s type is = tt
of_kind_finds n read keeps h space kind.Word word d s type is =
    err_weaker (named n space word s) (Finds ((plain word ≡ None) × (lookup (full space word) s.names ≡ Some None)))
    (Finds (Found space d s.names)) (λ e f r. inr (open_use itself (a_type type is (f r).0) (f r).1))
    (named_finds n space word s)

union_finds : (read : Reader) → AlwaysKeeps read → AlwaysFinds read
    → (at : Role) (space : List ℕ) (ds : Items) (s : Seen)
    → IfErr (union_at read at space ds s) (Finds (Found space (json.array ds) s.names))
unfolding union_at
union_finds read keeps h role.Branch space ds s = λ k. absurd cc
union_finds read keeps h role.Elsewhere space ds s =
    bind_err_any _ (branches_at (read role.Branch space) [] ds s) _
    (err_weaker (branches_at (read role.Branch space) [] ds s) (Finds (AmongFound (Found space) ds s.names))
    (Finds (Found space (json.array ds) s.names))
    (λ e f r. let a : AmongFound (Found space) ds s.names = f r in found_further space space (json.array ds) a.0 s.names
    (a_branch a.1.0) a.1.1)
    (each_finds (Found space) (found_before space) (whatever_before (read role.Branch space))
    (λ front d t. keeps role.Branch space d t) (λ front d t. h role.Branch space d t) [] ds s))
    (λ x. tt)

node_finds : (n : ℕ) (read : Reader) → AlwaysKeeps read → AlwaysFinds read
    → (at : Role) (space : List ℕ) (d : Data) (s : Seen)
    → IfErr (node_at read n at space d s) (Finds (Found space d s.names))
unfolding node_at text_at object_at
node_finds n read keeps h at space json.null s = λ k. absurd cc
node_finds n read keeps h at space (json.boolean b) s = λ k. absurd cc
node_finds n read keeps h at space (json.number m) s = λ k. absurd cc
node_finds n read keeps h at space (json.string word) s = of_word_finds n space (kind_of word) word s refl
node_finds n read keeps h at space (json.array ds) s = union_finds read keeps h at space ds s
node_finds n read keeps h at space (json.object ms) s =
    bind_err (λ x. text_in (codes "type") (json.object ms) ≡ Some x) _ (asked (text_in (codes "type") (json.object ms)))
    _ (asked_is (text_in (codes "type") (json.object ms))) (asked_finds _ (text_in (codes "type") (json.object ms)))
    (λ word type. of_kind_finds n read keeps h space (kind_of word) word (json.object ms) s type refl)

-- ---- the whole walk

tree_finds : (n : ℕ) → AlwaysFinds (tree_at n)
unfolding tree_at
tree_finds zero at space d s = λ k. absurd cc
tree_finds (suc n) at space d s =
    bind_err (λ now. now.names ≡ s.names) _ (counted s) _ (counted_same (nat_lt 0 s.left) s refl)
    (counted_finds _ (nat_lt 0 s.left) s refl) (λ now e.
    rw (← e) (node_finds n (tree_at n) (tree_keeps n) (tree_finds n) at space d now))

nothing_open : (d : Data) → Found [] d [] → HasRecursion [] d
nothing_open d (inl r) = r
nothing_open d (inr (open_use i u l)) = absurd cc

pub schema_finds : (text : List ℕ) (d : Data) → json_of text ≡ Ok d → IfErr (schema_of text) (Finds (HasRecursion [] d))
unfolding schema_of
schema_finds text d is =
    rw is (bind_err_any _ (tree_at most_levels role.Elsewhere [] d (record { names = []; left = most_nodes })) _
    (err_weaker (tree_at most_levels role.Elsewhere [] d (record { names = []; left = most_nodes }))
    (Finds (Found [] d [])) (Finds (HasRecursion [] d)) (λ e f r. nothing_open d (f r))
    (tree_finds most_levels role.Elsewhere [] d (record { names = []; left = most_nodes })))
    (λ t. tt))
