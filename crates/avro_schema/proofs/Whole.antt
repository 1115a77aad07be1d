-- What the whole reader does follows the rules of `Trace`: records, and then every type.
use Rattle.std.proofs.Common.{◌≡◌, ℕ, zero, suc, Bool, true, false, List, [], ◌∷◌, ◌++◌, Option, Some, None, refl, sym}
use Rattle.std.proofs.Common.{ap, ◌∙◌}
use mathlib.Core.Logic.{inr}
use Rattle.std.specs.Prelude.{MatchResult, codes, ℤ, nat_lt}
use Rattle.serde_json.specs.Data as json
use Rattle.serde_json.specs.Data.{Data, Items}
use Rattle.serde_json.specs.Find.{get, as_array}
use Rattle.avro_schema.specs.declared.fault.SchemaFault.{SchemaFault}
use Rattle.avro_schema.specs.declared.fault.SchemaFault.TheVariants.{TooBig}
use Rattle.avro_schema.specs.declared.reading.Role.{Role}
use Rattle.avro_schema.specs.declared.reading.Role.TheVariants as role
use Rattle.avro_schema.specs.declared.attributes.Kind.{Kind}
use Rattle.avro_schema.specs.declared.attributes.Kind.TheVariants as kind
use Rattle.avro_schema.specs.Tree.{Tree, octets, structure, Fields, no_fields, field}
use Rattle.avro_schema.specs.View.{Part, fields_of}
use Rattle.avro_schema.specs.Names.{Entry, put, space_of}
use Rattle.avro_schema.specs.Attributes.{name_in, id_in, items_in, is_object, bytes_kind, plain, text_in, kind_of}
use Rattle.avro_schema.specs.Reading.{Seen, Read, Reader, asked, fresh, named, defined, defines, each_at, field_at}
use Rattle.avro_schema.specs.Reading.{fields_at, record_at, of_kind, object_at, of_word, text_at, node_at, counted}
use Rattle.avro_schema.specs.Reading.{tree_at}
use Rattle.avro_schema.specs.Inside.{kind_in, first, a_type, a_record}
use Rattle.avro_schema.specs.Order.{field_nodes, before_others, parts_in}
use Rattle.avro_schema.specs.Stands.{Meaning, plain_object, bytes_object, record_object, FieldsStand, no_field}
use Rattle.avro_schema.specs.Stands.{next_field}
use Rattle.avro_schema.proofs.Kept.{New}
use Rattle.avro_schema.proofs.Shapes.{before_fields, before_fields-push, before_fields-none}
use Rattle.avro_schema.proofs.Trace.{AllStand, all_next, NoIdTwice, Took, took_named, TookAll, took_none, took_next}
use Rattle.avro_schema.proofs.Trace.{Another, Failed, failed_other, failed_id, failed_named, FailedIn, failed_first}
use Rattle.avro_schema.proofs.Trace.{failed_later}
use Rattle.avro_schema.proofs.Holding.{uses_kind, defines_kind, parts_kind, parts_fields, one_kind}
use Rattle.avro_schema.proofs.Ids.{FreshIn, HadId, fresh_tells, IdsApart, IdHad, none_apart, apart_on, had_on}
use Rattle.avro_schema.proofs.Ids.{nothing_before}
use Rattle.avro_schema.specs.Faults.{IdTwice}
use Rattle.avro_schema.proofs.Traced.{both_bind, both_weaker, asked_tells, single, TookIt, TookAt, FailedIt, Tells}
use Rattle.avro_schema.proofs.Traced.{leaf, no_record, named_tells, of_word_tells, plain_type_no_use, closes}
use Rattle.avro_schema.proofs.Traced.{defined_tells, enum_tells, fixed_tells, array_tells, map_tells, union_tells}

-- the fields with these trees
abbrev pub fields_with : Items → List Tree → Fields
fields_with json.no_items ts = no_fields
fields_with (json.item d ds) [] = no_fields
fields_with (json.item d ds) (t ∷ ts) = field (id_in (codes "field-id") d) t (fields_with ds ts)

data FieldTook : List ℕ → Data → List Part → List Entry → Part → List Entry → Type 0 where
  field_took : {space name : List ℕ} {d e : Data} {front : List Part} {es fs : List Entry} {p : Part}
      → name_in d ≡ Some name → get (codes "type") d ≡ Some e → p.0 ≡ id_in (codes "field-id") d → FreshIn d front
      → Took space e es p.1 fs → FieldTook space d front es p fs

data FieldFailed : List ℕ → Data → List Part → List Entry → SchemaFault → Type 0 where
  field_failed : {space : List ℕ} {d e : Data} {front : List Part} {es : List Entry} {f : SchemaFault}
      → get (codes "type") d ≡ Some e → Failed space e es f → FieldFailed space d front es f
  field_had : {space : List ℕ} {d : Data} {front : List Part} {es : List Entry} {f : SchemaFault} → HadId d front f
      → FieldFailed space d front es f
  field_other : {space : List ℕ} {d : Data} {front : List Part} {es : List Entry} {f : SchemaFault} → Another f
      → FieldFailed space d front es f

field_tells : (read : Reader) → Tells read → (space : List ℕ) (front : List Part) (d : Data) (s : Seen)
    → MatchResult (field_at (read role.Elsewhere space) front d s) (λ x. FieldTook space d front s.names x.0 x.1.names)
    (FieldFailed space d front s.names)
unfolding field_at
field_tells read h space front d s =
    both_bind (λ name. name_in d ≡ Some name) _ _ (asked (name_in d)) _ (asked_tells _ (field_other tt) (name_in d))
    (λ name named.
    both_bind (λ e. get (codes "type") d ≡ Some e) _ _ (asked (get (codes "type") d)) _ (asked_tells _ (field_other tt)
    (get (codes "type") d)) (λ e there.
    both_bind (λ id. (id ≡ id_in (codes "field-id") d) × FreshIn d front) _ _ (fresh (id_in (codes "field-id") d) front)
    _
    (both_weaker (fresh (id_in (codes "field-id") d) front) (λ id. (id ≡ id_in (codes "field-id") d) × FreshIn d front)
    (λ id. (id ≡ id_in (codes "field-id") d) × FreshIn d front) (HadId d front) (FieldFailed space d front s.names)
    (λ x p. p) (λ f p. field_had p) (fresh_tells d (id_in (codes "field-id") d) front refl)) (λ id new.
    both_bind (TookAt role.Elsewhere space e s) _ _ (read role.Elsewhere space e s) _
    (both_weaker (read role.Elsewhere space e s) (TookAt role.Elsewhere space e s) (TookAt role.Elsewhere space e s)
    (FailedIt space e s) (FieldFailed space d front s.names) (λ x p. p) (λ f p. field_failed there p)
    (h role.Elsewhere space e s)) (λ x took.
    field_took named there new.0 new.1 took.1))))

data FieldsTook : List ℕ → Items → List Part → List Entry → List Part → List Entry → Type 0 where
  fields_took : {space : List ℕ} {ds : Items} {front all : List Part} {es fs : List Entry} {ts : List Tree}
      → TookAll (field_nodes space ds) es ts fs → fields_of all ≡ before_fields front (fields_with ds ts)
      → ((names : Meaning) → AllStand names (field_nodes space ds) ts → FieldsStand names space ds (fields_with ds ts))
      → IdsApart front ds → FieldsTook space ds front es all fs

data FieldsFailed : List ℕ → Items → List Part → List Entry → SchemaFault → Type 0 where
  fields_failed : {space : List ℕ} {ds : Items} {front : List Part} {es : List Entry} {f : SchemaFault}
      → FailedIn (field_nodes space ds) es f → FieldsFailed space ds front es f
  fields_had : {space : List ℕ} {ds : Items} {front : List Part} {es : List Entry} {f : SchemaFault} → IdHad front ds f
      → FieldsFailed space ds front es f
  fields_other : {space : List ℕ} {ds : Items} {front : List Part} {es : List Entry} {f : SchemaFault} → Another f
      → FieldsFailed space ds front es f

field_stands : (names : Meaning) (space name : List ℕ) (d e : Data) (ds : Items) (t : Tree) (ts : List Tree)
    → name_in d ≡ Some name → get (codes "type") d ≡ Some e
    → ((names : Meaning) → AllStand names (field_nodes space ds) ts → FieldsStand names space ds (fields_with ds ts))
    → AllStand names ((space, e) ∷ field_nodes space ds) (t ∷ ts)
    → FieldsStand names space (json.item d ds) (fields_with (json.item d ds) (t ∷ ts))
field_stands names space name d e ds t ts named there so (all_next h rest) = next_field named there h (so names rest)

pub nodes_on : (space : List ℕ) (d e : Data) (ds : Items) → get (codes "type") d ≡ Some e
    → field_nodes space (json.item d ds) ≡ (space, e) ∷ field_nodes space ds
nodes_on space d e ds there = ap (λ (o : Option Data). before_others space o (field_nodes space ds)) there

field_on : (space : List ℕ) (d : Data) (ds : Items) (front all : List Part) (p : Part) (es fs gs : List Entry)
    → FieldTook space d front es p fs → FieldsTook space ds (front ++ p ∷ []) fs all gs
    → FieldsTook space (json.item d ds) front es all gs
field_on space d ds front all p es fs gs (field_took {name} {e} named there id new took) (fields_took {ts} more same so
    apart) =
    let one : p ≡ (id_in (codes "field-id") d, p.1) = ap (λ (o : Option ℤ). (o, p.1)) id in
    let whole : TookAll (field_nodes space (json.item d ds)) es (p.1 ∷ ts) gs = rw (nodes_on space d e ds there)
    (took_next took more) in
    let rest : IdsApart (front ++ (id_in (codes "field-id") d, p.1) ∷ []) ds = rw one at apart in
    fields_took whole
    (same ∙ before_fields-push front p (fields_with ds ts) ∙ ap (λ (o : Option ℤ). before_fields front
    (field o p.1 (fields_with ds ts))) id)
    (λ names h. field_stands names space name d e ds p.1 ts named there so (rw (nodes_on space d e ds there) at h))
    (apart_on d ds front p.1 new rest)

field_fails : (space : List ℕ) (d : Data) (ds : Items) (front : List Part) (es : List Entry) (f : SchemaFault)
    → FieldFailed space d front es f → FieldsFailed space (json.item d ds) front es f
field_fails space d ds front es f (field_failed {e} there h) = fields_failed (rw (nodes_on space d e ds there)
    (failed_first h))
field_fails space d ds front es f (field_had h) = fields_had (h.0, (h.1.0, inr (h.1.1.1, (d, (first, h.1.1.0)))))
field_fails space d ds front es f (field_other h) = fields_other h

fields_fail : (space : List ℕ) (d : Data) (ds : Items) (front : List Part) (p : Part) (es fs : List Entry)
    (f : SchemaFault) → FieldTook space d front es p fs → FieldsFailed space ds (front ++ p ∷ []) fs f
    → FieldsFailed space (json.item d ds) front es f
fields_fail space d ds front p es fs f (field_took {e} named there id new took) (fields_failed h) = fields_failed
    (rw (nodes_on space d e ds there) (failed_later took h))
fields_fail space d ds front p es fs f (field_took named there id new took) (fields_had h) =
    let one : p ≡ (id_in (codes "field-id") d, p.1) = ap (λ (o : Option ℤ). (o, p.1)) id in
    let had : IdHad (front ++ (id_in (codes "field-id") d, p.1) ∷ []) ds f = rw one at h in
    fields_had (had_on d ds front p.1 f had.0 had.1.0 had.1.1)
fields_fail space d ds front p es fs f took (fields_other h) = fields_other h

fields_tell : (read : Reader) → Tells read → (space : List ℕ) (front : List Part) (ds : Items) (s : Seen)
    → MatchResult (fields_at (read role.Elsewhere space) front ds s) (λ x. FieldsTook space ds front s.names x.0
    x.1.names) (FieldsFailed space ds front s.names)
unfolding each_at
fields_tell read h space front json.no_items s = let none : TookAll [] s.names [] s.names = took_none in
    fields_took none (before_fields-none front) (λ names _. no_field) (none_apart front)
fields_tell read h space front (json.item d ds) s =
    both_bind (λ x. FieldTook space d front s.names x.0 x.1.names) _ _ (field_at (read role.Elsewhere space) front d s)
    _
    (both_weaker (field_at (read role.Elsewhere space) front d s) (λ x. FieldTook space d front s.names x.0 x.1.names)
    (λ x. FieldTook space d front s.names x.0 x.1.names) (FieldFailed space d front s.names)
    (FieldsFailed space (json.item d ds) front s.names) (λ x p. p)
    (λ f p. field_fails space d ds front s.names f p) (field_tells read h space front d s)) (λ x took.
    both_weaker (fields_at (read role.Elsewhere space) (front ++ x.0 ∷ []) ds x.1) (λ y. FieldsTook space ds
    (front ++ x.0 ∷ []) x.1.names y.0 y.1.names) (λ y. FieldsTook space (json.item d ds) front s.names y.0
    y.1.names) (FieldsFailed space ds (front ++ x.0 ∷ []) x.1.names) (FieldsFailed space (json.item d ds) front
    s.names)
    (λ y p. field_on space d ds front y.0 x.0 s.names x.1.names y.1.names took p) (λ f p. fields_fail space d ds front
    x.0 s.names x.1.names f took p)
    (fields_tell read h space (front ++ x.0 ∷ []) ds x.1))

-- ---- records

same_items : (o : Option Items) (ds es : Items) → o ≡ Some ds → o ≡ Some es → ds ≡ es
same_items o ds es h k = let e : Some ds ≡ Some es = sym h ∙ k in cc

no_id_twice : (d : Data) (ds : Items) → items_in is_object (codes "fields") d ≡ Some ds → ((id : ℤ) → IdTwice id ds → ⊥)
    → NoIdTwice d
no_id_twice d ds there apart id items is other twice = let same : items ≡ ds =
    same_items (items_in is_object (codes "fields") d) items ds other there in apart id (rw same at twice)

record_took : (space name : List ℕ) (d : Data) (ds : Items) (s opened : Seen) (all : List Part) (fs : List Entry)
    → kind_in d ≡ Some kind.Record → name_in d ≡ Some name → items_in is_object (codes "fields") d ≡ Some ds
    → New (defines space name d) None s opened
    → FieldsTook (space_of (defines space name d)) ds [] opened.names all fs
    → Took space d s.names (structure (fields_of all)) (put (defines space name d)
    (Some (structure (fields_of all))) fs)
unfolding before_fields
record_took space name d ds s opened all fs is named there new (fields_took {ts} took same so apart) =
    let start : TookAll (field_nodes (space_of (defines space name d)) ds) (put (defines space name d) None s.names) ts
    fs = rw new.1 at took in
    let whole : TookAll (parts_in space d) (put (defines space name d) None s.names) ts fs =
    rw (parts_fields space name d ds is named there) start in
    took_named (a_record is named) new.0 (no_id_twice d ds there apart.0) whole (closes (defines space name d)
    (structure (fields_of all)) fs)
    (λ names h. rw same (record_object is named there (so names (rw (parts_fields space name d ds is named there) at
    h))))

record_failed : (space name : List ℕ) (d : Data) (ds : Items) (s opened : Seen) (f : SchemaFault)
    → kind_in d ≡ Some kind.Record → name_in d ≡ Some name → items_in is_object (codes "fields") d ≡ Some ds
    → New (defines space name d) None s opened
    → FieldsFailed (space_of (defines space name d)) ds [] opened.names f → Failed space d s.names f
record_failed space name d ds s opened f is named there new (fields_failed h) =
    let start : FailedIn (field_nodes (space_of (defines space name d)) ds) (put (defines space name d) None s.names)
    f = rw new.1 at h in
    failed_named (a_record is named) new.0 (rw (parts_fields space name d ds is named there) start)
record_failed space name d ds s opened f is named there new (fields_had h) = failed_id h.1.0 is there
    (nothing_before ds h.0 h.1.1)
record_failed space name d ds s opened f is named there new (fields_other h) = failed_other h

record_tells : (read : Reader) → Tells read → (space : List ℕ) (d : Data) (s : Seen) → kind_in d ≡ Some kind.Record
    → MatchResult (record_at read space d s) (TookIt space d s) (FailedIt space d s)
unfolding record_at
record_tells read h space d s is =
    both_bind (λ name. name_in d ≡ Some name) _ _ (asked (name_in d)) _ (asked_tells _ (failed_other tt) (name_in d))
    (λ name named.
    both_bind (λ ds. items_in is_object (codes "fields") d ≡ Some ds) _ _
    (asked (items_in is_object (codes "fields") d)) _ (asked_tells _ (failed_other tt)
    (items_in is_object (codes "fields") d)) (λ ds there.
    both_bind (New (defines space name d) None s) _ _ (defined (defines space name d) None s) _
    (defined_tells space (defines space name d) d None s (a_record is named)) (λ opened new.
    both_bind (λ x. FieldsTook (space_of (defines space name d)) ds [] opened.names x.0 x.1.names) _ _
    (fields_at (read role.Elsewhere (space_of (defines space name d))) [] ds opened) _
    (both_weaker (fields_at (read role.Elsewhere (space_of (defines space name d))) [] ds opened)
    (λ x. FieldsTook (space_of (defines space name d)) ds [] opened.names x.0 x.1.names)
    (λ x. FieldsTook (space_of (defines space name d)) ds [] opened.names x.0 x.1.names)
    (FieldsFailed (space_of (defines space name d)) ds [] opened.names) (FailedIt space d s) (λ x p. p)
    (λ f p. record_failed space name d ds s opened f is named there new p)
    (fields_tell read h (space_of (defines space name d)) [] ds opened))
    (λ x p. record_took space name d ds s opened x.0 x.1.names is named there new p))))

-- ---- every type

word_leaf : (space word : List ℕ) (d : Data) (es : List Entry) (t : Tree) → text_in (codes "type") d ≡ Some word
    → kind_of word ≡ kind.Word → plain word ≡ Some t → Took space d es t es
word_leaf space word d es t type is p =
    let k : kind_in d ≡ Some kind.Word = rw (type, is) refl in
    leaf space d es t (parts_kind space d kind.Word k) (λ name u. plain_type_no_use space word name d t type p u)
    (λ name h. defines_kind space d name kind.Word k h) (no_record d (λ h. let e : kind.Word ≡ kind.Record =
    one_kind d kind.Word kind.Record k h in absurd cc)) (λ names. plain_object type is p)

bytes_leaf : (space : List ℕ) (d : Data) (es : List Entry) → kind_in d ≡ Some kind.Bytes
    → Took space d es (octets (bytes_kind d)) es
bytes_leaf space d es k =
    leaf space d es (octets (bytes_kind d)) (parts_kind space d kind.Bytes k) (λ name u. uses_kind space name d
    kind.Bytes k u) (λ name h. defines_kind space d name kind.Bytes k h)
    (no_record d (λ h. let e : kind.Bytes ≡ kind.Record = one_kind d kind.Bytes kind.Record k h in absurd cc))
    (λ names. bytes_object k)

of_kind_tells : (n : ℕ) (read : Reader) → Tells read → (space : List ℕ) (k : Kind) (word : List ℕ) (d : Data) (s : Seen)
    → text_in (codes "type") d ≡ Some word → kind_of word ≡ k
    → MatchResult (of_kind read n space k word d s) (TookIt space d s) (FailedIt space d s)
of_kind_tells n read h space kind.Array word d s type is = array_tells read h space d s (rw (type, is) refl)
of_kind_tells n read h space kind.Map word d s type is = map_tells read h space d s (rw (type, is) refl)
of_kind_tells n read h space kind.Record word d s type is = record_tells read h space d s (rw (type, is) refl)
of_kind_tells n read h space kind.Enum word d s type is = enum_tells space d s (rw (type, is) refl)
of_kind_tells n read h space kind.Fixed word d s type is = fixed_tells space d s (rw (type, is) refl)
of_kind_tells n read h space kind.Bytes word d s type is = bytes_leaf space d s.names (rw (type, is) refl)
of_kind_tells n read h space kind.Word word d s type is = named_tells n space word d s (λ t p. word_leaf space word d
    s.names t type is p) (λ none. a_type type is none)

at_place : (at : Role) (space : List ℕ) (d : Data) (s : Seen) (r : Read Tree) → as_array d ≡ None
    → MatchResult r (TookIt space d s) (FailedIt space d s) → MatchResult r (TookAt at space d s) (FailedIt space d s)
at_place at space d s r alone h = both_weaker r (TookIt space d s) (TookAt at space d s) (FailedIt space d s)
    (FailedIt space d s) (λ x p. (single at d alone, p)) (λ f p. p) h

node_tells : (n : ℕ) (read : Reader) → Tells read → (at : Role) (space : List ℕ) (d : Data) (s : Seen)
    → MatchResult (node_at read n at space d s) (TookAt at space d s) (FailedIt space d s)
unfolding node_at text_at object_at
node_tells n read h at space json.null s = failed_other tt
node_tells n read h at space (json.boolean b) s = failed_other tt
node_tells n read h at space (json.number m) s = failed_other tt
node_tells n read h at space (json.string word) s = at_place at space (json.string word) s
    (of_word n space (kind_of word) word s) refl (of_word_tells n space (kind_of word) word s refl)
node_tells n read h at space (json.array ds) s = union_tells read h at space ds s
node_tells n read h at space (json.object ms) s =
    both_bind (λ word. text_in (codes "type") (json.object ms) ≡ Some word) _ _
    (asked (text_in (codes "type") (json.object ms))) _ (asked_tells _ (failed_other tt)
    (text_in (codes "type") (json.object ms)))
    (λ word type. at_place at space (json.object ms) s (of_kind read n space (kind_of word) word (json.object ms) s)
    refl (of_kind_tells n read h space (kind_of word) word (json.object ms) s type refl))

counted_tells : (F : SchemaFault → Type 0) → F TooBig → (b : Bool) (s : Seen) → nat_lt 0 s.left ≡ b
    → MatchResult (counted s) (λ now. now.names ≡ s.names) F
counted_tells F f true s h = rw h refl
counted_tells F f false s h = rw h f

pub tree_tells : (n : ℕ) → Tells (tree_at n)
unfolding tree_at
tree_tells zero at space d s = failed_other tt
tree_tells (suc n) at space d s =
    both_bind (λ now. now.names ≡ s.names) _ _ (counted s) _ (counted_tells _ (failed_other tt) (nat_lt 0 s.left) s
    refl) (λ now e.
    rw (← e) (node_tells n (tree_at n) (tree_tells n) at space d now))
