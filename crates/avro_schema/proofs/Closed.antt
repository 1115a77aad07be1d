-- A schema in which a record's own name is used inside it is refused.
use Rattle.std.proofs.Common.{◌≡◌, ℕ, zero, suc, List, [], ◌∷◌, ◌++◌, Option, Some, None, Result, Ok, Ordering, Less}
use Rattle.std.proofs.Common.{Equal, Greater, nat_cmp, refl, sym, ◌∙◌}
use mathlib.Core.Logic.{◌⊎◌, inl, inr}
use Rattle.std.specs.Prelude.{IfOk, ⊤, codes, nat_lt}
use Rattle.std.specs.Ordering.{match_ordering}
use Rattle.std.specs.Cmp.Lexicographic.{slice_cmp}
use Rattle.serde_json.specs.Data.{Data, Items}
use Rattle.serde_json.specs.Find.{get}
use Rattle.avro_schema.specs.declared.reading.Role.{Role}
use Rattle.avro_schema.specs.declared.reading.Role.TheVariants as role
use Rattle.avro_schema.specs.declared.attributes.Kind.{Kind}
use Rattle.avro_schema.specs.declared.attributes.Kind.TheVariants as kind
use Rattle.avro_schema.specs.Tree.{Tree}
use Rattle.avro_schema.specs.View.{Part}
use Rattle.avro_schema.specs.Names.{Entry, lookup, put, full, space_of}
use Rattle.avro_schema.specs.Attributes.{name_in, id_in, items_in, is_object, plain}
use Rattle.avro_schema.specs.Reading.{Seen, Read, Reader, asked, fresh, named, defined, defines, each_at, branches_at}
use Rattle.avro_schema.specs.Reading.{whatever_before, field_at, fields_at, record_at, array_at, map_at, text_at}
use Rattle.avro_schema.specs.Reading.{union_at, node_at, counted, tree_at}
use Rattle.avro_schema.specs.Inside.{kind_in, Among, first, later, HasPart, its_items, its_values, a_branch, a_field}
use Rattle.avro_schema.specs.Inside.{Inside, itself, further, Uses, a_text, a_type, Defines, a_record, an_enum, a_fixed}
use Rattle.avro_schema.specs.Inside.{HasRecursion, recursion}
use Rattle.avro_schema.specs.Texts.{json_of, schema_of, most_nodes, most_levels}
use Rattle.avro_schema.proofs.Binds.{bind_if, bind_any}
use Rattle.avro_schema.proofs.Shapes.{object_is, kind_is}
use Rattle.avro_schema.proofs.Kept.{Grown, Grows, AlwaysKeeps, New, lookup-put, lookup-put_same, defined_new}
use Rattle.avro_schema.proofs.Kept.{field_keeps, tree_keeps, counted_same}

-- nothing is accepted
abbrev Refused : {A E : Type 0} → Result A E → Type 0
Refused r = IfOk r (λ _. ⊥)

-- what is known of the names stays known, whatever is read next and whatever definition is opened
abbrev Stays : (List Entry → Type 0) → Type 0
Stays Known = (es fs : List Entry) → Grows es fs → Known es → Known fs

abbrev StaysInside : (List Entry → Type 0) → Type 0
StaysInside Known = (name : List ℕ) (es : List Entry) → Known es → Known (put name None es)

-- ---- from a part to the whole

each_refused : {A : Type 0} (Known : List Entry → Type 0) → Stays Known → (read : List A → Data → Seen → Read A)
    → ((front : List A) (e : Data) (s : Seen) → IfOk (read front e s) (λ x. Grows s.names x.1.names))
    → (d : Data) → ((front : List A) (s : Seen) → Known s.names → Refused (read front d s))
    → (front : List A) (ds : Items) (s : Seen) → Among d ds → Known s.names → Refused (each_at read front ds s)
unfolding each_at
each_refused Known stays read keeps d bad front ds s (first {ds = rest}) known = bind_if (λ _. ⊥) _ (read front d s) _
    (bad front s known) (λ x no. absurd no)
each_refused Known stays read keeps d bad front ds s (later {e} {ds = rest} among) known =
    bind_if (λ x. Grows s.names x.1.names) _ (read front e s) _ (keeps front e s) (λ x grows.
    each_refused Known stays read keeps d bad (front ++ x.0 ∷ []) rest x.1 among (stays s.names x.1.names grows known))

field_refused : (read : Data → Seen → Read Tree) (front : List Part) (f e : Data) (s : Seen)
    → get (codes "type") f ≡ Some e → Refused (read e s) → Refused (field_at read front f s)
unfolding field_at
field_refused read front f e s there bad =
    bind_any _ (asked (name_in f)) _ (λ name. rw there (bind_any _ (fresh (id_in (codes "field-id") f) front) _
    (λ id. bind_if (λ _. ⊥) _ (read e s) _ bad (λ x no. absurd no))))

record_refused : (Known : List Entry → Type 0) → Stays Known → (read : Reader) → AlwaysKeeps read
    → (space name : List ℕ) (d f e : Data) (ds : Items) (s : Seen)
    → name_in d ≡ Some name → items_in is_object (codes "fields") d ≡ Some ds → Among f ds
    → get (codes "type") f ≡ Some e
    → ((at : Role) (q : Seen) → Known q.names → Refused (read at (space_of (defines space name d)) e q))
    → Known (put (defines space name d) None s.names) → Refused (record_at read space d s)
unfolding record_at
record_refused Known stays read keeps space name d f e ds s has_name there among type bad known =
    rw (has_name, there) (
    bind_if (New (defines space name d) None s) _ (defined (defines space name d) None s) _
    (defined_new (defines space name d) None s) (λ opened new.
    bind_if (λ _. ⊥) _ (fields_at (read role.Elsewhere (space_of (defines space name d))) [] ds opened) _
    (each_refused Known stays (field_at (read role.Elsewhere (space_of (defines space name d))))
    (field_keeps (read role.Elsewhere (space_of (defines space name d)))
    (keeps role.Elsewhere (space_of (defines space name d))))
    f (λ front q k. field_refused (read role.Elsewhere (space_of (defines space name d))) front f e q type
    (bad role.Elsewhere q k)) [] ds opened among (rw new.1 known))
    (λ x no. absurd no)))

array_refused : (read : Reader) (space : List ℕ) (d e : Data) (s : Seen) → get (codes "items") d ≡ Some e
    → Refused (read role.Elsewhere space e s) → Refused (array_at read space d s)
unfolding array_at
array_refused read space d e s there bad = rw there (bind_if (λ _. ⊥) _ (read role.Elsewhere space e s) _ bad
    (λ x no. absurd no))

map_refused : (read : Reader) (space : List ℕ) (d e : Data) (s : Seen) → get (codes "values") d ≡ Some e
    → Refused (read role.Elsewhere space e s) → Refused (map_at read space d s)
unfolding map_at
map_refused read space d e s there bad = rw there (bind_if (λ _. ⊥) _ (read role.Elsewhere space e s) _ bad
    (λ x no. absurd no))

union_refused : (Known : List Entry → Type 0) → Stays Known → (read : Reader) → AlwaysKeeps read
    → (at : Role) (space : List ℕ) (ds : Items) (e : Data) (s : Seen) → Among e ds
    → ((at : Role) (q : Seen) → Known q.names → Refused (read at space e q)) → Known s.names
    → Refused (union_at read at space ds s)
unfolding union_at
union_refused Known stays read keeps role.Branch space ds e s among bad known = tt
union_refused Known stays read keeps role.Elsewhere space ds e s among bad known =
    bind_if (λ _. ⊥) _ (branches_at (read role.Branch space) [] ds s) _
    (each_refused Known stays (whatever_before (read role.Branch space)) (λ front c q. keeps role.Branch space c q) e
    (λ front q k. bad role.Branch q k) [] ds s among known)
    (λ x no. absurd no)

node_refused : (Known : List Entry → Type 0) → Stays Known → StaysInside Known → (n : ℕ) (read : Reader)
    → AlwaysKeeps read → (at : Role) (space : List ℕ) (d e : Data) (next : List ℕ) (s : Seen) → HasPart space d next e
    → ((at : Role) (q : Seen) → Known q.names → Refused (read at next e q)) → Known s.names
    → Refused (node_at read n at space d s)
unfolding node_at
node_refused Known stays inside n read keeps at space d e next s (its_items is there) bad known = let k = kind_is read n
    at space d s kind.Array is in rw k.1 (array_refused read space d e s there (bad role.Elsewhere s known))
node_refused Known stays inside n read keeps at space d e next s (its_values is there) bad known = let k = kind_is read
    n at space d s kind.Map is in rw k.1 (map_refused read space d e s there (bad role.Elsewhere s known))
node_refused Known stays inside n read keeps at space d e next s (a_branch {ds} among) bad known = union_refused Known
    stays read keeps at space ds e s among bad known
node_refused Known stays inside n read keeps at space d e next s (a_field {name} {f} {ds} is has_name there among type)
    bad known =
    let k = kind_is read n at space d s kind.Record is in
    rw k.1 (record_refused Known stays read keeps space name d f e ds s has_name there among type bad
    (inside (defines space name d) s.names known))

-- ---- a use of an open name

abbrev IsOpen : List ℕ → List Entry → Type 0
IsOpen name es = lookup name es ≡ Some None

stays_open : (name : List ℕ) → Stays (IsOpen name)
stays_open name es fs grows known = let g : Grown (lookup name es) (lookup name fs) = grows name in rw known at g

open_inside : (o : Ordering) (a : Option (Option Tree)) → a ≡ Some None → match_ordering o a (Some None) a ≡ Some None
open_inside Less a h = h
open_inside Equal a h = refl
open_inside Greater a h = h

stays_open_inside : (name : List ℕ) → StaysInside (IsOpen name)
stays_open_inside name own es known = lookup-put name own None es ∙ open_inside (slice_cmp nat_cmp name own)
    (lookup name es) known

named_refused : (n : ℕ) (space word : List ℕ) (s : Seen) → plain word ≡ None → IsOpen (full space word) s.names
    → Refused (named n space word s)
unfolding named
named_refused n space word s p l = rw (p, l) tt

use_refused : (n : ℕ) (read : Reader) (at : Role) (space name : List ℕ) (d : Data) (s : Seen) → Uses space d name
    → IsOpen name s.names → Refused (node_at read n at space d s)
unfolding node_at text_at
use_refused n read at space name d s (a_text {word} k p) known = rw k (named_refused n space word s p known)
use_refused n read at space name d s (a_type {word} type k p) known = rw (object_is read n at space d s word type, k)
    (named_refused n space word s p known)

abbrev RefusesUse : ℕ → Type 0
RefusesUse n = (at : Role) (space last name : List ℕ) (d u : Data) (s : Seen) → Inside space d last u → Uses last u name
    → IsOpen name s.names → Refused (tree_at n at space d s)

inside_refused : (n : ℕ) → RefusesUse n → (at : Role) (space last name : List ℕ) (d u : Data) (s : Seen)
    → Inside space d last u → Uses last u name → IsOpen name s.names → Refused (node_at (tree_at n) n at space d s)
inside_refused n h at space last name d u s itself uses known = use_refused n (tree_at n) at space name d s uses known
inside_refused n h at space last name d u s (further {next} {e} holds inside) uses known =
    node_refused (IsOpen name) (stays_open name) (stays_open_inside name) n (tree_at n) (tree_keeps n) at space d e next
    s holds (λ at' q k. h at' next last name e u q inside uses k) known

tree_refuses_use : (n : ℕ) → RefusesUse n
unfolding tree_at
tree_refuses_use zero at space last name d u s inside uses known = tt
tree_refuses_use (suc n) at space last name d u s inside uses known =
    bind_if (λ now. now.names ≡ s.names) _ (counted s) _ (counted_same (nat_lt 0 s.left) s refl) (λ now e.
    inside_refused n (tree_refuses_use n) at space last name d u now inside uses (rw e known))

-- ---- a record in which its own name is used

other_kind : (d : Data) (k j : Kind) → kind_in d ≡ Some k → kind_in d ≡ Some j → k ≡ j
other_kind d k j h i = let e : Some k ≡ Some j = sym h ∙ i in cc

-- only an array, a map and a record have parts among the types of objects
has_parts : (k : Kind) (space : List ℕ) (d e : Data) (next : List ℕ) → kind_in d ≡ Some k → HasPart space d next e
    → (k ≡ kind.Array) ⊎ ((k ≡ kind.Map) ⊎ (k ≡ kind.Record))
has_parts k space d e next is (its_items other there) = inl (other_kind d k kind.Array is other)
has_parts k space d e next is (its_values other there) = inr (inl (other_kind d k kind.Map is other))
has_parts k space d e next is (a_branch among) = absurd cc
has_parts k space d e next is (a_field other has_name there among type) = inr
    (inr (other_kind d k kind.Record is other))

no_enum : (kind.Enum ≡ kind.Array) ⊎ ((kind.Enum ≡ kind.Map) ⊎ (kind.Enum ≡ kind.Record)) → ⊥
no_enum (inl h) = absurd cc
no_enum (inr (inl h)) = absurd cc
no_enum (inr (inr h)) = absurd cc

no_fixed : (kind.Fixed ≡ kind.Array) ⊎ ((kind.Fixed ≡ kind.Map) ⊎ (kind.Fixed ≡ kind.Record)) → ⊥
no_fixed (inl h) = absurd cc
no_fixed (inr (inl h)) = absurd cc
no_fixed (inr (inr h)) = absurd cc

record_own_refused : (n : ℕ) (at : Role) (space name : List ℕ) (d e u : Data) (next last : List ℕ) (s : Seen)
    → kind_in d ≡ Some kind.Record → name_in d ≡ Some name → HasPart space d next e → Inside next e last u
    → Uses last u (defines space name d) → Refused (node_at (tree_at n) n at space d s)
record_own_refused n at space name d e u next last s is has_name (its_items other there) inside uses =
    let k : kind.Record ≡ kind.Array = other_kind d kind.Record kind.Array is other in absurd cc
record_own_refused n at space name d e u next last s is has_name (its_values other there) inside uses =
    let k : kind.Record ≡ kind.Map = other_kind d kind.Record kind.Map is other in absurd cc
record_own_refused n at space name d e u next last s is has_name (a_branch among) inside uses = absurd cc
record_own_refused n at space name d e u next last s is has_name (a_field {name = same} {f} {ds} record_is again there
    among type) inside uses =
    let known : Some same ≡ Some name = sym again ∙ has_name in
    let one : same ≡ name = cc in
    let k = kind_is (tree_at n) n at space d s kind.Record is in
    rw k.1 (record_refused (IsOpen (defines space name d)) (stays_open (defines space name d)) (tree_at n)
    (tree_keeps n) space name d f e ds s has_name there among type
    (λ at' q o. tree_refuses_use n at' (space_of (defines space name d)) last (defines space name d) e u q
    (rw one at inside) uses o)
    (lookup-put_same (defines space name d) None s.names))

own_refused : (n : ℕ) (at : Role) (space : List ℕ) (d e u : Data) (own next last : List ℕ) (s : Seen)
    → Defines space d own → HasPart space d next e → Inside next e last u → Uses last u own
    → Refused (node_at (tree_at n) n at space d s)
own_refused n at space d e u own next last s (a_record {name} is has_name) holds inside uses = record_own_refused n at
    space name d e u next last s is has_name holds inside uses
own_refused n at space d e u own next last s (an_enum is has_name) holds inside uses =
    absurd (no_enum (has_parts kind.Enum space d e next is holds))
own_refused n at space d e u own next last s (a_fixed is has_name) holds inside uses =
    absurd (no_fixed (has_parts kind.Fixed space d e next is holds))

abbrev RefusesRecursion : ℕ → Type 0
RefusesRecursion n = (at : Role) (space : List ℕ) (d : Data) (s : Seen) → HasRecursion space d
    → Refused (tree_at n at space d s)

node_refuses_recursion : (n : ℕ) → RefusesRecursion n → (at : Role) (space : List ℕ) (d : Data) (s : Seen)
    → HasRecursion space d → Refused (node_at (tree_at n) n at space d s)
node_refuses_recursion n h at space d s (recursion {own} {next} {last} {part} {user} itself makes holds inside uses) =
    own_refused n at space d part user own next last s makes holds inside uses
node_refuses_recursion n h at space d s (recursion (further {next = first_next} {e = inner_type} into inner) makes
    holds inside uses) =
    node_refused (λ _. ⊤) (λ es fs grows known. tt) (λ own es known. tt) n (tree_at n) (tree_keeps n) at space
    d inner_type first_next s into (λ at' q k. h at' first_next inner_type q (recursion inner makes holds inside
    uses)) tt

tree_refuses_recursion : (n : ℕ) → RefusesRecursion n
unfolding tree_at
tree_refuses_recursion zero at space d s r = tt
tree_refuses_recursion (suc n) at space d s r = bind_any _ (counted s) _ (λ now. node_refuses_recursion n
    (tree_refuses_recursion n) at space d now r)

pub schema_refuses_recursion : (text : List ℕ) (d : Data) → json_of text ≡ Ok d → HasRecursion [] d
    → IfOk (schema_of text) (λ _. ⊥)
unfolding schema_of
schema_refuses_recursion text d is r =
    rw is (bind_if (λ _. ⊥) _ (tree_at most_levels role.Elsewhere [] d (record { names = []; left = most_nodes })) _
    (tree_refuses_recursion most_levels role.Elsewhere [] d (record { names = []; left = most_nodes }) r)
    (λ x no. absurd no))
