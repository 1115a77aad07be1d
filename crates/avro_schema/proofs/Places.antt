-- A type has a place in another exactly where it stands inside it.
use Rattle.std.proofs.Common.{◌≡◌, ℕ, suc, List, [], ◌∷◌, Option, Some, None, refl}
use Rattle.std.specs.Prelude.{codes}
use Rattle.serde_json.specs.Data as json
use Rattle.serde_json.specs.Data.{Data, Items}
use Rattle.serde_json.specs.Find.{get}
use Rattle.avro_schema.specs.declared.attributes.Kind.{Kind}
use Rattle.avro_schema.specs.declared.attributes.Kind.TheVariants as kind
use Rattle.avro_schema.specs.Names.{space_of}
use Rattle.avro_schema.specs.Attributes.{name_in, items_in, is_object}
use Rattle.avro_schema.specs.Reading.{defines}
use Rattle.avro_schema.specs.Inside.{kind_in, Among, first, later, HasPart, its_items, its_values, a_branch, a_field}
use Rattle.avro_schema.specs.Inside.{Inside, itself, further}
use Rattle.avro_schema.specs.Order.{Node, before_others, branch_nodes, field_nodes, record_nodes, nodes_of, parts_in}
use Rattle.avro_schema.specs.Order.{Nth, first_part, later_part, At, root, below}
use Rattle.avro_schema.proofs.Holding.{parts_items, parts_values, parts_fields}
use Rattle.avro_schema.proofs.Whole.{nodes_on}
use Rattle.avro_schema.proofs.Known.{no_nth}

-- ---- from what is held to its number

abbrev Numbered : Node → List Node → Type 0
Numbered n ns = (i : ℕ) × Nth i n ns

branch_number : (space : List ℕ) (e : Data) (ds : Items) → Among e ds → Numbered (space, e) (branch_nodes space ds)
branch_number space e ds first = (0, first_part)
branch_number space e ds (later {ds = more} among) = let r = branch_number space e more among in
    (suc r.0, later_part r.1)

behind : (space : List ℕ) (n : Node) (o : Option Data) (ns : List Node) → Numbered n ns
    → Numbered n (before_others space o ns)
behind space n None ns h = h
behind space n (Some d) ns h = (suc h.0, later_part h.1)

field_number : (space : List ℕ) (f e : Data) (ds : Items) → Among f ds → get (codes "type") f ≡ Some e
    → Numbered (space, e) (field_nodes space ds)
field_number space f e ds (first {ds = more}) there = rw (nodes_on space f e more there) (0, first_part)
field_number space f e ds (later {e = other} {ds = more} among) there = behind space (space, e)
    (get (codes "type") other) (field_nodes space more) (field_number space f e more among there)

holds_number : (space : List ℕ) (d : Data) (next : List ℕ) (e : Data) → HasPart space d next e
    → Numbered (next, e) (parts_in space d)
unfolding parts_in
holds_number space d next e (its_items is there) = rw (parts_items space d e is there) (0, first_part)
holds_number space d next e (its_values is there) = rw (parts_values space d e is there) (0, first_part)
holds_number space d next e (a_branch {ds} among) = branch_number space e ds among
holds_number space d next e (a_field {name} {f} {ds} is named there among type) =
    rw (parts_fields space name d ds is named there) (field_number (space_of (defines space name d)) f e ds among type)

pub inside_at : (space last : List ℕ) (d e : Data) → Inside space d last e → (place : List ℕ) × At place space d last e
inside_at space last d e itself = ([], root)
inside_at space last d e (further {next} {e = part} holds inside) =
    let n = holds_number space d next part holds in
    let r = inside_at next last part e inside in (n.0 ∷ r.0, below n.1 r.1)

-- ---- and back

branch_held : (space : List ℕ) (i : ℕ) (n : Node) (ds : Items) → Nth i n (branch_nodes space ds)
    → (n.0 ≡ space) × Among n.1 ds
branch_held space i n json.no_items nth = absurd (no_nth i n [] refl nth)
branch_held space i n (json.item d ds) first_part = (refl, first)
branch_held space i n (json.item d ds) (later_part {i = j} nth) = let r = branch_held space j n ds nth in
    (r.0, later r.1)

abbrev FieldHeld : List ℕ → Node → Items → Type 0
FieldHeld space n ds = (f : Data) × ((n.0 ≡ space) × (Among f ds × (get (codes "type") f ≡ Some n.1)))

field_later : (space : List ℕ) (n : Node) (d : Data) (ds : Items) → FieldHeld space n ds
    → FieldHeld space n (json.item d ds)
field_later space n d ds h = (h.0, (h.1.0, (later h.1.1.0, h.1.1.1)))

field_here : (space : List ℕ) (i : ℕ) (n : Node) (d : Data) (ds : Items) (o : Option Data) → get (codes "type") d ≡ o
    → ((j : ℕ) → Nth j n (field_nodes space ds) → FieldHeld space n ds)
    → Nth i n (before_others space o (field_nodes space ds)) → FieldHeld space n (json.item d ds)
field_here space i n d ds None is rest nth = field_later space n d ds (rest i nth)
field_here space i n d ds (Some e) is rest first_part = (d, (refl, (first, is)))
field_here space i n d ds (Some e) is rest (later_part {i = j} nth) = field_later space n d ds (rest j nth)

field_held : (space : List ℕ) (i : ℕ) (n : Node) (ds : Items) → Nth i n (field_nodes space ds) → FieldHeld space n ds
field_held space i n json.no_items nth = absurd (no_nth i n [] refl nth)
field_held space i n (json.item d ds) nth = field_here space i n d ds (get (codes "type") d) refl
    (λ j h. field_held space j n ds h) nth

one_held : (space : List ℕ) (i : ℕ) (n : Node) (o : Option Data) → Nth i n (before_others space o [])
    → (n.0 ≡ space) × (o ≡ Some n.1)
one_held space i n None nth = absurd (no_nth i n [] refl nth)
one_held space i n (Some e) first_part = (refl, refl)
one_held space i n (Some e) (later_part {i = j} nth) = absurd (no_nth j n [] refl nth)

record_held : (space : List ℕ) (d : Data) (i : ℕ) (n : Node) (o : Option (List ℕ)) (p : Option Items)
    → kind_in d ≡ Some kind.Record → name_in d ≡ o → items_in is_object (codes "fields") d ≡ p
    → Nth i n (record_nodes space o p d) → HasPart space d n.0 n.1
record_held space d i n None p is named there nth = absurd (no_nth i n [] refl nth)
record_held space d i n (Some name) None is named there nth = absurd (no_nth i n [] refl nth)
record_held space d i n (Some name) (Some ds) is named there nth = let r = field_held (space_of (defines space name d))
    i n ds nth in rw r.1.0 (a_field is named there r.1.1.0 r.1.1.1)

kind_held : (space : List ℕ) (d : Data) (i : ℕ) (n : Node) (o : Option Kind) → kind_in d ≡ o
    → Nth i n (nodes_of o space d) → HasPart space d n.0 n.1
kind_held space d i n None is nth = absurd (no_nth i n [] refl nth)
kind_held space d i n (Some kind.Array) is nth = let r = one_held space i n (get (codes "items") d) nth in
    rw r.0 (its_items is r.1)
kind_held space d i n (Some kind.Map) is nth = let r = one_held space i n (get (codes "values") d) nth in
    rw r.0 (its_values is r.1)
kind_held space d i n (Some kind.Record) is nth = record_held space d i n (name_in d)
    (items_in is_object (codes "fields") d) is refl refl nth
kind_held space d i n (Some kind.Enum) is nth = absurd (no_nth i n [] refl nth)
kind_held space d i n (Some kind.Fixed) is nth = absurd (no_nth i n [] refl nth)
kind_held space d i n (Some kind.Bytes) is nth = absurd (no_nth i n [] refl nth)
kind_held space d i n (Some kind.Word) is nth = absurd (no_nth i n [] refl nth)

number_held : (space : List ℕ) (d : Data) (i : ℕ) (n : Node) → Nth i n (parts_in space d) → HasPart space d n.0 n.1
unfolding parts_in
number_held space json.null i n nth = absurd (no_nth i n [] refl nth)
number_held space (json.boolean b) i n nth = absurd (no_nth i n [] refl nth)
number_held space (json.number m) i n nth = absurd (no_nth i n [] refl nth)
number_held space (json.string s) i n nth = absurd (no_nth i n [] refl nth)
number_held space (json.array ds) i n nth = let r = branch_held space i n ds nth in rw r.0 (a_branch r.1)
number_held space (json.object ms) i n nth = kind_held space (json.object ms) i n (kind_in (json.object ms)) refl nth

pub at_inside : (place space last : List ℕ) (d e : Data) → At place space d last e → Inside space d last e
at_inside place space last d e root = itself
at_inside place space last d e (below {i} {place = more} {n} nth at) = further (number_held space d i n nth)
    (at_inside more n.0 last n.1 e at)
