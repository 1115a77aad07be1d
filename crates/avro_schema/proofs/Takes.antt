-- A schema whose JSON stands for a tree within the limits has no fault but one of names or ids.
use Rattle.std.proofs.Common.{◌≡◌, ℕ, zero, suc, ◌+◌, ◌≤◌, ◌<◌, Bool, true, false, List, [], ◌∷◌, ◌++◌, Option, Some}
use Rattle.std.proofs.Common.{None, Result, Ok, Err, refl, ap, arith}
use Rattle.std.proofs.lemmas.Bool.{lt-ltb, le-ltb}
use Rattle.std.proofs.lemmas.Result.{IfErr-at_err}
use Rattle.std.specs.Prelude.{MatchResult, IfOk, IfErr, ⊤, codes, ℤ, nat_lt, if◌then◌else◌}
use Rattle.std.specs.List.{list_any}
use Rattle.serde_json.specs.Data as json
use Rattle.serde_json.specs.Data.{Data, Items}
use Rattle.serde_json.specs.Find.{get}
use Rattle.avro_schema.specs.declared.fault.SchemaFault.{SchemaFault}
use Rattle.avro_schema.specs.declared.fault.SchemaFault.TheVariants.{NotJson, UnknownType, UnknownName, Recursive}
use Rattle.avro_schema.specs.declared.fault.SchemaFault.TheVariants.{TooBig, FieldTwice, Memory, NameTwice}
use Rattle.avro_schema.specs.declared.reading.Role.{Role}
use Rattle.avro_schema.specs.declared.reading.Role.TheVariants as role
use Rattle.avro_schema.specs.declared.attributes.Kind.TheVariants as kind
use Rattle.contract_words.specs.Outcome.{◌>>=◌}
use Rattle.avro_schema.specs.Tree.{Tree, symbols, fixed, Fields, Branches}
use Rattle.avro_schema.specs.Size.{below, in_fields, in_branches, height, deepest_field, deepest_branch, nodes, depth}
use Rattle.avro_schema.specs.Size.{left_after}
use Rattle.avro_schema.specs.View.{Part}
use Rattle.avro_schema.specs.Names.{lookup, put, full, space_of}
use Rattle.avro_schema.specs.Attributes.{name_in, id_in, items_in, is_object, symbols_in, size_in, bytes_kind, plain}
use Rattle.avro_schema.specs.Reading.{Seen, Reader, has_id, fresh, if_left, used, named, if_new, defined, defines}
use Rattle.avro_schema.specs.Reading.{each_at, branches_at, field_at, fields_at, record_at, array_at, map_at, enum_at}
use Rattle.avro_schema.specs.Reading.{fixed_at, text_at, union_at, node_at, counted, tree_at}
use Rattle.avro_schema.specs.Texts.{json_of, schema_of, most_nodes, most_levels}
use Rattle.avro_schema.specs.Inside.{kind_in, Uses, a_text, a_type, HasRecursion}
use Rattle.avro_schema.specs.Order.{branch_nodes, field_nodes, parts_in}
use Rattle.avro_schema.specs.Stands.{Meaning, Stands, used_name, plain_text, bytes_text, union_array, plain_object}
use Rattle.avro_schema.specs.Stands.{bytes_object, fixed_object, enum_object, array_object, map_object, record_object}
use Rattle.avro_schema.specs.Stands.{BranchesStand, no_branch, next_branch, FieldsStand, no_field, next_field, NamesOf}
use Rattle.avro_schema.specs.Faults.{HasUnknownName, HasNameTwice, HasIdTwice}
use Rattle.avro_schema.proofs.Binds.{bind_err_any}
use Rattle.avro_schema.proofs.Limits.{Within, tree_within}
use Rattle.avro_schema.proofs.Shapes.{object_is, kind_is}
use Rattle.avro_schema.proofs.Recursion.{schema_finds}
use Rattle.avro_schema.proofs.Holding.{parts_items, parts_values, parts_fields}
use Rattle.avro_schema.proofs.Traced.{both_bind, Single, TookAt, FailedIt}
use Rattle.avro_schema.proofs.Whole.{nodes_on, tree_tells}
use Rattle.avro_schema.proofs.Known.{Agrees}
use Rattle.avro_schema.proofs.Faulty.{schema_unknown, schema_twice, schema_id}
use Rattle.avro_schema.proofs.Same.{Complete, CompleteAmong, complete_below, complete_first, complete_later}
use Rattle.avro_schema.proofs.Same.{agrees_open, took_same, some_is, schema_only}

-- a fault of names or ids
abbrev Naming : SchemaFault → Type 0
Naming NotJson = ⊥
Naming UnknownType = ⊥
Naming UnknownName = ⊤
Naming Recursive = ⊤
Naming TooBig = ⊥
Naming (FieldTwice id) = ⊤
Naming Memory = ⊥
Naming NameTwice = ⊤

bind_on : {A B : Type 0} (P : A → Type 0) (r : Result A SchemaFault) (f : A → Result B SchemaFault)
    → MatchResult r P Naming → ((x : A) → P x → IfErr (f x) Naming) → IfErr (r >>= f) Naming
bind_on P (Ok x) f h k = k x h
bind_on P (Err e) f h k = h

abbrev Accepts : ℕ → Reader → Type 0
Accepts n read = (at : Role) (space : List ℕ) (d : Data) (s : Seen) (t : Tree) (names : Meaning) → Single at d
    → Stands names space d t → Complete names space d → Agrees names s.names → depth t ≤ n → nodes t ≤ s.left
    → MatchResult (read at space d s) (λ x. (x.1.left + nodes t ≡ s.left) × Agrees names x.1.names) Naming

-- ---- names

less_there : (l n : ℕ) → n ≤ l → (m : ℕ) × (left_after l n ≡ Some m)
less_there l zero h = (l, refl)
less_there zero (suc n) h = absurd (omega (arith, h))
less_there (suc l) (suc n) h = less_there l n (omega (arith, h))

if_left_names : (n : ℕ) (t : Tree) (o : Option ℕ) (left : ℕ) (s : Seen) → o ≡ Some left → height t ≤ n
    → IfErr (if_left n t o s) Naming
if_left_names n t None left s is h = absurd cc
if_left_names n t (Some m) left s is h = let e : nat_lt n (height t) ≡ false = le-ltb n (height t) h in rw e tt

used_names : (n : ℕ) (names : Meaning) (name : List ℕ) (t : Tree) (o : Option (Option Tree)) (s : Seen)
    → names name ≡ Some t → Agrees names s.names → lookup name s.names ≡ o → height t ≤ n → below t ≤ s.left
    → IfErr (used n o s) Naming
used_names n names name t None s is agree l deep many = tt
used_names n names name t (Some None) s is agree l deep many = tt
used_names n names name t (Some (Some u)) s is agree l deep many =
    let same : t ≡ u = some_is (names name) t u is (agree name u l) in
    let there = less_there s.left (below u) (rw same at many) in
    if_left_names n u (left_after s.left (below u)) there.0 s there.1 (rw same at deep)

named_names : (n : ℕ) (names : Meaning) (space word : List ℕ) (t : Tree) (s : Seen) → plain word ≡ None
    → names (full space word) ≡ Some t → Agrees names s.names → height t ≤ n → below t ≤ s.left
    → IfErr (named n space word s) Naming
unfolding named
named_names n names space word t s none is agree deep many = rw none (used_names n names (full space word) t
    (lookup (full space word) s.names) s is agree refl deep many)

plain_names : (n : ℕ) (space word : List ℕ) (t : Tree) (s : Seen) → plain word ≡ Some t
    → IfErr (named n space word s) Naming
unfolding named
plain_names n space word t s p = rw p tt

use_names : (n : ℕ) (read : Reader) (names : Meaning) (at : Role) (space name : List ℕ) (d : Data) (t : Tree) (s : Seen)
    → Uses space d name → names name ≡ Some t → Agrees names s.names → height t ≤ n → below t ≤ s.left
    → IfErr (node_at read n at space d s) Naming
unfolding node_at text_at
use_names n read names at space name d t s (a_text {word} w none) is agree deep many =
    rw w (named_names n names space word t s none is agree deep many)
use_names n read names at space name d t s (a_type {word} type w none) is agree deep many =
    rw (object_is read n at space d s word type, w) (named_names n names space word t s none is agree deep many)

-- ---- definitions

if_new_names : (o : Option (Option Tree)) (q s : Seen) → q.left ≡ s.left → MatchResult (if_new o q) (λ x. x ≡ q) Naming
if_new_names None q s h = refl
if_new_names (Some e) q s h = tt

defined_names : (name : List ℕ) (x : Option Tree) (s : Seen)
    → MatchResult (defined name x s) (λ q. q ≡ record s { names = put name x s.names }) Naming
unfolding defined
defined_names name x s = if_new_names (lookup name s.names) (record s { names = put name x s.names }) s refl

enum_names : (space name : List ℕ) (d : Data) (s : Seen) (n : ℕ) → name_in d ≡ Some name → symbols_in d ≡ Some n
    → IfErr (enum_at space d s) Naming
unfolding enum_at
enum_names space name d s n named there = rw (named, there)
    (bind_on (λ q. q ≡ record s { names = put (defines space name d) (Some (symbols n)) s.names })
    (defined (defines space name d) (Some (symbols n)) s) _ (defined_names (defines space name d) (Some (symbols n)) s)
    (λ q e. tt))

fixed_names : (space name : List ℕ) (d : Data) (s : Seen) (n : ℕ) → name_in d ≡ Some name → size_in d ≡ Some n
    → IfErr (fixed_at space d s) Naming
unfolding fixed_at
fixed_names space name d s n named there = rw (named, there)
    (bind_on (λ q. q ≡ record s { names = put (defines space name d) (Some (fixed n (bytes_kind d))) s.names })
    (defined (defines space name d) (Some (fixed n (bytes_kind d))) s) _ (defined_names (defines space name d)
    (Some (fixed n (bytes_kind d))) s) (λ q e. tt))

-- ---- types that hold others

one_complete : (names : Meaning) (space : List ℕ) (d e : Data) → parts_in space d ≡ (space, e) ∷ []
    → Complete names space d → Complete names space e
one_complete names space d e parts complete = complete_first names (space, e) []
    (rw parts at (complete_below names space d complete))

array_names : (n : ℕ) (read : Reader) → Accepts n read → (names : Meaning) (space : List ℕ) (d e : Data) (s : Seen)
    (t : Tree) → kind_in d ≡ Some kind.Array → get (codes "items") d ≡ Some e → Stands names space e t
    → Complete names space d → Agrees names s.names → depth t ≤ n → nodes t ≤ s.left
    → IfErr (array_at read space d s) Naming
unfolding array_at
array_names n read h names space d e s t is there stands complete agree deep many =
    let inner = one_complete names space d e (parts_items space d e is there) complete in
    rw there (bind_on (λ x. (x.1.left + nodes t ≡ s.left) × Agrees names x.1.names) (read role.Elsewhere space e s) _
    (h role.Elsewhere space e s t names tt stands inner agree deep many) (λ x p. tt))

map_names : (n : ℕ) (read : Reader) → Accepts n read → (names : Meaning) (space : List ℕ) (d e : Data) (s : Seen)
    (t : Tree) → kind_in d ≡ Some kind.Map → get (codes "values") d ≡ Some e → Stands names space e t
    → Complete names space d → Agrees names s.names → depth t ≤ n → nodes t ≤ s.left
    → IfErr (map_at read space d s) Naming
unfolding map_at
map_names n read h names space d e s t is there stands complete agree deep many =
    let inner = one_complete names space d e (parts_values space d e is there) complete in
    rw there (bind_on (λ x. (x.1.left + nodes t ≡ s.left) × Agrees names x.1.names) (read role.Elsewhere space e s) _
    (h role.Elsewhere space e s t names tt stands inner agree deep many) (λ x p. tt))

branches_names : (n : ℕ) (read : Reader) → Accepts n read
    → (names : Meaning) (space : List ℕ) (front : List Tree) (ds : Items) (bs : Branches) (s : Seen)
    → BranchesStand names space ds bs → CompleteAmong names (branch_nodes space ds) → Agrees names s.names
    → deepest_branch bs ≤ n → in_branches bs ≤ s.left
    → IfErr (branches_at (read role.Branch space) front ds s) Naming
unfolding each_at in_branches deepest_branch
branches_names n read h names space front ds bs s no_branch complete agree deep many = tt
branches_names n read h names space front ds bs s (next_branch {d} {ds = more} {t} {bs = others} single here rest)
    complete agree deep many =
    bind_on (λ x. (x.1.left + nodes t ≡ s.left) × Agrees names x.1.names) (read role.Branch space d s) _
    (h role.Branch space d s t names single here (complete_first names (space, d) (branch_nodes space more)
    complete) agree (omega (arith, deep)) (omega (arith, many))) (λ x p.
    branches_names n read h names space (front ++ x.0 ∷ []) more others x.1 rest (complete_later names (space, d)
    (branch_nodes space more) complete) p.1 (omega (arith, deep)) (omega (arith, many, p.0)))

union_names : (n : ℕ) (read : Reader) → Accepts n read → (names : Meaning) (at : Role) (space : List ℕ) (ds : Items)
    (bs : Branches) (s : Seen) → Single at (json.array ds) → BranchesStand names space ds bs
    → Complete names space (json.array ds) → Agrees names s.names → deepest_branch bs ≤ n → in_branches bs ≤ s.left
    → IfErr (union_at read at space ds s) Naming
unfolding union_at parts_in
union_names n read h names role.Branch space ds bs s single stands complete agree deep many = absurd cc
union_names n read h names role.Elsewhere space ds bs s single stands complete agree deep many =
    bind_err_any Naming (branches_at (read role.Branch space) [] ds s) _ (branches_names n read h names space [] ds bs s
    stands (complete_below names space (json.array ds) complete) agree deep many) (λ x. tt)

fresh_names : (o : Option ℤ) (front : List Part) → IfErr (fresh o front) Naming
fresh_names None front = tt
fresh_names (Some id) front = or_not (list_any (has_id id) front)
  where
    or_not : (b : Bool) → IfErr (if b then Err (FieldTwice id) else Ok (Some id)) Naming
    or_not true = tt
    or_not false = tt

any_on : {A B : Type 0} (Q : B → Type 0) (r : Result A SchemaFault) (f : A → Result B SchemaFault) → IfErr r Naming
    → ((x : A) → MatchResult (f x) Q Naming) → MatchResult (r >>= f) Q Naming
any_on Q (Ok x) f h k = k x
any_on Q (Err e) f h k = h

field_names : (n : ℕ) (read : Reader) → Accepts n read → (names : Meaning) (space name : List ℕ) (front : List Part)
    (d e : Data) (s : Seen) (t : Tree) → name_in d ≡ Some name → get (codes "type") d ≡ Some e → Stands names space e t
    → Complete names space e → Agrees names s.names → depth t ≤ n → nodes t ≤ s.left
    → MatchResult (field_at (read role.Elsewhere space) front d s) (λ x. (x.1.left + nodes t ≡ s.left) × Agrees names
    x.1.names) Naming
unfolding field_at
field_names n read h names space name front d e s t named there stands complete agree deep many =
    rw (named, there) (
    any_on (λ x. (x.1.left + nodes t ≡ s.left) × Agrees names x.1.names) (fresh (id_in (codes "field-id") d) front) _
    (fresh_names (id_in (codes "field-id") d) front) (λ id.
    both_bind (λ x. (x.1.left + nodes t ≡ s.left) × Agrees names x.1.names) Naming _ (read role.Elsewhere space e s) _
    (h role.Elsewhere space e s t names tt stands complete agree deep many) (λ x p. p)))

fields_names : (n : ℕ) (read : Reader) → Accepts n read
    → (names : Meaning) (space : List ℕ) (front : List Part) (ds : Items) (fs : Fields) (s : Seen)
    → FieldsStand names space ds fs → CompleteAmong names (field_nodes space ds) → Agrees names s.names
    → deepest_field fs ≤ n → in_fields fs ≤ s.left
    → IfErr (fields_at (read role.Elsewhere space) front ds s) Naming
unfolding each_at in_fields deepest_field
fields_names n read h names space front ds fs s no_field complete agree deep many = tt
fields_names n read h names space front ds fs s (next_field {name} {d} {e} {ds = more} {t} {fs = others} named there
    here rest) complete agree deep many =
    let whole : CompleteAmong names ((space, e) ∷ field_nodes space more) = rw (nodes_on space d e more there) at
    complete in
    bind_on (λ x. (x.1.left + nodes t ≡ s.left) × Agrees names x.1.names) (field_at (read role.Elsewhere space) front d
    s) _ (field_names n read h names space name front d e s t named there here (complete_first names (space, e)
    (field_nodes space more) whole) agree (omega (arith, deep)) (omega (arith, many))) (λ x p.
    fields_names n read h names space (front ++ x.0 ∷ []) more others x.1 rest (complete_later names (space, e)
    (field_nodes space more) whole) p.1 (omega (arith, deep)) (omega (arith, many, p.0)))

record_names : (n : ℕ) (read : Reader) → Accepts n read
    → (names : Meaning) (space name : List ℕ) (d : Data) (ds : Items) (fs : Fields) (s : Seen)
    → kind_in d ≡ Some kind.Record → name_in d ≡ Some name → items_in is_object (codes "fields") d ≡ Some ds
    → FieldsStand names (space_of (defines space name d)) ds fs → Complete names space d → Agrees names s.names
    → deepest_field fs ≤ n → in_fields fs ≤ s.left
    → IfErr (record_at read space d s) Naming
unfolding record_at
record_names n read h names space name d ds fs s is named there stands complete agree deep many =
    let whole : CompleteAmong names (field_nodes (space_of (defines space name d)) ds) =
    rw (parts_fields space name d ds is named there) at (complete_below names space d complete) in
    rw (named, there) (
    bind_on (λ q. q ≡ record s { names = put (defines space name d) None s.names }) (defined (defines space name d) None
    s) _ (defined_names (defines space name d) None s) (λ opened e.
    bind_err_any Naming (fields_at (read role.Elsewhere (space_of (defines space name d))) [] ds opened) _
    (fields_names n read h names (space_of (defines space name d)) [] ds fs opened stands whole
    (rw e (agrees_open names (defines space name d) s.names agree)) deep (rw e many))
    (λ x. tt)))

-- ---- every type

node_names : (n : ℕ) (read : Reader) → Accepts n read → (at : Role) (space : List ℕ) (d : Data) (s : Seen) (t : Tree)
    (names : Meaning) → Single at d → Stands names space d t → Complete names space d → Agrees names s.names
    → height t ≤ n → below t ≤ s.left → IfErr (node_at read n at space d s) Naming
unfolding node_at text_at below height
node_names n read h at space d s t names single (used_name {name} u is) complete agree deep many = use_names n read
    names at space name d t s u is agree deep many
node_names n read h at space d s t names single (plain_text {s = w} k p) complete agree deep many =
    rw k (plain_names n space w t s p)
node_names n read h at space d s t names single bytes_text complete agree deep many = plain_names n space
    (codes "bytes") t s refl
node_names n read h at space d s t names single (union_array {ds} {bs} stands) complete agree deep many = union_names n
    read h names at space ds bs s single stands complete agree deep many
node_names n read h at space d s t names single (plain_object {s = w} type k p) complete agree deep many =
    rw (object_is read n at space d s w type, k) (plain_names n space w t s p)
node_names n read h at space d s t names single (bytes_object is) complete agree deep many = let k = kind_is read n at
    space d s kind.Bytes is in rw k.1 tt
node_names n read h at space d s t names single (fixed_object {name} {n = size} is named there) complete agree deep
    many = let k = kind_is read n at space d s kind.Fixed is in rw k.1 (fixed_names space name d s size named there)
node_names n read h at space d s t names single (enum_object {name} {n = count} is named there) complete agree deep
    many = let k = kind_is read n at space d s kind.Enum is in rw k.1 (enum_names space name d s count named there)
node_names n read h at space d s t names single (array_object {e} {t = u} is there stands) complete agree deep many =
    let k = kind_is read n at space d s kind.Array is in rw k.1 (array_names n read h names space d e s u is there
    stands complete agree deep many)
node_names n read h at space d s t names single (map_object {e} {t = u} is there stands) complete agree deep many =
    let k = kind_is read n at space d s kind.Map is in rw k.1 (map_names n read h names space d e s u is there stands
    complete agree deep many)
node_names n read h at space d s t names single (record_object {name} {ds} {fs} is named there stands) complete agree
    deep many = let k = kind_is read n at space d s kind.Record is in rw k.1 (record_names n read h names space name d
    ds fs s is named there stands complete agree deep many)

-- what an answer tells, put together
both_of : {A E : Type 0} (r : Result A E) (P Q R : A → Type 0) (F G : E → Type 0) → MatchResult r P F → IfOk r Q
    → IfErr r G → ((x : A) → P x → Q x → R x) → MatchResult r R G
both_of (Ok x) P Q R F G h k g f = f x h k
both_of (Err e) P Q R F G h k g f = g

counted_names : (s : Seen) → 0 < s.left → MatchResult (counted s) (λ now. (suc now.left ≡ s.left) ×
    (now.names ≡ s.names)) Naming
counted_names s some = let e : nat_lt 0 s.left ≡ true = lt-ltb 0 s.left some in rw e (omega (arith, some), refl)

met : (names : Meaning) (at : Role) (space : List ℕ) (d : Data) (t : Tree) (s : Seen) (n : ℕ) (x : Tree × Seen)
    → Stands names space d t → Complete names space d → Agrees names s.names → TookAt at space d s x → Within n s.left x
    → (x.1.left + nodes t ≡ s.left) × Agrees names x.1.names
met names at space d t s n x stands complete agree took within =
    let same = took_same took.1 names complete agree in
    (rw (same.0 t stands) within.0, same.1)

level : (n : ℕ) (at : Role) (space : List ℕ) (d : Data) (s : Seen) (t : Tree) (names : Meaning) → Single at d
    → Stands names space d t → Complete names space d → Agrees names s.names → depth t ≤ suc n → nodes t ≤ s.left
    → Accepts n (tree_at n) → IfErr (tree_at (suc n) at space d s) Naming
unfolding tree_at
level n at space d s t names single stands complete agree deep many h =
    bind_on (λ now. (suc now.left ≡ s.left) × (now.names ≡ s.names)) (counted s) _
    (counted_names s (omega (arith, many))) (λ now e.
    node_names n (tree_at n) h at space d now t names single stands complete (rw e.1 agree) (omega (arith, deep))
    (omega (arith, many, e.0)))

tree_names : (n : ℕ) → Accepts n (tree_at n)
tree_names zero at space d s t names single stands complete agree deep many = absurd (omega (arith, deep))
tree_names (suc n) at space d s t names single stands complete agree deep many =
    both_of (tree_at (suc n) at space d s) (TookAt at space d s) (Within (suc n) s.left)
    (λ x. (x.1.left + nodes t ≡ s.left) × Agrees names x.1.names) (FailedIt space d s) Naming
    (tree_tells (suc n) at space d s) (tree_within (suc n) at space d s) (level n at space d s t names single stands
    complete agree deep many (tree_names n))
    (λ x p q. met names at space d t s (suc n) x stands complete agree p q)

schema_names : (text : List ℕ) (d : Data) (names : Meaning) (t : Tree) → json_of text ≡ Ok d → NamesOf d names
    → Stands names [] d t → nodes t ≤ most_nodes → depth t ≤ most_levels → IfErr (schema_of text) Naming
unfolding schema_of
schema_names text d names t is of stands many deep =
    let agree : Agrees names [] = λ name u h. absurd cc in
    rw is (bind_on (λ x. (x.1.left + nodes t ≡ most_nodes) × Agrees names x.1.names) (tree_at most_levels role.Elsewhere
    [] d (record { names = []; left = most_nodes })) _
    (tree_names most_levels role.Elsewhere [] d (record { names = []; left = most_nodes }) t names tt stands
    (λ place last name e at h. of.0 place last name e at h) agree deep many) (λ x p. tt))

accepts : (text : List ℕ) (d : Data) (names : Meaning) (t : Tree) (r : Result Tree SchemaFault) → schema_of text ≡ r
    → json_of text ≡ Ok d → NamesOf d names → Stands names [] d t → IfErr r Naming
    → (HasUnknownName [] d → ⊥) → (HasRecursion [] d → ⊥) → (HasNameTwice [] d → ⊥)
    → ((id : ℤ) → HasIdTwice id [] d → ⊥) → r ≡ Ok t
accepts text d names t (Ok u) ok is of stands h unknown recursion name id = ap Ok (schema_only text d names u t is of
    stands ok)
accepts text d names t (Err NotJson) ok is of stands h unknown recursion name id = absurd h
accepts text d names t (Err UnknownType) ok is of stands h unknown recursion name id = absurd h
accepts text d names t (Err UnknownName) ok is of stands h unknown recursion name id =
    absurd (unknown (schema_unknown text d is ok))
accepts text d names t (Err Recursive) ok is of stands h unknown recursion name id =
    absurd (recursion (IfErr-at_err (λ e. e ≡ Recursive → HasRecursion [] d) ok (schema_finds text d is) refl))
accepts text d names t (Err TooBig) ok is of stands h unknown recursion name id = absurd h
accepts text d names t (Err (FieldTwice found)) ok is of stands h unknown recursion name id =
    absurd (id found (schema_id text d found is ok))
accepts text d names t (Err Memory) ok is of stands h unknown recursion name id = absurd h
accepts text d names t (Err NameTwice) ok is of stands h unknown recursion name id =
    absurd (name (schema_twice text d is ok))

pub schema_accepts : (text : List ℕ) (d : Data) (names : Meaning) (t : Tree) → json_of text ≡ Ok d → NamesOf d names
    → Stands names [] d t → nodes t ≤ most_nodes → depth t ≤ most_levels
    → (HasUnknownName [] d → ⊥) → (HasRecursion [] d → ⊥) → (HasNameTwice [] d → ⊥)
    → ((id : ℤ) → HasIdTwice id [] d → ⊥) → schema_of text ≡ Ok t
schema_accepts text d names t is of stands many deep unknown recursion name id = accepts text d names t (schema_of text)
    refl is of stands (schema_names text d names t is of stands many deep) unknown recursion name id
