-- How many nodes and levels an accepted tree has.
use Rattle.std.proofs.Common.{◌≡◌, ℕ, zero, suc, ◌+◌, ◌≤◌, ◌<◌, Bool, true, false, List, [], ◌∷◌, ◌++◌, Option, Some}
use Rattle.std.proofs.Common.{None, refl, arith}
use Rattle.std.proofs.lemmas.Result.{IfOk-weaker}
use Rattle.std.proofs.lemmas.Bool.{ltb-true, ltb-false}
use Rattle.std.specs.Prelude.{IfOk, ⊤, nat_lt, codes, if◌then◌else◌}
use Rattle.std.specs.Str.{bytes_eq}
use Rattle.serde_json.specs.Data as json
use Rattle.serde_json.specs.Data.{Data, Items}
use Rattle.serde_json.specs.Find.{get}
use Rattle.avro_schema.specs.declared.reading.Role.{Role}
use Rattle.avro_schema.specs.declared.reading.Role.TheVariants as role
use Rattle.avro_schema.specs.declared.attributes.Kind.{Kind}
use Rattle.avro_schema.specs.declared.attributes.Kind.TheVariants as kind
use Rattle.avro_schema.specs.Tree.{Tree}
use Rattle.avro_schema.specs.Size.{below, in_fields, in_branches, height, deepest_field, deepest_branch, nodes, depth}
use Rattle.avro_schema.specs.Size.{left_after}
use Rattle.avro_schema.specs.View.{Part, fields_of, branches_of}
use Rattle.avro_schema.specs.Names.{lookup, full, space_of}
use Rattle.avro_schema.specs.Attributes.{name_in, id_in, items_in, is_object, symbols_in, size_in, plain, text_in}
use Rattle.avro_schema.specs.Attributes.{kind_of}
use Rattle.avro_schema.specs.Reading.{Seen, Read, Reader, asked, fresh, if_left, used, plain_or_used, named, if_new}
use Rattle.avro_schema.specs.Reading.{defined, defines, each_at, branches_at, field_at, fields_at, record_at, array_at}
use Rattle.avro_schema.specs.Reading.{map_at, enum_at, fixed_at, of_kind, object_at, of_word, text_at, union_at}
use Rattle.avro_schema.specs.Reading.{node_at, counted, tree_at}
use Rattle.avro_schema.proofs.Binds.{bind_if, bind_any}
use Rattle.avro_schema.specs.Texts.{json_of, schema_of, most_nodes, most_levels}

-- a tree and what is left after it, where so many nodes were left and so many levels were free below its root
abbrev Below : ℕ → ℕ → Tree × Seen → Type 0
Below n left x = (x.1.left + below x.0 ≡ left) × (height x.0 ≤ n)

-- the same, where its root counts too
abbrev pub Within : ℕ → ℕ → Tree × Seen → Type 0
Within n left x = (x.1.left + nodes x.0 ≡ left) × (depth x.0 ≤ n)

abbrev pub ReadsWithin : ℕ → (Data → Seen → Read Tree) → Type 0
ReadsWithin n read = (d : Data) (s : Seen) → IfOk (read d s) (Within n s.left)

abbrev pub AlwaysWithin : ℕ → Reader → Type 0
AlwaysWithin n read = (at : Role) (space : List ℕ) → ReadsWithin n (read at space)

-- ---- names

if_new_left : (o : Option (Option Tree)) (s : Seen) → IfOk (if_new o s) (λ q. q.left ≡ s.left)
if_new_left None s = refl
if_new_left (Some e) s = tt

defined_left : (name : List ℕ) (x : Option Tree) (s : Seen) → IfOk (defined name x s) (λ q. q.left ≡ s.left)
unfolding defined
defined_left name x s = if_new_left (lookup name s.names) _

abbrev pub Leaf : Tree → Type 0
Leaf t = (below t ≡ 0) × (height t ≡ 0)

abbrev pub IfLeaf : Option Tree → Type 0
IfLeaf None = ⊤
IfLeaf (Some t) = Leaf t

if_leaf : (b : Bool) (t : Tree) (rest : Option Tree) → Leaf t → IfLeaf rest → IfLeaf (if b then Some t else rest)
if_leaf true t rest h k = h
if_leaf false t rest h k = k

pub plain_leaf : (s : List ℕ) → IfLeaf (plain s)
unfolding below height
plain_leaf s =
    if_leaf (bytes_eq s (codes "null")) _ _ (refl, refl) (
    if_leaf (bytes_eq s (codes "boolean")) _ _ (refl, refl) (
    if_leaf (bytes_eq s (codes "int")) _ _ (refl, refl) (
    if_leaf (bytes_eq s (codes "long")) _ _ (refl, refl) (
    if_leaf (bytes_eq s (codes "float")) _ _ (refl, refl) (
    if_leaf (bytes_eq s (codes "double")) _ _ (refl, refl) (
    if_leaf (bytes_eq s (codes "bytes")) _ _ (refl, refl) (
    if_leaf (bytes_eq s (codes "string")) _ _ (refl, refl) tt)))))))

less_back : (l n m : ℕ) → left_after l n ≡ Some m → m + n ≡ l
less_back l zero m h = let k : l ≡ m = cc in omega (arith, k)
less_back zero (suc n) m h = absurd cc
less_back (suc l) (suc n) m h = let k : m + n ≡ l = less_back l n m h in omega (arith, k)

repeated_below : (n : ℕ) (t : Tree) (o : Option ℕ) (b : Bool) (s : Seen) → left_after s.left (below t) ≡ o
    → nat_lt n (height t) ≡ b → IfOk (if_left n t o s) (Below n s.left)
repeated_below n t None b s h k = tt
repeated_below n t (Some left) true s h k = rw k tt
repeated_below n t (Some left) false s h k = rw k (less_back s.left (below t) left h, ltb-false n (height t) k)

used_below : (n : ℕ) (o : Option (Option Tree)) (s : Seen) → IfOk (used n o s) (Below n s.left)
used_below n None s = tt
used_below n (Some None) s = tt
used_below n (Some (Some t)) s = repeated_below n t (left_after s.left (below t)) (nat_lt n (height t)) s refl refl

plain_or_used_below : (n : ℕ) (o : Option Tree) (name : List ℕ) (s : Seen) → IfLeaf o
    → IfOk (plain_or_used n o name s) (Below n s.left)
plain_or_used_below n (Some t) name s h = (omega (arith, h.0), omega (arith, h.1))
plain_or_used_below n None name s h = used_below n (lookup name s.names) s

named_below : (n : ℕ) (space word : List ℕ) (s : Seen) → IfOk (named n space word s) (Below n s.left)
unfolding named
named_below n space word s = plain_or_used_below n (plain word) (full space word) s (plain_leaf word)

-- ---- the kinds of types

in_fields-push : (front : List Part) (f : Part) → in_fields (fields_of (front ++ f ∷ [])) ≡ in_fields (fields_of front)
    + nodes f.1
unfolding in_fields
in_fields-push [] f = omega arith
in_fields-push (g ∷ front) f = let k : in_fields (fields_of (front ++ f ∷ [])) ≡ in_fields (fields_of front) + nodes
    f.1 = in_fields-push front f in omega (arith, k)

in_branches-push : (front : List Tree) (t : Tree)
    → in_branches (branches_of (front ++ t ∷ [])) ≡ in_branches (branches_of front) + nodes t
unfolding in_branches
in_branches-push [] t = omega arith
in_branches-push (u ∷ front) t = let k : in_branches (branches_of (front ++ t ∷ [])) ≡ in_branches (branches_of front) +
    nodes t = in_branches-push front t in omega (arith, k)

deepest_field-push : (n : ℕ) (front : List Part) (f : Part) → deepest_field (fields_of front) ≤ n → depth f.1 ≤ n
    → deepest_field (fields_of (front ++ f ∷ [])) ≤ n
unfolding deepest_field
deepest_field-push n [] f h k = omega (arith, k)
deepest_field-push n (g ∷ front) f h k = let p : deepest_field (fields_of (front ++ f ∷ [])) ≤ n = deepest_field-push n
    front f (omega (arith, h)) k in omega (arith, h, p)

deepest_branch-push : (n : ℕ) (front : List Tree) (t : Tree) → deepest_branch (branches_of front) ≤ n → depth t ≤ n
    → deepest_branch (branches_of (front ++ t ∷ [])) ≤ n
unfolding deepest_branch
deepest_branch-push n [] t h k = omega (arith, k)
deepest_branch-push n (u ∷ front) t h k = let p : deepest_branch (branches_of (front ++ t ∷ [])) ≤ n =
    deepest_branch-push n front t (omega (arith, h)) k in omega (arith, h, p)

field_within : (n : ℕ) (read : Data → Seen → Read Tree) → ReadsWithin n read → (front : List Part) (d : Data) (s : Seen)
    → IfOk (field_at read front d s) (λ x. Within n s.left (x.0.1, x.1))
unfolding field_at
field_within n read h front d s =
    bind_any _ (asked (name_in d)) _ (λ name. bind_any _ (asked (get (codes "type") d)) _
    (λ type. bind_any _ (fresh (id_in (codes "field-id") d) front) _ (λ id.
    bind_if (Within n s.left) _ (read type s) _ (h type s) (λ x p. p))))

abbrev FieldsBelow : ℕ → ℕ → List Part × Seen → Type 0
FieldsBelow n left x = (x.1.left + in_fields (fields_of x.0) ≡ left) × (deepest_field (fields_of x.0) ≤ n)

fields_below : (n left : ℕ) (read : Data → Seen → Read Tree) → ReadsWithin n read
    → (front : List Part) (ds : Items) (s : Seen) → FieldsBelow n left (front, s)
    → IfOk (fields_at read front ds s) (FieldsBelow n left)
unfolding each_at
fields_below n left read h front json.no_items s p = p
fields_below n left read h front (json.item d ds) s p =
    bind_if (λ x. Within n s.left (x.0.1, x.1)) _ (field_at read front d s) _ (field_within n read h front d s) (λ x q.
    let count : in_fields (fields_of (front ++ x.0 ∷ [])) ≡ in_fields (fields_of front) + nodes x.0.1 = in_fields-push
    front x.0 in
    fields_below n left read h (front ++ x.0 ∷ []) ds x.1 (
      omega (arith, p.0, q.0, count),
      deepest_field-push n front
          x.0 p.1 q.1,
    ))

abbrev BranchesBelow : ℕ → ℕ → List Tree × Seen → Type 0
BranchesBelow n left x = (x.1.left + in_branches (branches_of x.0) ≡ left) × (deepest_branch (branches_of x.0) ≤ n)

branches_below : (n left : ℕ) (read : Data → Seen → Read Tree) → ReadsWithin n read
    → (front : List Tree) (ds : Items) (s : Seen) → BranchesBelow n left (front, s)
    → IfOk (branches_at read front ds s) (BranchesBelow n left)
unfolding each_at
branches_below n left read h front json.no_items s p = p
branches_below n left read h front (json.item d ds) s p =
    bind_if (Within n s.left) _ (read d s) _ (h d s) (λ x q.
    let count : in_branches (branches_of (front ++ x.0 ∷ [])) ≡ in_branches (branches_of front) + nodes
    x.0 = in_branches-push front x.0 in
    branches_below n left read h (front ++ x.0 ∷ []) ds x.1 (
      omega (arith, p.0, q.0, count),
      deepest_branch-push n front
          x.0 p.1 q.1,
    ))

record_below : (n : ℕ) (read : Reader) → AlwaysWithin n read → (space : List ℕ) (d : Data) (s : Seen)
    → IfOk (record_at read space d s) (Below n s.left)
unfolding record_at below height in_fields deepest_field
record_below n read h space d s =
    bind_any _ (asked (name_in d)) _ (λ name. bind_any _ (asked (items_in is_object (codes "fields") d)) _ (λ items.
    bind_if (λ q. q.left ≡ s.left) _ (defined (defines space name d) None s) _ (defined_left _ _ _) (λ opened e.
    bind_if (FieldsBelow n s.left) _ (fields_at (read role.Elsewhere (space_of (defines space name d))) [] items opened)
    _
    (fields_below n s.left (read role.Elsewhere (space_of (defines space name d)))
    (h role.Elsewhere (space_of (defines space name d))) [] items opened (omega (arith, e), omega arith))
    (λ x p. p))))

array_below : (n : ℕ) (read : Reader) → AlwaysWithin n read → (space : List ℕ) (d : Data) (s : Seen)
    → IfOk (array_at read space d s) (Below n s.left)
unfolding array_at below height
array_below n read h space d s = bind_any _ (asked (get (codes "items") d)) _ (λ items. bind_if (Within n s.left) _
    (read role.Elsewhere space items s) _ (h role.Elsewhere space items s) (λ x p. p))

map_below : (n : ℕ) (read : Reader) → AlwaysWithin n read → (space : List ℕ) (d : Data) (s : Seen)
    → IfOk (map_at read space d s) (Below n s.left)
unfolding map_at below height
map_below n read h space d s = bind_any _ (asked (get (codes "values") d)) _ (λ values. bind_if (Within n s.left) _
    (read role.Elsewhere space values s) _ (h role.Elsewhere space values s) (λ x p. p))

enum_below : (n : ℕ) (space : List ℕ) (d : Data) (s : Seen) → IfOk (enum_at space d s) (Below n s.left)
unfolding enum_at below height
enum_below n space d s =
    bind_any _ (asked (name_in d)) _ (λ name. bind_any _ (asked (symbols_in d)) _ (λ count.
    bind_if (λ q. q.left ≡ s.left) _ (defined (defines space name d) _ s) _ (defined_left _ _ _)
    (λ now e. (omega (arith, e), omega arith))))

fixed_below : (n : ℕ) (space : List ℕ) (d : Data) (s : Seen) → IfOk (fixed_at space d s) (Below n s.left)
unfolding fixed_at below height
fixed_below n space d s =
    bind_any _ (asked (name_in d)) _ (λ name. bind_any _ (asked (size_in d)) _ (λ size.
    bind_if (λ q. q.left ≡ s.left) _ (defined (defines space name d) _ s) _ (defined_left _ _ _)
    (λ now e. (omega (arith, e), omega arith))))

of_kind_below : (n : ℕ) (read : Reader) → AlwaysWithin n read
    → (space : List ℕ) (k : Kind) (word : List ℕ) (d : Data) (s : Seen)
    → IfOk (of_kind read n space k word d s) (Below n s.left)
unfolding below height
of_kind_below n read h space kind.Array word d s = array_below n read h space d s
of_kind_below n read h space kind.Map word d s = map_below n read h space d s
of_kind_below n read h space kind.Record word d s = record_below n read h space d s
of_kind_below n read h space kind.Enum word d s = enum_below n space d s
of_kind_below n read h space kind.Fixed word d s = fixed_below n space d s
of_kind_below n read h space kind.Bytes word d s = (omega arith, omega arith)
of_kind_below n read h space kind.Word word d s = named_below n space word s

of_word_below : (n : ℕ) (space : List ℕ) (k : Kind) (word : List ℕ) (s : Seen)
    → IfOk (of_word n space k word s) (Below n s.left)
of_word_below n space kind.Array word s = tt
of_word_below n space kind.Map word s = tt
of_word_below n space kind.Record word s = tt
of_word_below n space kind.Enum word s = tt
of_word_below n space kind.Fixed word s = tt
of_word_below n space kind.Bytes word s = named_below n space word s
of_word_below n space kind.Word word s = named_below n space word s

union_below : (n : ℕ) (read : Reader) → AlwaysWithin n read → (at : Role) (space : List ℕ) (ds : Items) (s : Seen)
    → IfOk (union_at read at space ds s) (Below n s.left)
unfolding union_at below height in_branches deepest_branch
union_below n read h role.Branch space ds s = tt
union_below n read h role.Elsewhere space ds s =
    bind_if (BranchesBelow n s.left) _ (branches_at (read role.Branch space) [] ds s) _ (branches_below n s.left
    (read role.Branch space) (h role.Branch space) [] ds s (omega arith, omega arith)) (λ x p. p)

node_below : (n : ℕ) (read : Reader) → AlwaysWithin n read → (at : Role) (space : List ℕ) (d : Data) (s : Seen)
    → IfOk (node_at read n at space d s) (Below n s.left)
unfolding node_at text_at object_at
node_below n read h at space json.null s = tt
node_below n read h at space (json.boolean b) s = tt
node_below n read h at space (json.number m) s = tt
node_below n read h at space (json.string word) s = of_word_below n space (kind_of word) word s
node_below n read h at space (json.array ds) s = union_below n read h at space ds s
node_below n read h at space (json.object ms) s = bind_any _ (asked (text_in (codes "type") (json.object ms))) _
    (λ word. of_kind_below n read h space (kind_of word) word (json.object ms) s)

-- ---- the whole walk

counted_less : (b : Bool) (s : Seen) → nat_lt 0 s.left ≡ b → IfOk (counted s) (λ now. suc now.left ≡ s.left)
counted_less true s h = let k : 0 < s.left = ltb-true 0 s.left h in rw h (omega (arith, k))
counted_less false s h = rw h tt

pub tree_within : (n : ℕ) → AlwaysWithin n (tree_at n)
unfolding tree_at
tree_within zero at space d s = tt
tree_within (suc n) at space d s =
    bind_if (λ now. suc now.left ≡ s.left) _ (counted s) _ (counted_less (nat_lt 0 s.left) s refl) (λ now e.
    IfOk-weaker (node_at (tree_at n) n at space d now) (Below n now.left) (Within (suc n) s.left)
    (λ x p. (omega (arith, e, p.0), omega (arith, p.1))) (node_below n (tree_at n) (tree_within n) at space d now))

pub schema_small : (text : List ℕ) → IfOk (schema_of text) (λ t. (nodes t ≤ most_nodes) × (depth t ≤ most_levels))
unfolding schema_of
schema_small text =
    bind_any _ (json_of text) _ (λ d. bind_if (Within most_levels most_nodes) _ (tree_at most_levels role.Elsewhere [] d
    (record { names = []; left = most_nodes })) _ (tree_within most_levels role.Elsewhere [] d (record {
      names = [];
      left = most_nodes;
    })) (λ x p. (omega (arith, p.0), p.1)))
