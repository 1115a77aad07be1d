-- What reading a type does to the names that were met.
use Rattle.std.proofs.Common.{◌≡◌, ℕ, zero, suc, List, [], ◌∷◌, ◌++◌, Option, Some, None, Ordering, Less, Equal}
use Rattle.std.proofs.Common.{Greater, nat_cmp, refl, sym, ap, ◌∙◌}
use Rattle.std.specs.Prelude.{IfOk, ⊤, codes, Bool, true, false, nat_lt}
use Rattle.std.specs.Ordering.{match_ordering}
use Rattle.std.specs.Cmp.Lexicographic.{slice_cmp}
use Rattle.std.proofs.lemmas.Map.Lookups.{exact_bytes}
use Rattle.std.proofs.lemmas.Result.{IfOk-weaker}
use Rattle.serde_json.specs.Data as json
use Rattle.serde_json.specs.Data.{Data, Items}
use Rattle.serde_json.specs.Find.{get}
use Rattle.avro_schema.specs.declared.reading.Role.{Role}
use Rattle.avro_schema.specs.declared.reading.Role.TheVariants as role
use Rattle.avro_schema.specs.declared.attributes.Kind.{Kind}
use Rattle.avro_schema.specs.declared.attributes.Kind.TheVariants as kind
use Rattle.avro_schema.specs.Tree.{Tree, symbols, fixed}
use Rattle.avro_schema.specs.Size.{left_after, below, height}
use Rattle.avro_schema.specs.View.{Part}
use Rattle.avro_schema.specs.Names.{Entry, lookup, put, full, space_of, name_order}
use Rattle.avro_schema.specs.Attributes.{name_in, id_in, items_in, is_object, symbols_in, size_in, bytes_kind, plain}
use Rattle.avro_schema.specs.Attributes.{text_in, kind_of}
use Rattle.avro_schema.specs.Reading.{Seen, Read, Reader, asked, fresh, if_left, used, plain_or_used, named, if_new}
use Rattle.avro_schema.specs.Reading.{defined, defines, each_at, branches_at, whatever_before, field_at, fields_at}
use Rattle.avro_schema.specs.Reading.{record_at, array_at, map_at, enum_at, fixed_at, of_kind, object_at, of_word}
use Rattle.avro_schema.specs.Reading.{text_at, union_at, node_at, counted, tree_at}
use Rattle.avro_schema.specs.Inside.{Defines, a_record, an_enum, a_fixed, Uses, a_text, a_type}
use Rattle.avro_schema.proofs.Shapes.{object_is, kind_is}
use Rattle.avro_schema.proofs.Parts.{same_order, same_text, exact_names}
use Rattle.avro_schema.proofs.Binds.{bind_if, bind_any}

-- ---- one name among the others

put_here : (q name key : List ℕ) (x : Option Tree) (y : Option Tree) (rest : Option (Option Tree)) (o : Ordering)
    → slice_cmp nat_cmp q name ≡ o → name ≡ key
    → match_ordering (slice_cmp nat_cmp q key) rest (Some x) rest ≡ match_ordering o
    (match_ordering (slice_cmp nat_cmp q key) rest (Some y) rest) (Some x) (match_ordering (slice_cmp nat_cmp q key)
    rest (Some y) rest)
put_here q name key x y rest Less h e = rw (← e, h) refl
put_here q name key x y rest Equal h e = rw (← e, h) refl
put_here q name key x y rest Greater h e = rw (← e, h) refl

put_further : (x : Option Tree) (y : Option Tree) (rest : Option (Option Tree)) (o p : Ordering)
    → (o ≡ Equal → p ≡ Equal → ⊥)
    → match_ordering p (match_ordering o rest (Some x) rest) (Some y) (match_ordering o rest (Some x) rest)
    ≡ match_ordering o (match_ordering p rest (Some y) rest) (Some x) (match_ordering p rest (Some y) rest)
put_further x y rest Equal Equal h = absurd (h refl refl)
put_further x y rest Less Less h = refl
put_further x y rest Less Equal h = refl
put_further x y rest Less Greater h = refl
put_further x y rest Equal Less h = refl
put_further x y rest Equal Greater h = refl
put_further x y rest Greater Less h = refl
put_further x y rest Greater Equal h = refl
put_further x y rest Greater Greater h = refl

apart : (q name key : List ℕ) → name_order name key ≡ Greater → slice_cmp nat_cmp q name ≡ Equal
    → slice_cmp nat_cmp q key ≡ Equal → ⊥
apart q name key g h k =
    let a : q ≡ name = exact_bytes q name h in
    let b : q ≡ key = exact_bytes q key k in
    let c : name_order name key ≡ Equal = ap (λ (z : List ℕ). name_order z key) (sym a ∙ b) ∙ same_order key in
    absurd cc

lookup-put-in : (q name : List ℕ) (x : Option Tree) (e : Entry) (es : List Entry) (o : Ordering)
    → name_order name e.0 ≡ o → lookup q (put name x es) ≡ match_ordering (slice_cmp nat_cmp q name)
    (lookup q es) (Some x) (lookup q es)
    → lookup q (match_ordering o ((name, x) ∷ e ∷ es) ((e.0, x) ∷ es) (e ∷ put name x es)) ≡ match_ordering
    (slice_cmp nat_cmp q name) (lookup q (e ∷ es)) (Some x) (lookup q (e ∷ es))
lookup-put-in q name x e es Less h so_far = refl
lookup-put-in q name x e es Equal h so_far = put_here q name e.0 x e.1 (lookup q es) (slice_cmp nat_cmp q name) refl
    (exact_names name e.0 h)
lookup-put-in q name x e es Greater h so_far = rw so_far (put_further x e.1 (lookup q es) (slice_cmp nat_cmp q name)
    (slice_cmp nat_cmp q e.0) (apart q name e.0 h))

pub lookup-put : (q name : List ℕ) (x : Option Tree) (es : List Entry)
    → lookup q (put name x es) ≡ match_ordering (slice_cmp nat_cmp q name) (lookup q es) (Some x) (lookup q es)
lookup-put q name x [] = refl
lookup-put q name x (e ∷ es) = lookup-put-in q name x e es (name_order name e.0) refl (lookup-put q name x es)

pub lookup-put_same : (name : List ℕ) (x : Option Tree) (es : List Entry) → lookup name (put name x es) ≡ Some x
lookup-put_same name x es = lookup-put name name x es ∙ rw (same_text name) refl

-- ---- names that stay

-- what is known of a name stays, and none is new that is open
abbrev pub Grown : Option (Option Tree) → Option (Option Tree) → Type 0
Grown (Some x) y = y ≡ Some x
Grown None None = ⊤
Grown None (Some None) = ⊥
Grown None (Some (Some t)) = ⊤

abbrev pub Grows : List Entry → List Entry → Type 0
Grows es fs = (name : List ℕ) → Grown (lookup name es) (lookup name fs)

grown_same : (x : Option (Option Tree)) → Grown x x
grown_same None = tt
grown_same (Some x) = refl

grown_more : (x y z : Option (Option Tree)) → Grown x y → Grown y z → Grown x z
grown_more (Some x) y z h k = rw h at k
grown_more None None z h k = k
grown_more None (Some None) z h k = absurd h
grown_more None (Some (Some t)) z h k = rw k tt

pub grows_same : (es : List Entry) → Grows es es
grows_same es name = grown_same (lookup name es)

pub grows_more : (es fs gs : List Entry) → Grows es fs → Grows fs gs → Grows es gs
grows_more es fs gs h k name = grown_more _ _ _ (h name) (k name)

puts_at : (o : Ordering) (a : Option (Option Tree)) (t : Tree) → (o ≡ Equal → a ≡ None)
    → Grown a (match_ordering o a (Some (Some t)) a)
puts_at Less a t new = grown_same a
puts_at Equal a t new = rw (new refl) tt
puts_at Greater a t new = grown_same a

closes_at : (o : Ordering) (a b : Option (Option Tree)) (t : Tree) → (o ≡ Equal → a ≡ None)
    → Grown (match_ordering o a (Some None) a) b → Grown a (match_ordering o b (Some (Some t)) b)
closes_at Less a b t new h = h
closes_at Equal a b t new h = rw (new refl) tt
closes_at Greater a b t new h = h

new_as : (q name : List ℕ) (es : List Entry) → lookup name es ≡ None → slice_cmp nat_cmp q name ≡ Equal
    → lookup q es ≡ None
new_as q name es new same = ap (λ (z : List ℕ). lookup z es) (exact_bytes q name same) ∙ new

puts : (name : List ℕ) (t : Tree) (es : List Entry) → lookup name es ≡ None → Grows es (put name (Some t) es)
puts name t es new q = rw (lookup-put q name (Some t) es) (puts_at (slice_cmp nat_cmp q name) (lookup q es) t
    (new_as q name es new))

closes : (name : List ℕ) (t : Tree) (es fs : List Entry) → lookup name es ≡ None → Grows (put name None es) fs
    → Grows es (put name (Some t) fs)
closes name t es fs new inside q =
    let h : Grown (match_ordering (slice_cmp nat_cmp q name) (lookup q es) (Some None) (lookup q es)) (lookup q fs) =
    rw (lookup-put q name None es) at (inside q) in
    rw (lookup-put q name (Some t) fs) (closes_at (slice_cmp nat_cmp q name) (lookup q es) (lookup q fs) t
    (new_as q name es new) h)

-- ---- definitions

abbrev pub New : List ℕ → Option Tree → Seen → Seen → Type 0
New name x s q = (lookup name s.names ≡ None) × (q.names ≡ put name x s.names)

if_new_is : (name : List ℕ) (x : Option Tree) (s : Seen) (o : Option (Option Tree)) → lookup name s.names ≡ o
    → IfOk (if_new o (record s { names = put name x s.names })) (New name x s)
if_new_is name x s None h = (h, refl)
if_new_is name x s (Some e) h = tt

pub defined_new : (name : List ℕ) (x : Option Tree) (s : Seen) → IfOk (defined name x s) (New name x s)
unfolding defined
defined_new name x s = if_new_is name x s (lookup name s.names) refl

-- ---- the kinds of types

abbrev pub Keeps : (Data → Seen → Read Tree) → Type 0
Keeps read = (d : Data) (s : Seen) → IfOk (read d s) (λ x. Grows s.names x.1.names)

abbrev pub AlwaysKeeps : Reader → Type 0
AlwaysKeeps read = (at : Role) (space : List ℕ) → Keeps (read at space)

if_left_keeps : (n : ℕ) (t : Tree) (o : Option ℕ) (b : Bool) (s : Seen) → nat_lt n (height t) ≡ b
    → IfOk (if_left n t o s) (λ x. Grows s.names x.1.names)
if_left_keeps n t None b s h = tt
if_left_keeps n t (Some left) true s h = rw h tt
if_left_keeps n t (Some left) false s h = rw h (grows_same s.names)

used_keeps : (n : ℕ) (o : Option (Option Tree)) (s : Seen) → IfOk (used n o s) (λ x. Grows s.names x.1.names)
used_keeps n None s = tt
used_keeps n (Some None) s = tt
used_keeps n (Some (Some t)) s = if_left_keeps n t (left_after s.left (below t)) (nat_lt n (height t)) s refl

plain_or_used_keeps : (n : ℕ) (o : Option Tree) (name : List ℕ) (s : Seen)
    → IfOk (plain_or_used n o name s) (λ x. Grows s.names x.1.names)
plain_or_used_keeps n (Some t) name s = grows_same s.names
plain_or_used_keeps n None name s = used_keeps n (lookup name s.names) s

named_keeps : (n : ℕ) (space word : List ℕ) (s : Seen) → IfOk (named n space word s) (λ x. Grows s.names x.1.names)
unfolding named
named_keeps n space word s = plain_or_used_keeps n (plain word) (full space word) s

pub field_keeps : (read : Data → Seen → Read Tree) → Keeps read → (front : List Part) (d : Data) (s : Seen)
    → IfOk (field_at read front d s) (λ x. Grows s.names x.1.names)
unfolding field_at
field_keeps read h front d s =
    bind_any _ (asked (name_in d)) _ (λ name. bind_any _ (asked (get (codes "type") d)) _
    (λ type. bind_any _ (fresh (id_in (codes "field-id") d) front) _ (λ id.
    bind_if (λ x. Grows s.names x.1.names) _ (read type s) _ (h type s) (λ x p. p))))

each_keeps : {A : Type 0} (read : List A → Data → Seen → Read A)
    → ((front : List A) (d : Data) (s : Seen) → IfOk (read front d s) (λ x. Grows s.names x.1.names))
    → (front : List A) (ds : Items) (s : Seen) → IfOk (each_at read front ds s) (λ x. Grows s.names x.1.names)
unfolding each_at
each_keeps read h front json.no_items s = grows_same s.names
each_keeps read h front (json.item d ds) s =
    bind_if (λ x. Grows s.names x.1.names) _ (read front d s) _ (h front d s) (λ x p.
    IfOk-weaker (each_at read (front ++ x.0 ∷ []) ds x.1) (λ y. Grows x.1.names y.1.names)
    (λ y. Grows s.names y.1.names) (λ y q. grows_more s.names x.1.names y.1.names p q)
    (each_keeps read h (front ++ x.0 ∷ []) ds x.1))

-- what a definition leaves: its own name stands for its tree
abbrev LeavesDefined : List ℕ → Seen → Tree × Seen → Type 0
LeavesDefined name s x = Grows s.names x.1.names × (lookup name x.1.names ≡ Some (Some x.0))

record_defines : (read : Reader) → AlwaysKeeps read → (space name : List ℕ) (d : Data) (s : Seen)
    → name_in d ≡ Some name → IfOk (record_at read space d s) (LeavesDefined (defines space name d) s)
unfolding record_at
record_defines read h space name d s is =
    rw is (bind_any _ (asked (items_in is_object (codes "fields") d)) _ (λ items.
    bind_if (New (defines space name d) None s) _ (defined (defines space name d) None s) _
    (defined_new (defines space name d) None s) (λ opened new.
    bind_if (λ x. Grows opened.names x.1.names) _ (fields_at (read role.Elsewhere (space_of (defines space name d))) []
    items opened) _
    (each_keeps (field_at (read role.Elsewhere (space_of (defines space name d))))
    (field_keeps (read role.Elsewhere (space_of (defines space name d)))
    (h role.Elsewhere (space_of (defines space name d)))) [] items opened)
    (λ x p. (
      closes (defines space name d) _ s.names x.1.names new.0 (rw new.1 at p),
      lookup-put_same
          (defines space name d) _ x.1.names,
    )))))

enum_defines : (space name : List ℕ) (d : Data) (s : Seen) → name_in d ≡ Some name
    → IfOk (enum_at space d s) (LeavesDefined (defines space name d) s)
unfolding enum_at
enum_defines space name d s is =
    rw is (bind_any _ (asked (symbols_in d)) _ (λ count.
    bind_if (New (defines space name d) (Some (symbols count)) s) _ (defined (defines space name d)
    (Some (symbols count)) s) _ (defined_new (defines space name d) (Some (symbols count)) s) (λ now new. (
      rw new.1 (puts (defines space name d) (symbols count) s.names new.0),
      rw new.1
          (lookup-put_same (defines space name d) (Some (symbols count)) s.names),
    ))))

fixed_defines : (space name : List ℕ) (d : Data) (s : Seen) → name_in d ≡ Some name
    → IfOk (fixed_at space d s) (LeavesDefined (defines space name d) s)
unfolding fixed_at
fixed_defines space name d s is =
    rw is (bind_any _ (asked (size_in d)) _ (λ size.
    bind_if (New (defines space name d) (Some (fixed size (bytes_kind d))) s) _ (defined (defines space name d)
    (Some (fixed size (bytes_kind d))) s) _ (defined_new (defines space name d) (Some (fixed size (bytes_kind d)))
    s) (λ now new. (
      rw new.1 (puts (defines space name d) (fixed size (bytes_kind d)) s.names new.0),
      rw new.1
          (lookup-put_same (defines space name d) (Some (fixed size (bytes_kind d))) s.names),
    ))))

record_keeps : (read : Reader) → AlwaysKeeps read → (space : List ℕ) (d : Data) (s : Seen) (o : Option (List ℕ))
    → name_in d ≡ o → IfOk (record_at read space d s) (λ x. Grows s.names x.1.names)
unfolding record_at
record_keeps read h space d s None is = rw is tt
record_keeps read h space d s (Some name) is = IfOk-weaker (record_at read space d s)
    (LeavesDefined (defines space name d) s) (λ x. Grows s.names x.1.names) (λ x p. p.0) (record_defines read h space
    name d s is)

enum_keeps : (space : List ℕ) (d : Data) (s : Seen) (o : Option (List ℕ)) → name_in d ≡ o
    → IfOk (enum_at space d s) (λ x. Grows s.names x.1.names)
unfolding enum_at
enum_keeps space d s None is = rw is tt
enum_keeps space d s (Some name) is = IfOk-weaker (enum_at space d s) (LeavesDefined (defines space name d) s)
    (λ x. Grows s.names x.1.names) (λ x p. p.0) (enum_defines space name d s is)

fixed_keeps : (space : List ℕ) (d : Data) (s : Seen) (o : Option (List ℕ)) → name_in d ≡ o
    → IfOk (fixed_at space d s) (λ x. Grows s.names x.1.names)
unfolding fixed_at
fixed_keeps space d s None is = rw is tt
fixed_keeps space d s (Some name) is = IfOk-weaker (fixed_at space d s) (LeavesDefined (defines space name d) s)
    (λ x. Grows s.names x.1.names) (λ x p. p.0) (fixed_defines space name d s is)

array_keeps : (read : Reader) → AlwaysKeeps read → (space : List ℕ) (d : Data) (s : Seen)
    → IfOk (array_at read space d s) (λ x. Grows s.names x.1.names)
unfolding array_at
array_keeps read h space d s = bind_any _ (asked (get (codes "items") d)) _
    (λ items. bind_if (λ x. Grows s.names x.1.names) _ (read role.Elsewhere space items s) _
    (h role.Elsewhere space items s) (λ x p. p))

map_keeps : (read : Reader) → AlwaysKeeps read → (space : List ℕ) (d : Data) (s : Seen)
    → IfOk (map_at read space d s) (λ x. Grows s.names x.1.names)
unfolding map_at
map_keeps read h space d s = bind_any _ (asked (get (codes "values") d)) _
    (λ values. bind_if (λ x. Grows s.names x.1.names) _ (read role.Elsewhere space values s) _
    (h role.Elsewhere space values s) (λ x p. p))

of_kind_keeps : (n : ℕ) (read : Reader) → AlwaysKeeps read
    → (space : List ℕ) (k : Kind) (word : List ℕ) (d : Data) (s : Seen)
    → IfOk (of_kind read n space k word d s) (λ x. Grows s.names x.1.names)
of_kind_keeps n read h space kind.Array word d s = array_keeps read h space d s
of_kind_keeps n read h space kind.Map word d s = map_keeps read h space d s
of_kind_keeps n read h space kind.Record word d s = record_keeps read h space d s (name_in d) refl
of_kind_keeps n read h space kind.Enum word d s = enum_keeps space d s (name_in d) refl
of_kind_keeps n read h space kind.Fixed word d s = fixed_keeps space d s (name_in d) refl
of_kind_keeps n read h space kind.Bytes word d s = grows_same s.names
of_kind_keeps n read h space kind.Word word d s = named_keeps n space word s

of_word_keeps : (n : ℕ) (space : List ℕ) (k : Kind) (word : List ℕ) (s : Seen)
    → IfOk (of_word n space k word s) (λ x. Grows s.names x.1.names)
of_word_keeps n space kind.Array word s = tt
of_word_keeps n space kind.Map word s = tt
of_word_keeps n space kind.Record word s = tt
of_word_keeps n space kind.Enum word s = tt
of_word_keeps n space kind.Fixed word s = tt
of_word_keeps n space kind.Bytes word s = named_keeps n space word s
of_word_keeps n space kind.Word word s = named_keeps n space word s

union_keeps : (read : Reader) → AlwaysKeeps read → (at : Role) (space : List ℕ) (ds : Items) (s : Seen)
    → IfOk (union_at read at space ds s) (λ x. Grows s.names x.1.names)
unfolding union_at
union_keeps read h role.Branch space ds s = tt
union_keeps read h role.Elsewhere space ds s =
    bind_if (λ x. Grows s.names x.1.names) _ (branches_at (read role.Branch space) [] ds s) _
    (each_keeps (whatever_before (read role.Branch space)) (λ front d t. h role.Branch space d t) [] ds s)
    (λ x p. p)

node_keeps : (n : ℕ) (read : Reader) → AlwaysKeeps read → (at : Role) (space : List ℕ) (d : Data) (s : Seen)
    → IfOk (node_at read n at space d s) (λ x. Grows s.names x.1.names)
unfolding node_at text_at object_at
node_keeps n read h at space json.null s = tt
node_keeps n read h at space (json.boolean b) s = tt
node_keeps n read h at space (json.number m) s = tt
node_keeps n read h at space (json.string word) s = of_word_keeps n space (kind_of word) word s
node_keeps n read h at space (json.array ds) s = union_keeps read h at space ds s
node_keeps n read h at space (json.object ms) s = bind_any _ (asked (text_in (codes "type") (json.object ms))) _
    (λ word. of_kind_keeps n read h space (kind_of word) word (json.object ms) s)

-- ---- the whole walk

pub counted_same : (b : Bool) (s : Seen) → nat_lt 0 s.left ≡ b → IfOk (counted s) (λ now. now.names ≡ s.names)
counted_same true s h = rw h refl
counted_same false s h = rw h tt

pub tree_keeps : (n : ℕ) → AlwaysKeeps (tree_at n)
unfolding tree_at
tree_keeps zero at space d s = tt
tree_keeps (suc n) at space d s =
    bind_if (λ now. now.names ≡ s.names) _ (counted s) _ (counted_same (nat_lt 0 s.left) s refl) (λ now e.
    rw (← e) (node_keeps n (tree_at n) (tree_keeps n) at space d now))

node_defines : (n : ℕ) (read : Reader) → AlwaysKeeps read
    → (at : Role) (space : List ℕ) (d : Data) (s : Seen) (name : List ℕ) → Defines space d name
    → IfOk (node_at read n at space d s) (LeavesDefined name s)
node_defines n read h at space d s name (a_record {name = short} is has_name) = let k = kind_is read n at space d s
    kind.Record is in rw k.1 (record_defines read h space short d s has_name)
node_defines n read h at space d s name (an_enum {name = short} is has_name) = let k = kind_is read n at space d s
    kind.Enum is in rw k.1 (enum_defines space short d s has_name)
node_defines n read h at space d s name (a_fixed {name = short} is has_name) = let k = kind_is read n at space d s
    kind.Fixed is in rw k.1 (fixed_defines space short d s has_name)

pub tree_defines : (n : ℕ) (at : Role) (space : List ℕ) (d : Data) (s : Seen) (name : List ℕ) → Defines space d name
    → IfOk (tree_at n at space d s) (λ x. lookup name x.1.names ≡ Some (Some x.0))
unfolding tree_at
tree_defines zero at space d s name makes = tt
tree_defines (suc n) at space d s name makes =
    bind_any _ (counted s) _ (λ now. IfOk-weaker (node_at (tree_at n) n at space d now) (LeavesDefined name now)
    (λ x. lookup name x.1.names ≡ Some (Some x.0)) (λ x p. p.1) (node_defines n (tree_at n) (tree_keeps n) at space
    d now name makes))

-- ---- used names

used_is : (n : ℕ) (t : Tree) (o : Option ℕ) (b : Bool) (s : Seen) → nat_lt n (height t) ≡ b
    → IfOk (if_left n t o s) (λ x. x.0 ≡ t)
used_is n t None b s h = tt
used_is n t (Some left) true s h = rw h tt
used_is n t (Some left) false s h = rw h refl

used_stands : (n : ℕ) (o : Option (Option Tree)) (s : Seen) → IfOk (used n o s) (λ x. o ≡ Some (Some x.0))
used_stands n None s = tt
used_stands n (Some None) s = tt
used_stands n (Some (Some t)) s = IfOk-weaker (if_left n t (left_after s.left (below t)) s) (λ x. x.0 ≡ t)
    (λ x. Some (Some t) ≡ Some (Some x.0)) (λ x e. rw e refl) (used_is n t (left_after s.left (below t))
    (nat_lt n (height t)) s refl)

named_stands : (n : ℕ) (space word : List ℕ) (s : Seen) → plain word ≡ None
    → IfOk (named n space word s) (λ x. lookup (full space word) s.names ≡ Some (Some x.0))
unfolding named
named_stands n space word s h = rw h (used_stands n (lookup (full space word) s.names) s)

node_uses : (n : ℕ) (read : Reader) (at : Role) (space : List ℕ) (d : Data) (s : Seen) (name : List ℕ)
    → Uses space d name → IfOk (node_at read n at space d s) (λ x. lookup name s.names ≡ Some (Some x.0))
unfolding node_at text_at
node_uses n read at space d s name (a_text {word} is none) = rw is (named_stands n space word s none)
node_uses n read at space d s name (a_type {word} type is none) = rw (object_is read n at space d s word type, is)
    (named_stands n space word s none)

pub tree_uses : (n : ℕ) (at : Role) (space : List ℕ) (d : Data) (s : Seen) (name : List ℕ) → Uses space d name
    → IfOk (tree_at n at space d s) (λ x. lookup name s.names ≡ Some (Some x.0))
unfolding tree_at
tree_uses zero at space d s name used = tt
tree_uses (suc n) at space d s name used =
    bind_if (λ now. now.names ≡ s.names) _ (counted s) _ (counted_same (nat_lt 0 s.left) s refl)
    (λ now e. rw (← e) (node_uses n (tree_at n) at space d now name used))
