-- A schema that is written is read as its tree.
use Rattle.std.proofs.Common.{◌≡◌, ℕ, zero, suc, ◌+◌, ◌-◌, ◌≤◌, ◌<◌, ◌^◌, Bool, true, false, not, ◌&&◌, ◌||◌, List}
use Rattle.std.proofs.Common.{[], ◌∷◌, ◌++◌, length, Option, Some, None, Ok, Ordering, Less, Equal}
use Rattle.std.proofs.Common.{Greater, refl, ap, subst, ◌∙◌, arith, append_assoc}
use Rattle.std.proofs.lemmas.Bool.{lt-ltb, ltb-true}
use Rattle.std.proofs.lemmas.List.{append-nil}
use Rattle.std.specs.Prelude.{codes, ℤ, pos, negsuc, nat_lt, option_and_then, if◌then◌else◌}
use Rattle.std.specs.Cmp.Lexicographic.{slice_cmp}
use Rattle.std.specs.Ordering.{int_eq, nat_cmp, match_ordering}
use Rattle.std.specs.List.{list_any, AllByRecursion}
use Rattle.std.specs.Str.{bytes_eq, is_utf8}
use Rattle.std.proofs.lemmas.Slice.Eq.{bytes_eq-Decides}
use Rattle.serde_json.specs.Data as json
use Rattle.serde_json.specs.Data.{Data, Items}
use Rattle.serde_json.specs.Find.{get, as_i64, of_integer}
use Rattle.serde_json.specs.Read.{read}
use Rattle.avro_schema.specs.declared.schema.ArrayKind.TheVariants as stands_for
use Rattle.avro_schema.specs.declared.reading.Role.{Role}
use Rattle.avro_schema.specs.declared.reading.Role.TheVariants as role
use Rattle.avro_schema.specs.Tree as tree_of
use Rattle.avro_schema.specs.Tree.{Tree, Fields, field, union, branch, no_branches}
use Rattle.avro_schema.specs.Size.{below, in_fields, in_branches, height, deepest_field, deepest_branch, nodes}
use Rattle.avro_schema.specs.View.{Part, fields_of}
use Rattle.avro_schema.specs.Names.{Entry, lookup, put, dotted, space_of, full}
use Rattle.avro_schema.specs.Attributes.{name_in, not_empty, id_in, id_of, is_object, all_items}
use Rattle.avro_schema.specs.Reading.{Seen, Read, has_id, named, defined, each_at, fields_at}
use Rattle.avro_schema.specs.Reading.{field_at, record_at, array_at, fixed_at, object_at, text_at}
use Rattle.avro_schema.specs.Reading.{union_at, node_at, tree_at}
use Rattle.avro_schema.specs.Texts.{json_of as json_in, schema_of, most_nodes}
use Rattle.std.proofs.lemmas.Map.Lookups.{exact_bytes}
use Rattle.avro_schema.proofs.Kept.{lookup-put}
use Rattle.ice_manifest.specs.Adding.{IsId}
use Rattle.ice_manifest.specs.WrittenTypes as written
use Rattle.ice_manifest.specs.WrittenTypes.{Written, WrittenFields, no_more, required, optional, json_of, fields_json}
use Rattle.ice_manifest.specs.WrittenTypes.{fixed_json, uuid_json, list_json, map_json, structure_json, required_json}
use Rattle.ice_manifest.specs.WrittenTypes.{optional_json, or_null, null_or, written_tree, written_fields}

-- ---- names

-- the names that a type defines, in their order
abbrev mutual
  pub names_in : Written → List (List ℕ)
  names_in (written.fixed name size) = name ∷ []
  names_in (written.uuid name) = name ∷ []
  names_in (written.list id w) = names_in w
  names_in (written.map w) = names_in w
  names_in (written.structure name fs) = name ∷ field_names fs
  names_in w = []

  pub field_names : WrittenFields → List (List ℕ)
  field_names no_more = []
  field_names (required name id w fs) = names_in w ++ field_names fs
  field_names (optional name id w fs) = names_in w ++ field_names fs

abbrev pub is_among : List ℕ → List (List ℕ) → Bool
is_among n known = list_any (bytes_eq n) known

-- none of the names is known, nor stands before
abbrev pub different : List (List ℕ) → List (List ℕ) → Bool
different known [] = true
different known (n ∷ ns) = not (is_among n known) && different (known ++ n ∷ []) ns

-- no other name was met
Knows : List (List ℕ) → List Entry → Type 0
Knows known es = (n : List ℕ) → is_among n known ≡ false → lookup n es ≡ None

both : (a b : Bool) → (a && b) ≡ true → (a ≡ true) × (b ≡ true)
both true true h = (refl, refl)
both true false h = absurd cc
both false b h = absurd cc

neither : (a b : Bool) → (a || b) ≡ false → (a ≡ false) × (b ≡ false)
neither false false h = (refl, refl)
neither false true h = absurd cc
neither true b h = absurd cc

not_true : (b : Bool) → not b ≡ true → b ≡ false
not_true false h = refl
not_true true h = absurd cc

different-append : (known xs ys : List (List ℕ)) → different known (xs ++ ys) ≡ true
    → (different known xs ≡ true) × (different (known ++ xs) ys ≡ true)
different-append known [] ys h = (refl, rw (append-nil known) h)
different-append known (x ∷ xs) ys h =
    let first = both (not (is_among x known)) (different (known ++ x ∷ []) (xs ++ ys)) h in
    let rest = different-append (known ++ x ∷ []) xs ys first.1 in
    (rw first.0 rest.0, rw (append_assoc known (x ∷ []) xs) at rest.1)

among-append : (n : List ℕ) (xs ys : List (List ℕ)) → is_among n (xs ++ ys) ≡ false
    → (is_among n xs ≡ false) × (is_among n ys ≡ false)
among-append n [] ys h = (refl, h)
among-append n (x ∷ xs) ys h =
    let first = neither (bytes_eq n x) (is_among n (xs ++ ys)) h in
    let rest = among-append n xs ys first.1 in
    (rw (first.0, rest.0) refl, rest.1)

other_name : (n name : List ℕ) → bytes_eq n name ≡ false → slice_cmp nat_cmp n name ≡ Equal → ⊥
other_name n name h e =
    let same : bytes_eq n name ≡ true = (bytes_eq-Decides n name).1 (exact_bytes n name e) in
    absurd cc

none_either : (o : Ordering) (x : Option (Option Tree)) → (o ≡ Equal → ⊥) → match_ordering o None x None ≡ None
none_either Less x h = refl
none_either Equal x h = absurd (h refl)
none_either Greater x h = refl

put_known : (known : List (List ℕ)) (name : List ℕ) (x : Option Tree) (es : List Entry) → Knows known es
    → Knows (known ++ name ∷ []) (put name x es)
unfolding Knows
put_known known name x es h = λ n other.
    let apart = among-append n known (name ∷ []) other in
    let here = neither _ _ apart.1 in
    lookup-put n name x es ∙ rw (h n apart.0) (none_either (slice_cmp nat_cmp n name) (Some x)
    (other_name n name here.0))

put_again : (known : List (List ℕ)) (name : List ℕ) (x : Option Tree) (es : List Entry) → is_among name known ≡ true
    → Knows known es → Knows known (put name x es)
unfolding Knows
put_again known name x es there h = λ n other.
    lookup-put n name x es ∙ rw (h n other) (none_either (slice_cmp nat_cmp n name) (Some x) (λ e.
    let same : n ≡ name = exact_bytes n name e in
    let one : is_among name known ≡ false = subst (λ (k : List ℕ). is_among k known ≡ false) same other in
    absurd cc))

among_itself : (name : List ℕ) (known ns : List (List ℕ)) → is_among name ((known ++ name ∷ []) ++ ns) ≡ true
among_itself name [] ns = let same : bytes_eq name name ≡ true = (bytes_eq-Decides name name).1 refl in rw same refl
among_itself name (k ∷ known) ns = rw (among_itself name known ns) (or_true (bytes_eq name k)) where
  or_true : (b : Bool) → (b || true) ≡ true
  or_true true = refl
  or_true false = refl

-- ---- one level

-- what is read as a tree, whatever was met before: it takes its nodes, and meets no name but these
abbrev Reads : (Data → Seen → Read Tree) → Data → Tree → List (List ℕ) → Type 0
Reads read d t ns = (s : Seen) (known : List (List ℕ)) → nodes t ≤ s.left → Knows known s.names
    → different known ns ≡ true
    → (q : Seen) × (read d s ≡ Ok (t, q)) × (q.left + nodes t ≡ s.left) × Knows (known ++ ns) q.names

leaf : (most : ℕ) (at : Role) (d : Data) (t : Tree) → ((s : Seen) → node_at (tree_at most) most at [] d s ≡ Ok (t, s))
    → below t ≡ 0 → Reads (tree_at (suc most) at []) d t []
unfolding tree_at
leaf most at d t h none s known many knows new =
    let some : nat_lt 0 s.left ≡ true = lt-ltb 0 s.left (omega arith) in (
      record s { left = s.left - 1 },
      rw some (h (record s { left = s.left - 1 })),
      omega (arith, none),
      rw
          (append-nil known) knows,
    )

read_null : (most : ℕ) (at : Role) → Reads (tree_at (suc most) at []) (json.string (codes "null")) tree_of.null []
unfolding node_at text_at named below
read_null most at = leaf most at (json.string (codes "null")) tree_of.null (λ s. refl) refl

read_word : (most : ℕ) (at : Role) (w : written.Word)
    → Reads (tree_at (suc most) at []) (json.string (written.word_text w)) (written.word_tree w) []
unfolding node_at text_at named below
read_word most at written.boolean = leaf most at (json.string (codes "boolean")) tree_of.boolean (λ s. refl) refl
read_word most at written.int = leaf most at (json.string (codes "int")) tree_of.int (λ s. refl) refl
read_word most at written.long = leaf most at (json.string (codes "long")) tree_of.long (λ s. refl) refl
read_word most at written.string = leaf most at (json.string (codes "string")) tree_of.string (λ s. refl) refl
read_word most at written.bytes = leaf most at (json.string (codes "bytes")) (written.word_tree written.bytes)
    (λ s. refl) refl

read_int : (most : ℕ) (at : Role) (logical : List ℕ)
    → Reads (tree_at (suc most) at []) (written.logical_json (codes "int") logical) tree_of.int []
unfolding node_at object_at named below
read_int most at logical = leaf most at (written.logical_json (codes "int") logical) tree_of.int (λ s. refl) refl

read_long : (most : ℕ) (at : Role) (logical : List ℕ)
    → Reads (tree_at (suc most) at []) (written.logical_json (codes "long") logical) tree_of.long []
unfolding node_at object_at named below
read_long most at logical = leaf most at (written.logical_json (codes "long") logical) tree_of.long (λ s. refl) refl

read_timestamp : (most : ℕ) (at : Role) (adjusted : Bool)
    → Reads (tree_at (suc most) at []) (written.timestamp_json adjusted) tree_of.long []
unfolding node_at object_at named below
read_timestamp most at adjusted = leaf most at (written.timestamp_json adjusted) tree_of.long (λ s. refl) refl

filled : (name : List ℕ) → 0 < length name → not_empty name ≡ Some name
filled [] h = absurd (omega arith)
filled (x ∷ name) h = refl

full_none : (name : List ℕ) → full [] name ≡ name
unfolding full
full_none name = either (dotted name) where
  either : (b : Bool) → (if b then name else name) ≡ name
  either true = refl
  either false = refl

defined_new : (name : List ℕ) (x : Option Tree) (s : Seen) (known : List (List ℕ)) → Knows known s.names
    → is_among name known ≡ false → defined name x s ≡ Ok (record s { names = put name x s.names })
unfolding defined Knows
defined_new name x s known knows new = rw (knows name new) refl

known_id : (id : ℤ) → IsId id → option_and_then id_of (as_i64 (of_integer id)) ≡ Some id
known_id (pos n) h =
    let wide : nat_lt n (2 ^ 63) ≡ true = lt-ltb n (2 ^ 63) (omega arith) in
    let narrow : nat_lt n (2 ^ 31) ≡ true = lt-ltb n (2 ^ 31) h in
    rw (wide, narrow) refl
known_id (negsuc n) h = let narrow : nat_lt n (2 ^ 31) ≡ true = lt-ltb n (2 ^ 31) h in rw narrow refl

read_fixed : (most : ℕ) (at : Role) (name : List ℕ) (size : ℕ) → 0 < length name → size < 2 ^ 31
    → Reads (tree_at (suc most) at []) (fixed_json name size) (written_tree (written.fixed name size)) (name ∷ [])
unfolding tree_at node_at object_at fixed_at below
read_fixed most at name size some_name fits s known many knows new =
    let some : nat_lt 0 s.left ≡ true = lt-ltb 0 s.left (omega arith) in
    let wide : nat_lt size (2 ^ 63) ≡ true = lt-ltb size (2 ^ 63) (omega arith) in
    let narrow : nat_lt size (2 ^ 31) ≡ true = lt-ltb size (2 ^ 31) fits in
    let now : Seen = record s { left = s.left - 1 } in
    let t = written_tree (written.fixed name size) in
    let unknown = not_true (is_among name known) (both _ _ new).0 in (
      record now { names = put name (Some t) now.names },
      rw (
        some,
        filled name some_name,
        wide,
        narrow,
        full_none name,
        defined_new name (Some t) now known knows unknown,
      ) refl,
      omega arith,
      put_known known name (Some t) now.names
          knows,
    )

read_uuid : (most : ℕ) (at : Role) (name : List ℕ) → 0 < length name
    → Reads (tree_at (suc most) at []) (uuid_json name) (written_tree (written.uuid name)) (name ∷ [])
unfolding tree_at node_at object_at fixed_at below
read_uuid most at name some_name s known many knows new =
    let some : nat_lt 0 s.left ≡ true = lt-ltb 0 s.left (omega arith) in
    let now : Seen = record s { left = s.left - 1 } in
    let t = written_tree (written.uuid name) in
    let unknown = not_true (is_among name known) (both _ _ new).0 in (
      record now { names = put name (Some t) now.names },
      rw (
        some,
        filled name some_name,
        full_none name,
        defined_new
            name (Some t) now known knows unknown,
      ) refl,
      omega arith,
      put_known known name (Some t) now.names knows,
    )

read_list : (most : ℕ) (at : Role) (id : ℤ) (d : Data) (t : Tree) (ns : List (List ℕ)) → IsId id
    → Reads (tree_at most role.Elsewhere []) d t ns
    → Reads (tree_at (suc most) at []) (list_json id d) (tree_of.array t (Some id) stands_for.List) ns
unfolding tree_at node_at object_at array_at below
read_list most at id d t ns is h s known many knows new =
    let some : nat_lt 0 s.left ≡ true = lt-ltb 0 s.left (omega arith) in
    let now : Seen = record s { left = s.left - 1 } in
    let inner = h now known (omega arith) knows new in
    (inner.0, rw (some, inner.1, known_id id is) refl, omega (arith, inner.2), inner.3)

read_map : (most : ℕ) (at : Role) (d : Data) (t : Tree) (ns : List (List ℕ))
    → Reads (tree_at most role.Elsewhere []) d t ns
    → Reads (tree_at (suc most) at []) (map_json d) (tree_of.array t None stands_for.Map) ns
unfolding tree_at node_at object_at array_at below
read_map most at d t ns h s known many knows new =
    let some : nat_lt 0 s.left ≡ true = lt-ltb 0 s.left (omega arith) in
    let now : Seen = record s { left = s.left - 1 } in
    let inner = h now known (omega arith) knows new in
    (inner.0, rw (some, inner.1) refl, omega (arith, inner.2), inner.3)

read_nullable : (most : ℕ) (d : Data) (t : Tree) (ns : List (List ℕ)) → Reads (tree_at (suc most) role.Branch []) d t ns
    → Reads (tree_at (suc (suc most)) role.Elsewhere []) (or_null d) (null_or t) ns
unfolding tree_at node_at text_at named union_at each_at below in_branches
read_nullable most d t ns h s known many knows new =
    let some : nat_lt 0 s.left ≡ true = lt-ltb 0 s.left (omega arith) in
    let more : nat_lt 0 (s.left - 1) ≡ true = lt-ltb 0 (s.left - 1) (omega arith) in
    let now : Seen = record s { left = s.left - 1 - 1 } in
    let inner = h now known (omega arith) knows new in
    (inner.0, rw (some, more, inner.1) refl, omega (arith, inner.2), inner.3)

-- ---- fields

-- what the fields of a record are read as
abbrev ReadsFields : (Data → Seen → Read Tree) → List Part → Items → List Part → List (List ℕ) → Type 0
ReadsFields read front ds parts ns = (s : Seen) (known : List (List ℕ)) → in_fields (fields_of parts) ≤ s.left
    → Knows known s.names → different known ns ≡ true
    → (q : Seen) × (fields_at read front ds s ≡ Ok (front ++ parts, q)) × (q.left + in_fields (fields_of parts)
    ≡ s.left) × Knows (known ++ ns) q.names

no_field : (read : Data → Seen → Read Tree) (front : List Part) → ReadsFields read front json.no_items [] []
unfolding each_at in_fields
no_field read front s known many knows new = (s, rw (append-nil front) refl, omega arith, rw (append-nil known) knows)

one_field : (read : Data → Seen → Read Tree) (front parts : List Part) (d type : Data) (ds : Items) (name : List ℕ)
    (id : ℤ) (t : Tree) (ns ms : List (List ℕ)) → name_in d ≡ Some name → get (codes "type") d ≡ Some type
    → id_in (codes "field-id") d ≡ Some id → list_any (has_id id) front ≡ false → Reads read type t ns
    → ReadsFields read (front ++ (Some id, t) ∷ []) ds parts ms
    → ReadsFields read front (json.item d ds) ((Some id, t) ∷ parts) (ns ++ ms)
unfolding each_at field_at in_fields
one_field read front parts d type ds name id t ns ms named typed own other h k s known many knows new =
    let apart = different-append known ns ms new in
    let first = h s known (omega (arith, many)) knows apart.0 in
    let rest = k first.0 (known ++ ns) (omega (arith, many, first.2)) first.3 apart.1 in
    let joined : (front ++ (Some id, t) ∷ []) ++ parts ≡ front ++ (Some id, t) ∷ parts = append_assoc front
    ((Some id, t) ∷ []) parts in (
      rest.0,
      rw (named, typed, own, other, first.1, rest.1, joined) refl,
      omega (arith, first.2, rest.2),
      rw
          (append_assoc known ns ms) at rest.3,
    )

space_none : (name : List ℕ) → dotted name ≡ false → space_of name ≡ []
unfolding dotted space_of
space_none [] h = refl
space_none (x ∷ name) h = let parts = neither _ (dotted name) h in rw parts.1 refl

read_structure : (most : ℕ) (at : Role) (name : List ℕ) (ds : Items) (parts : List Part) (ns : List (List ℕ))
    → 0 < length name → dotted name ≡ false → all_items is_object ds ≡ true
    → ReadsFields (tree_at most role.Elsewhere []) [] ds parts ns
    → Reads (tree_at (suc most) at []) (structure_json name ds) (tree_of.structure (fields_of parts)) (name ∷ ns)
unfolding tree_at node_at object_at record_at below
read_structure most at name ds parts ns some_name plain objects h s known many knows new =
    let some : nat_lt 0 s.left ≡ true = lt-ltb 0 s.left (omega arith) in
    let now : Seen = record s { left = s.left - 1 } in
    let t = tree_of.structure (fields_of parts) in
    let apart = both (not (is_among name known)) (different (known ++ name ∷ []) ns) new in
    let unknown = not_true (is_among name known) apart.0 in
    let opened : Seen = record now { names = put name None now.names } in
    let inner = h opened (known ++ name ∷ []) (omega (arith, many)) (put_known known name None now.names knows)
    apart.1 in
    let closed = put_again ((known ++ name ∷ []) ++ ns) name (Some t) inner.0.names (among_itself name known
    ns) inner.3 in (
      record { names = put name (Some t) inner.0.names; left = inner.0.left },
      rw (
        some,
        filled name some_name,
        objects,
        full_none name,
        space_none name plain,
        defined_new name None now known
            knows unknown,
        inner.1,
      ) refl,
      omega (arith, inner.2),
      rw (append_assoc known (name ∷ []) ns) at closed,
    )

-- ---- types

abbrev pub is_id : ℤ → Bool
is_id (pos n) = nat_lt n (2 ^ 31)
is_id (negsuc n) = nat_lt n (2 ^ 31)

abbrev pub is_filled : List ℕ → Bool
is_filled [] = false
is_filled (x ∷ s) = true

abbrev pub ids_in : WrittenFields → List ℤ
ids_in no_more = []
ids_in (required name id w fs) = id ∷ ids_in fs
ids_in (optional name id w fs) = id ∷ ids_in fs

abbrev pub different_ids : List ℤ → Bool
different_ids [] = true
different_ids (id ∷ ids) = not (list_any (int_eq id) ids) && different_ids ids

-- names are there, numbers fit, and no two fields of a record have one id
abbrev mutual
  pub fine : Written → Bool
  fine (written.fixed name size) = is_filled name && nat_lt size (2 ^ 31)
  fine (written.uuid name) = is_filled name
  fine (written.list id w) = is_id id && fine w
  fine (written.map w) = fine w
  fine (written.structure name fs) = is_filled name && not (dotted name) && different_ids (ids_in fs) && fine_fields fs
  fine w = true

  pub fine_fields : WrittenFields → Bool
  fine_fields no_more = true
  fine_fields (required name id w fs) = is_filled name && is_id id && fine w && fine_fields fs
  fine_fields (optional name id w fs) = is_filled name && is_id id && fine w && fine_fields fs

abbrev parts_of : WrittenFields → List Part
parts_of no_more = []
parts_of (required name id w fs) = (Some id, written_tree w) ∷ parts_of fs
parts_of (optional name id w fs) = (Some id, null_or (written_tree w)) ∷ parts_of fs

fields_of-parts_of : (fs : WrittenFields) → fields_of (parts_of fs) ≡ written_fields fs
fields_of-parts_of no_more = refl
fields_of-parts_of (required name id w fs) = ap (field (Some id) (written_tree w)) (fields_of-parts_of fs)
fields_of-parts_of (optional name id w fs) = ap (field (Some id) (null_or (written_tree w))) (fields_of-parts_of fs)

is_filled-length : (s : List ℕ) → is_filled s ≡ true → 0 < length s
is_filled-length [] h = absurd cc
is_filled-length (x ∷ s) h = omega arith

is_id-IsId : (id : ℤ) → is_id id ≡ true → IsId id
is_id-IsId (pos n) h = ltb-true n (2 ^ 31) h
is_id-IsId (negsuc n) h = ltb-true n (2 ^ 31) h

all_objects : (fs : WrittenFields) → all_items is_object (fields_json fs) ≡ true
unfolding fields_json
all_objects no_more = refl
all_objects (required name id w fs) = all_objects fs
all_objects (optional name id w fs) = all_objects fs

-- the ids are none of those before
abbrev Apart : List Part → List ℤ → Type 0
Apart front ids = AllByRecursion (λ id. list_any (has_id id) front ≡ false) ids

any_append : {A : Type 0} (p : A → Bool) (xs : List A) (y : A) → list_any p xs ≡ false → p y ≡ false
    → list_any p (xs ++ y ∷ []) ≡ false
any_append p [] y h k = rw k refl
any_append p (x ∷ xs) y h k = let parts = neither (p x) (list_any p xs) h in rw (parts.0, any_append p xs y parts.1 k)
    refl

apart_on : (front : List Part) (id : ℤ) (t : Tree) (ids : List ℤ) → list_any (int_eq id) ids ≡ false → Apart front ids
    → Apart (front ++ (Some id, t) ∷ []) ids
apart_on front id t [] h k = tt
apart_on front id t (other ∷ ids) h k =
    let parts = neither (int_eq id other) (list_any (int_eq id) ids) h in
    (any_append (has_id other) front (Some id, t) k.0 parts.0, apart_on front id t ids parts.1 k.1)

none_apart : (ids : List ℤ) → Apart [] ids
none_apart [] = tt
none_apart (id ∷ ids) = (refl, none_apart ids)

record FineField (name : List ℕ) (id : ℤ) (w : Written) (fs : WrittenFields) : Type 0 where
  pub filled : is_filled name ≡ true
  pub id_is : IsId id
  pub type : fine w ≡ true
  pub others : fine_fields fs ≡ true

fine_field : (name : List ℕ) (id : ℤ) (w : Written) (fs : WrittenFields)
    → (is_filled name && is_id id && fine w && fine_fields fs) ≡ true → FineField name id w fs
fine_field name id w fs h =
    let three = both (is_filled name && is_id id && fine w) (fine_fields fs) h in
    let two = both (is_filled name && is_id id) (fine w) three.0 in
    let one = both (is_filled name) (is_id id) two.0 in
    record { filled = one.0; id_is = is_id-IsId id one.1; type = two.1; others = three.1 }

record FineStructure (name : List ℕ) (fs : WrittenFields) : Type 0 where
  pub filled : is_filled name ≡ true
  pub plain : dotted name ≡ false
  pub ids : different_ids (ids_in fs) ≡ true
  pub fields : fine_fields fs ≡ true

fine_structure : (name : List ℕ) (fs : WrittenFields)
    → (is_filled name && not (dotted name) && different_ids (ids_in fs) && fine_fields fs) ≡ true
    → FineStructure name fs
fine_structure name fs h =
    let three = both (is_filled name && not (dotted name) && different_ids (ids_in fs)) (fine_fields fs) h in
    let two = both (is_filled name && not (dotted name)) (different_ids (ids_in fs)) three.0 in
    let one = both (is_filled name) (not (dotted name)) two.0 in
    record { filled = one.0; plain = not_true (dotted name) one.1; ids = two.1; fields = three.1 }

required_own : (name : List ℕ) (id : ℤ) (d : Data) → IsId id
    → id_in (codes "field-id") (required_json name id d) ≡ Some id
required_own name id d h = known_id id h

optional_own : (name : List ℕ) (id : ℤ) (d : Data) → IsId id
    → id_in (codes "field-id") (optional_json name id d) ≡ Some id
optional_own name id d h = known_id id h

mutual
  unfolding json_of fields_json height deepest_field deepest_branch

  read_written : (most : ℕ) (at : Role) (w : Written) → fine w ≡ true → height (written_tree w) ≤ most
      → Reads (tree_at (suc most) at []) (json_of w) (written_tree w) (names_in w)
  read_written most at (written.word w) h deep = read_word most at w
  read_written most at written.date h deep = read_int most at (codes "date")
  read_written most at written.time h deep = read_long most at (codes "time-micros")
  read_written most at (written.timestamp adjusted) h deep = read_timestamp most at adjusted
  read_written most at (written.fixed name size) h deep =
      let parts = both (is_filled name) (nat_lt size (2 ^ 31)) h in
      read_fixed most at name size (is_filled-length name parts.0) (ltb-true size (2 ^ 31) parts.1)
  read_written most at (written.uuid name) h deep = read_uuid most at name (is_filled-length name h)
  read_written zero at (written.list id w) h deep = absurd (omega arith)
  read_written (suc most) at (written.list id w) h deep =
      let parts = both (is_id id) (fine w) h in
      read_list (suc most) at id (json_of w) (written_tree w) (names_in w) (is_id-IsId id parts.0)
      (read_written most role.Elsewhere w parts.1 (omega arith))
  read_written zero at (written.map w) h deep = absurd (omega arith)
  read_written (suc most) at (written.map w) h deep = read_map (suc most) at (json_of w) (written_tree w) (names_in w)
      (read_written most role.Elsewhere w h (omega arith))
  read_written most at (written.structure name fs) h deep =
      let parts = fine_structure name fs h in
      subst (λ (gs : Fields). Reads (tree_at (suc most) at []) (structure_json name (fields_json fs))
      (tree_of.structure gs) (name ∷ field_names fs)) (fields_of-parts_of fs)
      (read_structure most at name (fields_json fs) (parts_of fs) (field_names fs) (is_filled-length name parts.filled)
      parts.plain (all_objects fs) (read_fields most [] fs parts.fields parts.ids (none_apart (ids_in fs)) deep))

  read_fields : (most : ℕ) (front : List Part) (fs : WrittenFields) → fine_fields fs ≡ true
      → different_ids (ids_in fs) ≡ true → Apart front (ids_in fs) → deepest_field (written_fields fs) ≤ most
      → ReadsFields (tree_at most role.Elsewhere []) front (fields_json fs) (parts_of fs) (field_names fs)
  read_fields most front no_more h ids other deep = no_field (tree_at most role.Elsewhere []) front
  read_fields zero front (required name id w fs) h ids other deep = absurd (omega arith)
  read_fields (suc most) front (required name id w fs) h ids other deep =
      let parts = fine_field name id w fs h in
      let new = both (not (list_any (int_eq id) (ids_in fs))) (different_ids (ids_in fs)) ids in
      one_field (tree_at (suc most) role.Elsewhere []) front (parts_of fs) (required_json name id (json_of w))
      (json_of w) (fields_json fs) name id (written_tree w) (names_in w) (field_names fs)
      (filled name (is_filled-length name parts.filled)) refl (required_own name id (json_of w) parts.id_is) other.0
      (read_written most role.Elsewhere w parts.type (omega arith))
      (read_fields (suc most) (front ++ (Some id, written_tree w) ∷ []) fs parts.others new.1
      (apart_on front id (written_tree w) (ids_in fs) (not_true _ new.0) other.1) (omega arith))
  read_fields zero front (optional name id w fs) h ids other deep = absurd (omega arith)
  read_fields (suc zero) front (optional name id w fs) h ids other deep = absurd (omega arith)
  read_fields (suc (suc most)) front (optional name id w fs) h ids other deep =
      let parts = fine_field name id w fs h in
      let new = both (not (list_any (int_eq id) (ids_in fs))) (different_ids (ids_in fs)) ids in
      one_field (tree_at (suc (suc most)) role.Elsewhere []) front (parts_of fs) (optional_json name id (json_of w))
      (or_null (json_of w)) (fields_json fs) name id (null_or (written_tree w)) (names_in w) (field_names fs)
      (filled name (is_filled-length name parts.filled)) refl (optional_own name id (json_of w) parts.id_is) other.0
      (read_nullable most (json_of w) (written_tree w) (names_in w) (read_written most role.Branch w parts.type
      (omega arith)))
      (read_fields (suc (suc most)) (front ++ (Some id, null_or (written_tree w)) ∷ []) fs parts.others new.1
      (apart_on front id (null_or (written_tree w)) (ids_in fs) (not_true _ new.0) other.1) (omega arith))

-- ---- the text

no_names : Knows [] []
unfolding Knows
no_names = λ n h. refl

pub schema_read : (w : Written) (text : List ℕ) → is_utf8 text ≡ true → read text ≡ Some (json_of w) → fine w ≡ true
    → different [] (names_in w) ≡ true → height (written_tree w) ≤ 31 → nodes (written_tree w) ≤ most_nodes
    → schema_of text ≡ Ok (written_tree w)
unfolding schema_of json_in
schema_read w text utf8 said is_fine new deep many =
    let found = read_written 31 role.Elsewhere w is_fine deep (record { names = []; left = most_nodes }) [] many
    no_names new in
    rw (utf8, said, found.1) refl
