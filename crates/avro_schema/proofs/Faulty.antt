-- What follows from the rules of `Trace` for a type that has a fault: where the fault is.
use Rattle.std.proofs.Common.{◌≡◌, ◌⊎◌, ◌<◌, ℕ, suc, List, [], ◌∷◌, Option, Some, None, Result, Ok, Err, refl, sym, ◌∙◌}
use Rattle.std.proofs.Common.{arith}
use mathlib.Core.Logic.{inl, inr}
use Rattle.std.specs.Prelude.{MatchResult, ℤ}
use Rattle.serde_json.specs.Data.{Data}
use Rattle.avro_schema.specs.declared.fault.SchemaFault.{SchemaFault}
use Rattle.avro_schema.specs.declared.fault.SchemaFault.TheVariants.{UnknownName, FieldTwice, NameTwice}
use Rattle.avro_schema.specs.declared.reading.Role.TheVariants as role
use Rattle.avro_schema.specs.Tree.{Tree}
use Rattle.avro_schema.specs.Names.{Entry, lookup, put}
use Rattle.avro_schema.specs.Reading.{tree_at}
use Rattle.avro_schema.specs.Texts.{json_of, schema_of, most_nodes, most_levels}
use Rattle.avro_schema.specs.Inside.{Uses, Defines}
use Rattle.avro_schema.specs.Order.{Node, parts_in, Nth, first_part, later_part, At, root, below, around, left_of}
use Rattle.avro_schema.specs.Order.{in_one, DefinedIn, DefinedBefore, defined_before}
use Rattle.avro_schema.specs.Faults.{HasUnknownName, unknown_name, HasNameTwice, name_twice, HasIdTwice, id_twice}
use Rattle.avro_schema.proofs.Holding.{one_definition}
use Rattle.avro_schema.proofs.Trace.{NoDefinition, Took, Another, Failed, failed_other, failed_use, failed_name}
use Rattle.avro_schema.proofs.Trace.{failed_id, failed_plain, failed_named, FailedIn, failed_first, failed_later}
use Rattle.avro_schema.proofs.Traced.{both_bind, TookAt}
use Rattle.avro_schema.proofs.Whole.{tree_tells}
use Rattle.avro_schema.proofs.Known.{not_both, known_outside, unknown_outside, unknown_before, Left, took_stays}
use Rattle.avro_schema.proofs.Known.{took_defined, took_origin, BeforeAmong, before_among, before_below, before_later}
use Rattle.avro_schema.proofs.Known.{before_first, whole_first, before_root}

-- ---- another fault

other_fault : (e f : SchemaFault) → Another e → e ≡ f → Another f
other_fault e f h is = rw is at h

no_name_fault : (e : SchemaFault) → e ≡ NameTwice → e ≡ UnknownName → ⊥
no_name_fault e h k = let f : NameTwice ≡ UnknownName = sym h ∙ k in absurd cc

no_id_unknown : (e : SchemaFault) (id : ℤ) → e ≡ FieldTwice id → e ≡ UnknownName → ⊥
no_id_unknown e id h k = let f : FieldTwice id ≡ UnknownName = sym h ∙ k in absurd cc

no_id_name : (e : SchemaFault) (id : ℤ) → e ≡ FieldTwice id → e ≡ NameTwice → ⊥
no_id_name e id h k = let f : FieldTwice id ≡ NameTwice = sym h ∙ k in absurd cc

one_id : (e : SchemaFault) (id other : ℤ) → e ≡ FieldTwice id → e ≡ FieldTwice other → id ≡ other
one_id e id other h k = let f : FieldTwice id ≡ FieldTwice other = sym h ∙ k in cc

-- ---- a name that nothing before defines

data UnknownIn : List ℕ → Data → List Entry → Type 0 where
  unknown_in : {space place last name : List ℕ} {d u : Data} {es : List Entry} → At place space d last u
      → Uses last u name → lookup name es ≡ None → (DefinedBefore place space d name → ⊥) → UnknownIn space d es

data UnknownAmong : List Node → List Entry → Type 0 where
  unknown_among : {ns : List Node} {i : ℕ} {n : Node} {place last name : List ℕ} {u : Data} {es : List Entry}
      → Nth i n ns → At place n.0 n.1 last u → Uses last u name → lookup name es ≡ None
      → (BeforeAmong ns i place name → ⊥) → UnknownAmong ns es

pub none_before_root : (space : List ℕ) (d : Data) (place name : List ℕ) → place ≡ [] → DefinedBefore place space d name
    → ⊥
none_before_root space d place name e (defined_before {earlier} order at h) = before_root earlier place e order

pub none_below : (space : List ℕ) (d : Data) (i : ℕ) (place name : List ℕ) → (Defines space d name → ⊥)
    → (BeforeAmong (parts_in space d) i place name → ⊥) → DefinedBefore (i ∷ place) space d name → ⊥
none_below space d i place name own before (defined_before order root h) = own h
none_below space d i place name own before (defined_before order (below nth at) h) =
    before (before_among order nth at h)

pub none_first : (n : Node) (ns : List Node) (place name : List ℕ) → (DefinedBefore place n.0 n.1 name → ⊥)
    → BeforeAmong (n ∷ ns) 0 place name → ⊥
none_first n ns place name before (before_among (left_of lt) nth at h) = absurd (omega (arith, lt))
none_first n ns place name before (before_among (in_one order) first_part at h) = before (defined_before order at h)

pub none_later : (n : Node) (ns : List Node) (es fs : List Entry) (t : Tree) (i : ℕ) (place name : List ℕ)
    → Took n.0 n.1 es t fs → lookup name fs ≡ None → (BeforeAmong ns i place name → ⊥)
    → BeforeAmong (n ∷ ns) (suc i) place name → ⊥
none_later n ns es fs t i place name one none before (before_among {earlier} {last} {e} order first_part at h) =
    let left : Left last e name fs = took_defined one earlier last e name at h in not_both (lookup name fs)
    (Some left.0) none left.1.0
none_later n ns es fs t i place name one none before (before_among (left_of lt) (later_part {i = j} nth) at h) =
    let less : j < i = omega (arith, lt) in before (before_among (left_of less) nth at h)
none_later n ns es fs t i place name one none before (before_among (in_one order) (later_part nth) at h) =
    before (before_among (in_one order) nth at h)

plain_unknown : (space : List ℕ) (d : Data) (es : List Entry) → NoDefinition space d
    → UnknownAmong (parts_in space d) es → UnknownIn space d es
plain_unknown space d es undefined (unknown_among {i} {place} {name} nth at u none before) = unknown_in (below nth at) u
    none (λ b. none_below space d i place name (undefined name) before b)

named_unknown : (space own : List ℕ) (d : Data) (es : List Entry) → Defines space d own
    → UnknownAmong (parts_in space d) (put own None es) → UnknownIn space d es
named_unknown space own d es makes (unknown_among {i} {place} {name} nth at u none before) =
    let out = unknown_outside own name es none in
    unknown_in (below nth at) u out.1 (λ b. none_below space d i place name
    (λ h. out.0 (one_definition space d name own h makes)) before b)

first_unknown : (n : Node) (ns : List Node) (es : List Entry) → UnknownIn n.0 n.1 es → UnknownAmong (n ∷ ns) es
first_unknown n ns es (unknown_in {place} {name} at u none before) = unknown_among first_part at u none
    (λ b. none_first n ns place name before b)

later_unknown : (n : Node) (ns : List Node) (es fs : List Entry) (t : Tree) → Took n.0 n.1 es t fs → UnknownAmong ns fs
    → UnknownAmong (n ∷ ns) es
later_unknown n ns es fs t one (unknown_among {i} {place} {name} nth at u none before) =
    unknown_among (later_part nth) at u (unknown_before name es fs (took_stays one) none) (λ b. none_later n ns es fs t
    i place name one none before b)

mutual
  fails_unknown : {space : List ℕ} {d : Data} {es : List Entry} {e : SchemaFault} → Failed space d es e
      → e ≡ UnknownName → UnknownIn space d es
  fails_unknown (failed_other {e} h) is = absurd (other_fault e UnknownName h is)
  fails_unknown (failed_use {space} {name} {d} f u l) is = unknown_in root u l (λ b. none_before_root space d [] name
      refl b)
  fails_unknown (failed_name {e} f makes l) is = absurd (no_name_fault e f is)
  fails_unknown (failed_id {id} {e} f k there twice) is = absurd (no_id_unknown e id f is)
  fails_unknown (failed_plain {space} {d} {es} a b parts) is = plain_unknown space d es b (among_unknown parts is)
  fails_unknown (failed_named {space} {own} {d} {es} makes new parts) is = named_unknown space own d es makes
      (among_unknown parts is)

  among_unknown : {ns : List Node} {es : List Entry} {e : SchemaFault} → FailedIn ns es e → e ≡ UnknownName
      → UnknownAmong ns es
  among_unknown (failed_first {n} {ns} {es} h) is = first_unknown n ns es (fails_unknown h is)
  among_unknown (failed_later {n} {ns} {es} {fs} {t} one h) is = later_unknown n ns es fs t one (among_unknown h is)

-- ---- a name twice

data KnownIn : List ℕ → Data → List Entry → Type 0 where
  known_in : {space place last name : List ℕ} {d e : Data} {es : List Entry} {x : Option Tree} → At place space d last e
      → Defines last e name → lookup name es ≡ Some x → KnownIn space d es

data KnownAmong : List Node → List Entry → Type 0 where
  known_among : {ns : List Node} {i : ℕ} {n : Node} {place last name : List ℕ} {e : Data} {es : List Entry}
      {x : Option Tree} → Nth i n ns → At place n.0 n.1 last e → Defines last e name → lookup name es ≡ Some x
      → KnownAmong ns es

data TwiceAmong : List Node → Type 0 where
  twice_among : {ns : List Node} {i : ℕ} {n : Node} {place last name : List ℕ} {e : Data} → Nth i n ns
      → At place n.0 n.1 last e → Defines last e name → BeforeAmong ns i place name → TwiceAmong ns

twice_below : (space : List ℕ) (d : Data) → TwiceAmong (parts_in space d) → HasNameTwice space d
twice_below space d (twice_among {i} {place} {name} nth at h before) = name_twice (below nth at) h
    (before_below space d i place name before)

plain_twice : (space : List ℕ) (d : Data) (es : List Entry)
    → TwiceAmong (parts_in space d) ⊎ KnownAmong (parts_in space d) es → HasNameTwice space d ⊎ KnownIn space d es
plain_twice space d es (inl h) = inl (twice_below space d h)
plain_twice space d es (inr (known_among nth at h k)) = inr (known_in (below nth at) h k)

outer_twice : (space own : List ℕ) (d : Data) (es : List Entry) (i : ℕ) (n : Node) (place last name : List ℕ) (e : Data)
    (x : Option Tree) → Defines space d own → Nth i n (parts_in space d) → At place n.0 n.1 last e → Defines last e name
    → (name ≡ own) ⊎ (lookup name es ≡ Some x) → HasNameTwice space d ⊎ KnownIn space d es
outer_twice space own d es i n place last name e x makes nth at h (inl same) = inl (name_twice (below nth at) h
    (defined_before around root (rw same makes)))
outer_twice space own d es i n place last name e x makes nth at h (inr k) = inr (known_in (below nth at) h k)

named_twice : (space own : List ℕ) (d : Data) (es : List Entry) → Defines space d own
    → TwiceAmong (parts_in space d) ⊎ KnownAmong (parts_in space d) (put own None es)
    → HasNameTwice space d ⊎ KnownIn space d es
named_twice space own d es makes (inl h) = inl (twice_below space d h)
named_twice space own d es makes (inr (known_among {i} {n} {place} {last} {name} {e} {x} nth at h k)) =
    outer_twice space own d es i n place last name e x makes nth at h (known_outside own name es x k)

first_twice : (n : Node) (ns : List Node) (es : List Entry) → HasNameTwice n.0 n.1 ⊎ KnownIn n.0 n.1 es
    → TwiceAmong (n ∷ ns) ⊎ KnownAmong (n ∷ ns) es
first_twice n ns es (inl (name_twice {place} {name} at h before)) = inl (twice_among first_part at h
    (before_first n ns place name before))
first_twice n ns es (inr (known_in at h k)) = inr (known_among first_part at h k)

from_first : (n m : Node) (ns : List Node) (es : List Entry) (i : ℕ) (place last name : List ℕ) (e : Data)
    (x : Option Tree) → Nth i m ns → At place m.0 m.1 last e → Defines last e name
    → (lookup name es ≡ Some x) ⊎ DefinedIn n.0 n.1 name → TwiceAmong (n ∷ ns) ⊎ KnownAmong (n ∷ ns) es
from_first n m ns es i place last name e x nth at h (inl k) = inr (known_among (later_part nth) at h k)
from_first n m ns es i place last name e x nth at h (inr k) = inl (twice_among (later_part nth) at h
    (whole_first n ns i place name k))

later_twice : (n : Node) (ns : List Node) (es fs : List Entry) (t : Tree) → Took n.0 n.1 es t fs
    → TwiceAmong ns ⊎ KnownAmong ns fs → TwiceAmong (n ∷ ns) ⊎ KnownAmong (n ∷ ns) es
later_twice n ns es fs t one (inl (twice_among {i} {place} {name} nth at h before)) = inl (twice_among (later_part nth)
    at h (before_later n ns i place name before))
later_twice n ns es fs t one (inr (known_among {i} {n = m} {place} {last} {name} {e} {x} nth at h k)) = from_first n m
    ns es i place last name e x nth at h (took_origin one name x k)

mutual
  fails_twice : {space : List ℕ} {d : Data} {es : List Entry} {e : SchemaFault} → Failed space d es e → e ≡ NameTwice
      → HasNameTwice space d ⊎ KnownIn space d es
  fails_twice (failed_other {e} h) is = absurd (other_fault e NameTwice h is)
  fails_twice (failed_use {e} f u l) is = absurd (no_name_fault e is f)
  fails_twice (failed_name f makes l) is = inr (known_in root makes l)
  fails_twice (failed_id {id} {e} f k there twice) is = absurd (no_id_name e id f is)
  fails_twice (failed_plain {space} {d} {es} a b parts) is = plain_twice space d es (among_twice parts is)
  fails_twice (failed_named {space} {own} {d} {es} makes new parts) is = named_twice space own d es makes
      (among_twice parts is)

  among_twice : {ns : List Node} {es : List Entry} {e : SchemaFault} → FailedIn ns es e → e ≡ NameTwice
      → TwiceAmong ns ⊎ KnownAmong ns es
  among_twice (failed_first {n} {ns} {es} h) is = first_twice n ns es (fails_twice h is)
  among_twice (failed_later {n} {ns} {es} {fs} {t} one h) is = later_twice n ns es fs t one (among_twice h is)

-- ---- an id twice

data IdAmong : ℤ → List Node → Type 0 where
  id_among : {id : ℤ} {ns : List Node} {i : ℕ} {n : Node} → Nth i n ns → HasIdTwice id n.0 n.1 → IdAmong id ns

id_below : (id : ℤ) (space : List ℕ) (d : Data) → IdAmong id (parts_in space d) → HasIdTwice id space d
id_below id space d (id_among nth (id_twice at k there twice)) = id_twice (below nth at) k there twice

id_later : (id : ℤ) (n : Node) (ns : List Node) → IdAmong id ns → IdAmong id (n ∷ ns)
id_later id n ns (id_among nth h) = id_among (later_part nth) h

mutual
  fails_id : {space : List ℕ} {d : Data} {es : List Entry} {e : SchemaFault} → Failed space d es e → (id : ℤ)
      → e ≡ FieldTwice id → HasIdTwice id space d
  fails_id (failed_other {e} h) id is = absurd (other_fault e (FieldTwice id) h is)
  fails_id (failed_use {e} f u l) id is = absurd (no_id_unknown e id is f)
  fails_id (failed_name {e} f makes l) id is = absurd (no_id_name e id is f)
  fails_id (failed_id {id = found} {e} f k there twice) id is = id_twice root k there (rw (one_id e found id f is) at
      twice)
  fails_id (failed_plain {space} {d} a b parts) id is = id_below id space d (among_id parts id is)
  fails_id (failed_named {space} {d} makes new parts) id is = id_below id space d (among_id parts id is)

  among_id : {ns : List Node} {es : List Entry} {e : SchemaFault} → FailedIn ns es e → (id : ℤ) → e ≡ FieldTwice id
      → IdAmong id ns
  among_id (failed_first {n} {ns} h) id is = id_among first_part (fails_id h id is)
  among_id (failed_later {n} {ns} one h) id is = id_later id n ns (among_id h id is)

-- ---- the whole schema

pub schema_tells : (text : List ℕ) (d : Data) → json_of text ≡ Ok d
    → MatchResult (schema_of text) (λ t. (fs : List Entry) × Took [] d [] t fs) (Failed [] d [])
unfolding schema_of
schema_tells text d is =
    rw is (both_bind (TookAt role.Elsewhere [] d (record { names = []; left = most_nodes })) (Failed [] d []) _
    (tree_at most_levels role.Elsewhere [] d (record { names = []; left = most_nodes })) _
    (tree_tells most_levels role.Elsewhere [] d (record { names = []; left = most_nodes }))
    (λ x p. (x.1.names, p.1)))

at_ok : {A E : Type 0} (r : Result A E) (x : A) (P : A → Type 0) (F : E → Type 0) → r ≡ Ok x → MatchResult r P F → P x
at_ok r x P F is h = rw is at h

at_err : {A E : Type 0} (r : Result A E) (e : E) (P : A → Type 0) (F : E → Type 0) → r ≡ Err e → MatchResult r P F → F e
at_err r e P F is h = rw is at h

pub schema_took : (text : List ℕ) (d : Data) (t : Tree) → json_of text ≡ Ok d → schema_of text ≡ Ok t
    → (fs : List Entry) × Took [] d [] t fs
schema_took text d t is h = at_ok (schema_of text) t (λ t. (fs : List Entry) × Took [] d [] t fs) (Failed [] d []) h
    (schema_tells text d is)

pub schema_failed : (text : List ℕ) (d : Data) (e : SchemaFault) → json_of text ≡ Ok d → schema_of text ≡ Err e
    → Failed [] d [] e
schema_failed text d e is h = at_err (schema_of text) e (λ t. (fs : List Entry) × Took [] d [] t fs) (Failed [] d []) h
    (schema_tells text d is)

has_unknown : (d : Data) → UnknownIn [] d [] → HasUnknownName [] d
has_unknown d (unknown_in at u none before) = unknown_name at u before

has_twice : (d : Data) → HasNameTwice [] d ⊎ KnownIn [] d [] → HasNameTwice [] d
has_twice d (inl h) = h
has_twice d (inr (known_in at h k)) = absurd cc

pub schema_unknown : (text : List ℕ) (d : Data) → json_of text ≡ Ok d → schema_of text ≡ Err UnknownName
    → HasUnknownName [] d
schema_unknown text d is h = has_unknown d (fails_unknown (schema_failed text d UnknownName is h) refl)

pub schema_twice : (text : List ℕ) (d : Data) → json_of text ≡ Ok d → schema_of text ≡ Err NameTwice → HasNameTwice [] d
schema_twice text d is h = has_twice d (fails_twice (schema_failed text d NameTwice is h) refl)

pub schema_id : (text : List ℕ) (d : Data) (id : ℤ) → json_of text ≡ Ok d → schema_of text ≡ Err (FieldTwice id)
    → HasIdTwice id [] d
schema_id text d id is h = fails_id (schema_failed text d (FieldTwice id) is h) id refl
