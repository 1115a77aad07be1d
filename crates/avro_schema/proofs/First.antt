-- The fault of a schema is the first: what the walk took before it has none.
use Rattle.std.proofs.Common.{◌≡◌, ◌⊎◌, ℕ, suc, List, [], ◌∷◌, Some, None, Ok, Err, refl, arith}
use mathlib.Core.Logic.{inl, inr}
use Rattle.std.specs.Prelude.{ℤ}
use Rattle.serde_json.specs.Data.{Data}
use Rattle.avro_schema.specs.declared.fault.SchemaFault.{SchemaFault}
use Rattle.avro_schema.specs.declared.fault.SchemaFault.TheVariants.{NotJson, UnknownType, UnknownName, Recursive}
use Rattle.avro_schema.specs.declared.fault.SchemaFault.TheVariants.{TooBig, FieldTwice, Memory, NameTwice}
use Rattle.avro_schema.specs.Tree.{Tree}
use Rattle.avro_schema.specs.Names.{Entry, lookup, put}
use Rattle.avro_schema.specs.Texts.{json_of, schema_of}
use Rattle.avro_schema.specs.Inside.{Uses, Defines}
use Rattle.avro_schema.specs.Order.{Node, parts_in, Nth, first_part, later_part, At, root, below, Before, left_of}
use Rattle.avro_schema.specs.Order.{in_one, DefinedBefore, defined_before}
use Rattle.avro_schema.specs.First.{RecordHasIdTwice, EndsBefore, beside, both_in, IsFaultOf, HasFirst}
use Rattle.avro_schema.proofs.Holding.{one_definition, uses_no_definition}
use Rattle.avro_schema.proofs.Trace.{NoUse, NoDefinition, Took, Another, Failed, failed_other, failed_use, failed_name}
use Rattle.avro_schema.proofs.Trace.{failed_id, failed_plain, failed_named, FailedIn, failed_first, failed_later}
use Rattle.avro_schema.proofs.Known.{Known, UseKnown, plain_known, named_known, first_known, later_known}
use Rattle.avro_schema.proofs.Known.{unknown_before, unknown_outside, took_stays, took_new, took_uses, took_once}
use Rattle.avro_schema.proofs.Known.{took_ids, BeforeAmong, before_root, name_is}
use Rattle.avro_schema.proofs.Faulty.{none_before_root, none_below, none_first, none_later, schema_failed}

-- ---- names that are new, and names that are known

-- nothing defines the name before the place, and it was not known
abbrev Fresh : List ℕ → Data → List Entry → List ℕ → List ℕ → Type 0
Fresh space d es place name = (lookup name es ≡ None) × (DefinedBefore place space d name → ⊥)

abbrev FreshAmong : List Node → List Entry → ℕ → List ℕ → List ℕ → Type 0
FreshAmong ns es i place name = (lookup name es ≡ None) × (BeforeAmong ns i place name → ⊥)

abbrev KnownAmong : List Node → List Entry → ℕ → List ℕ → List ℕ → Type 0
KnownAmong ns es i place name = Known name es ⊎ BeforeAmong ns i place name

plain_fresh : (space : List ℕ) (d : Data) (es : List Entry) (i : ℕ) (place name : List ℕ) → NoDefinition space d
    → FreshAmong (parts_in space d) es i place name → Fresh space d es (i ∷ place) name
plain_fresh space d es i place name undefined f = (f.0, λ b. none_below space d i place name (undefined name) f.1 b)

named_fresh : (space own : List ℕ) (d : Data) (es : List Entry) (i : ℕ) (place name : List ℕ) → Defines space d own
    → FreshAmong (parts_in space d) (put own None es) i place name → Fresh space d es (i ∷ place) name
named_fresh space own d es i place name makes f =
    let out = unknown_outside own name es f.0 in
    (out.1, λ b. none_below space d i place name (λ h. out.0 (one_definition space d name own h makes)) f.1 b)

first_fresh : (n : Node) (ns : List Node) (es : List Entry) (place name : List ℕ) → Fresh n.0 n.1 es place name
    → FreshAmong (n ∷ ns) es 0 place name
first_fresh n ns es place name f = (f.0, λ b. none_first n ns place name f.1 b)

later_fresh : (n : Node) (ns : List Node) (es fs : List Entry) (t : Tree) (i : ℕ) (place name : List ℕ)
    → Took n.0 n.1 es t fs → FreshAmong ns fs i place name → FreshAmong (n ∷ ns) es (suc i) place name
later_fresh n ns es fs t i place name one f = (
  unknown_before name es fs (took_stays one) f.0,
  λ b. none_later n ns es
      fs t i place name one f.0 f.1 b,
)

-- ---- the type that has the fault

data Own (Fresh : List ℕ → Type 0) (Known : List ℕ → Type 0) (last : List ℕ) (u : Data) (e : SchemaFault) : Type 0 where
  own_other : Another e → Own Fresh Known last u e
  own_use : {name : List ℕ} → e ≡ UnknownName → Uses last u name → Fresh name → Own Fresh Known last u e
  own_name : {name : List ℕ} → e ≡ NameTwice → Defines last u name → Known name → Own Fresh Known last u e
  own_id : {id : ℤ} → e ≡ FieldTwice id → RecordHasIdTwice id u → Own Fresh Known last u e

own_in : {F G K L : List ℕ → Type 0} {last : List ℕ} {u : Data} {e : SchemaFault} → ((name : List ℕ) → F name → G name)
    → ((name : List ℕ) → K name → L name) → Own F K last u e → Own G L last u e
own_in f k (own_other a) = own_other a
own_in f k (own_use {name} is u h) = own_use is u (f name h)
own_in f k (own_name {name} is d h) = own_name is d (k name h)
own_in f k (own_id is twice) = own_id is twice

-- ---- what stands before the place

record SoundIn (space : List ℕ) (d : Data) (es : List Entry) (place : List ℕ) : Type 0 where
  pub uses : (earlier last name : List ℕ) (u : Data) → Before earlier place → At earlier space d last u
      → Uses last u name → UseKnown space d es earlier name
  pub definitions : (earlier own name : List ℕ) (e : Data) → Before earlier place → At earlier space d own e
      → Defines own e name → Fresh space d es earlier name
  pub ids : (earlier last : List ℕ) (e : Data) (id : ℤ) → EndsBefore earlier place → At earlier space d last e
      → RecordHasIdTwice id e → ⊥

record SoundAmong (ns : List Node) (es : List Entry) (i : ℕ) (place : List ℕ) : Type 0 where
  pub uses : (j : ℕ) (n : Node) (earlier last name : List ℕ) (u : Data) → Before (j ∷ earlier) (i ∷ place) → Nth j n ns
      → At earlier n.0 n.1 last u → Uses last u name → KnownAmong ns es j earlier name
  pub definitions : (j : ℕ) (n : Node) (earlier own name : List ℕ) (e : Data) → Before (j ∷ earlier) (i ∷ place)
      → Nth j n ns → At earlier n.0 n.1 own e → Defines own e name → FreshAmong ns es j earlier name
  pub ids : (j : ℕ) (n : Node) (earlier last : List ℕ) (e : Data) (id : ℤ) → EndsBefore (j ∷ earlier) (i ∷ place)
      → Nth j n ns → At earlier n.0 n.1 last e → RecordHasIdTwice id e → ⊥

no_end : (earlier place : List ℕ) → place ≡ [] → EndsBefore earlier place → ⊥
no_end earlier place e (beside lt) = absurd cc
no_end earlier place e (both_in h) = absurd cc

root_ends_not : (earlier place : List ℕ) → earlier ≡ [] → EndsBefore earlier place → ⊥
root_ends_not earlier place e (beside lt) = absurd cc
root_ends_not earlier place e (both_in h) = absurd cc

none_sound : (space : List ℕ) (d : Data) (es : List Entry) → SoundIn space d es []
none_sound space d es = record {
  uses = λ earlier last name u order at h. absurd (before_root earlier [] refl order);
  definitions = λ earlier own name e order at h. absurd (before_root earlier [] refl order);
  ids = λ earlier last e id order at h. no_end earlier [] refl order;
}

-- ---- types whose parts have the fault

plain_uses : (space : List ℕ) (d : Data) (es : List Entry) (i : ℕ) (place earlier last name : List ℕ) (u : Data)
    → NoUse space d → SoundAmong (parts_in space d) es i place → Before earlier (i ∷ place) → At earlier space d last u
    → Uses last u name → UseKnown space d es earlier name
plain_uses space d es i place earlier last name u unused s order root h = absurd (unused name h)
plain_uses space d es i place earlier last name u unused s order (below {i = j} {place = p} {n} nth at) h =
    plain_known space d es j p name (s.uses j n p last name u order nth at h)

plain_definitions : (space : List ℕ) (d : Data) (es : List Entry) (i : ℕ) (place earlier own name : List ℕ) (e : Data)
    → NoDefinition space d → SoundAmong (parts_in space d) es i place → Before earlier (i ∷ place)
    → At earlier space d own e → Defines own e name → Fresh space d es earlier name
plain_definitions space d es i place earlier own name e undefined s order root h = absurd (undefined name h)
plain_definitions space d es i place earlier own name e undefined s order (below {i = j} {place = p} {n} nth at) h =
    plain_fresh space d es j p name undefined (s.definitions j n p own name e order nth at h)

named_uses : (space made : List ℕ) (d : Data) (es : List Entry) (i : ℕ) (place earlier last name : List ℕ) (u : Data)
    → Defines space d made → SoundAmong (parts_in space d) (put made None es) i place → Before earlier (i ∷ place)
    → At earlier space d last u → Uses last u name → UseKnown space d es earlier name
named_uses space made d es i place earlier last name u makes s order root h = absurd (uses_no_definition space name d
    made h makes)
named_uses space made d es i place earlier last name u makes s order (below {i = j} {place = p} {n} nth at) h =
    named_known space made d es j p name makes (s.uses j n p last name u order nth at h)

named_definitions : (space made : List ℕ) (d : Data) (es : List Entry) (i : ℕ) (place earlier own name : List ℕ)
    (e : Data) → Defines space d made → lookup made es ≡ None → SoundAmong (parts_in space d) (put made None es) i place
    → Before earlier (i ∷ place) → At earlier space d own e → Defines own e name → Fresh space d es earlier name
named_definitions space made d es i place earlier own name e makes new s order root h = (
  name_is name made es None (one_definition space d name made h makes) new,
  λ b. none_before_root space d [] name
      refl b,
)
named_definitions space made d es i place earlier own name e makes new s order (below {i = j} {place = p} {n} nth at)
    h = named_fresh space made d es j p name makes (s.definitions j n p own name e order nth at h)

ids_below : (space : List ℕ) (d : Data) (es : List Entry) (i : ℕ) (place earlier last : List ℕ) (e : Data) (id : ℤ)
    → SoundAmong (parts_in space d) es i place → EndsBefore earlier (i ∷ place) → At earlier space d last e
    → RecordHasIdTwice id e → ⊥
ids_below space d es i place earlier last e id s order root h = root_ends_not [] (i ∷ place) refl order
ids_below space d es i place earlier last e id s order (below {i = j} {place = p} {n} nth at) h = s.ids j n p last e id
    order nth at h

plain_sound : (space : List ℕ) (d : Data) (es : List Entry) (i : ℕ) (place : List ℕ) → NoUse space d
    → NoDefinition space d → SoundAmong (parts_in space d) es i place → SoundIn space d es (i ∷ place)
plain_sound space d es i place unused undefined s = record {
  uses = λ earlier last name u order at h. plain_uses space d es i place earlier last name u unused s order at h;
  definitions = λ earlier own name e order at h. plain_definitions space d es i place earlier own name e undefined s
      order at h;
  ids = λ earlier last e id order at h. ids_below space d es i place earlier last e id s order at h;
}

named_sound : (space made : List ℕ) (d : Data) (es : List Entry) (i : ℕ) (place : List ℕ) → Defines space d made
    → lookup made es ≡ None → SoundAmong (parts_in space d) (put made None es) i place → SoundIn space d es (i ∷ place)
named_sound space made d es i place makes new s = record {
  uses = λ earlier last name u order at h. named_uses space made d es i place earlier last name u makes s order at h;
  definitions = λ earlier own name e order at h. named_definitions space made d es i place earlier own name e makes new
      s order at h;
  ids = λ earlier last e id order at h. ids_below space d (put made None es) i place earlier last e id s order at h;
}

-- ---- the parts of a type, from left to right

first_uses : (n m : Node) (ns : List Node) (es : List Entry) (place earlier last name : List ℕ) (j : ℕ) (u : Data)
    → SoundIn n.0 n.1 es place → Before (j ∷ earlier) (0 ∷ place) → Nth j m (n ∷ ns) → At earlier m.0 m.1 last u
    → Uses last u name → KnownAmong (n ∷ ns) es j earlier name
first_uses n m ns es place earlier last name j u s (left_of lt) nth at h = absurd (omega (arith, lt))
first_uses n m ns es place earlier last name j u s (in_one order) first_part at h = first_known n ns es earlier name
    (s.uses earlier last name u order at h)

first_definitions : (n m : Node) (ns : List Node) (es : List Entry) (place earlier own name : List ℕ) (j : ℕ) (e : Data)
    → SoundIn n.0 n.1 es place → Before (j ∷ earlier) (0 ∷ place) → Nth j m (n ∷ ns) → At earlier m.0 m.1 own e
    → Defines own e name → FreshAmong (n ∷ ns) es j earlier name
first_definitions n m ns es place earlier own name j e s (left_of lt) nth at h = absurd (omega (arith, lt))
first_definitions n m ns es place earlier own name j e s (in_one order) first_part at h = first_fresh n ns es earlier
    name (s.definitions earlier own name e order at h)

first_ids : (n m : Node) (ns : List Node) (es : List Entry) (place earlier last : List ℕ) (j : ℕ) (e : Data) (id : ℤ)
    → SoundIn n.0 n.1 es place → EndsBefore (j ∷ earlier) (0 ∷ place) → Nth j m (n ∷ ns) → At earlier m.0 m.1 last e
    → RecordHasIdTwice id e → ⊥
first_ids n m ns es place earlier last j e id s (beside lt) nth at h = absurd (omega (arith, lt))
first_ids n m ns es place earlier last j e id s (both_in order) first_part at h = s.ids earlier last e id order at h

first_sound : (n : Node) (ns : List Node) (es : List Entry) (place : List ℕ) → SoundIn n.0 n.1 es place
    → SoundAmong (n ∷ ns) es 0 place
first_sound n ns es place s = record {
  uses = λ j m earlier last name u order nth at h. first_uses n m ns es place earlier last name j u s order nth at h;
  definitions = λ j m earlier own name e order nth at h. first_definitions n m ns es place earlier own name j e s order
      nth at h;
  ids = λ j m earlier last e id order nth at h. first_ids n m ns es place earlier last j e id s order nth at h;
}

-- the order of parts behind one more
inner_order : (i j : ℕ) (place earlier : List ℕ) → Before (suc j ∷ earlier) (suc i ∷ place)
    → Before (j ∷ earlier) (i ∷ place)
inner_order i j place earlier (left_of lt) = left_of (omega (arith, lt))
inner_order i j place earlier (in_one h) = in_one h

inner_end : (i j : ℕ) (place earlier : List ℕ) → EndsBefore (suc j ∷ earlier) (suc i ∷ place)
    → EndsBefore (j ∷ earlier) (i ∷ place)
inner_end i j place earlier (beside lt) = beside (omega (arith, lt))
inner_end i j place earlier (both_in h) = both_in h

later_uses : (n m : Node) (ns : List Node) (es fs : List Entry) (t : Tree) (i j : ℕ) (place earlier last name : List ℕ)
    (u : Data) → Took n.0 n.1 es t fs → SoundAmong ns fs i place → Before (j ∷ earlier) (suc i ∷ place)
    → Nth j m (n ∷ ns) → At earlier m.0 m.1 last u → Uses last u name → KnownAmong (n ∷ ns) es j earlier name
later_uses n m ns es fs t i j place earlier last name u one s order first_part at h = first_known n ns es earlier name
    (took_uses one earlier last u name at h)
later_uses n m ns es fs t i j place earlier last name u one s order (later_part {i = k} nth) at h = later_known n ns es
    fs t k earlier name one (s.uses k m earlier last name u (inner_order i k place earlier order) nth at h)

took_fresh : (space : List ℕ) (d : Data) (es fs : List Entry) (t : Tree) (place own name : List ℕ) (e : Data)
    → Took space d es t fs → At place space d own e → Defines own e name → Fresh space d es place name
took_fresh space d es fs t place own name e one at h = (took_new one place own e name at h, λ b. twice b)
  where
    twice : DefinedBefore place space d name → ⊥
    twice (defined_before {earlier} {own = first} {e = f} order there k) = took_once one name earlier place first own f
        e order there k at h

later_definitions : (n m : Node) (ns : List Node) (es fs : List Entry) (t : Tree) (i j : ℕ) (place earlier own name :
    List ℕ) (e : Data) → Took n.0 n.1 es t fs → SoundAmong ns fs i place → Before (j ∷ earlier) (suc i ∷ place)
    → Nth j m (n ∷ ns) → At earlier m.0 m.1 own e → Defines own e name → FreshAmong (n ∷ ns) es j earlier name
later_definitions n m ns es fs t i j place earlier own name e one s order first_part at h = first_fresh n ns es earlier
    name (took_fresh n.0 n.1 es fs t earlier own name e one at h)
later_definitions n m ns es fs t i j place earlier own name e one s order (later_part {i = k} nth) at h = later_fresh n
    ns es fs t k earlier name one (s.definitions k m earlier own name e (inner_order i k place earlier order) nth at h)

later_ids : (n m : Node) (ns : List Node) (es fs : List Entry) (t : Tree) (i j : ℕ) (place earlier last : List ℕ)
    (e : Data) (id : ℤ) → Took n.0 n.1 es t fs → SoundAmong ns fs i place → EndsBefore (j ∷ earlier) (suc i ∷ place)
    → Nth j m (n ∷ ns) → At earlier m.0 m.1 last e → RecordHasIdTwice id e → ⊥
later_ids n m ns es fs t i j place earlier last e id one s order first_part at h = took_ids one earlier last e at id h.0
    h.1 h.2 h.3
later_ids n m ns es fs t i j place earlier last e id one s order (later_part {i = k} nth) at h = s.ids k m earlier last
    e id (inner_end i k place earlier order) nth at h

later_sound : (n : Node) (ns : List Node) (es fs : List Entry) (t : Tree) (i : ℕ) (place : List ℕ)
    → Took n.0 n.1 es t fs → SoundAmong ns fs i place → SoundAmong (n ∷ ns) es (suc i) place
later_sound n ns es fs t i place one s = record {
  uses = λ j m earlier last name u order nth at h. later_uses n m ns es fs t i j place earlier last name u one s order
      nth at h;
  definitions = λ j m earlier own name e order nth at h. later_definitions n m ns es fs t i j place earlier own name e
      one s order nth at h;
  ids = λ j m earlier last e id order nth at h. later_ids n m ns es fs t i j place earlier last e id one s order nth at
      h;
}

-- ---- where a walk fails

data FirstIn (space : List ℕ) (d : Data) (es : List Entry) (e : SchemaFault) : Type 0 where
  first_in : {place last : List ℕ} {u : Data} → At place space d last u
      → Own (Fresh space d es place) (UseKnown space d es place) last u e → SoundIn space d es place
      → FirstIn space d es e

data FirstAmong (ns : List Node) (es : List Entry) (e : SchemaFault) : Type 0 where
  first_among : {i : ℕ} {n : Node} {place last : List ℕ} {u : Data} → Nth i n ns → At place n.0 n.1 last u
      → Own (FreshAmong ns es i place) (KnownAmong ns es i place) last u e → SoundAmong ns es i place
      → FirstAmong ns es e

here : (space : List ℕ) (d : Data) (es : List Entry) (e : SchemaFault)
    → Own (Fresh space d es []) (UseKnown space d es []) space d e → FirstIn space d es e
here space d es e own = first_in root own (none_sound space d es)

plain_first : (space : List ℕ) (d : Data) (es : List Entry) (e : SchemaFault) → NoUse space d → NoDefinition space d
    → FirstAmong (parts_in space d) es e → FirstIn space d es e
plain_first space d es e unused undefined (first_among {i} {place} nth at own s) =
    first_in (below nth at) (own_in (λ name f. plain_fresh space d es i place name undefined f)
    (λ name k. plain_known space d es i place name k) own) (plain_sound space d es i place unused undefined s)

named_first : (space made : List ℕ) (d : Data) (es : List Entry) (e : SchemaFault) → Defines space d made
    → lookup made es ≡ None → FirstAmong (parts_in space d) (put made None es) e → FirstIn space d es e
named_first space made d es e makes new (first_among {i} {place} nth at own s) =
    first_in (below nth at) (own_in (λ name f. named_fresh space made d es i place name makes f)
    (λ name k. named_known space made d es i place name makes k) own) (named_sound space made d es i place makes new
    s)

one_first : (n : Node) (ns : List Node) (es : List Entry) (e : SchemaFault) → FirstIn n.0 n.1 es e
    → FirstAmong (n ∷ ns) es e
one_first n ns es e (first_in {place} at own s) =
    first_among first_part at (own_in (λ name f. first_fresh n ns es place name f) (λ name k. first_known n ns es place
    name k) own) (first_sound n ns es place s)

later_first : (n : Node) (ns : List Node) (es fs : List Entry) (t : Tree) (e : SchemaFault) → Took n.0 n.1 es t fs
    → FirstAmong ns fs e → FirstAmong (n ∷ ns) es e
later_first n ns es fs t e one (first_among {i} {place} nth at own s) =
    first_among (later_part nth) at (own_in (λ name f. later_fresh n ns es fs t i place name one f)
    (λ name k. later_known n ns es fs t i place name one k) own) (later_sound n ns es fs t i place one s)

mutual
  fails_first : {space : List ℕ} {d : Data} {es : List Entry} {e : SchemaFault} → Failed space d es e
      → FirstIn space d es e
  fails_first (failed_other {space} {d} {es} {e} h) = here space d es e (own_other h)
  fails_first (failed_use {space} {name} {d} {es} {e} f u l) = here space d es e
      (own_use f u (l, λ b. none_before_root space d [] name refl b))
  fails_first (failed_name {space} {d} {es} {x} {e} f makes l) = here space d es e (own_name f makes (inl (x, l)))
  fails_first (failed_id {space} {d} {es} {ds} {e} f k there twice) = here space d es e (own_id f (ds, k, there, twice))
  fails_first (failed_plain {space} {d} {es} {e} a b parts) = plain_first space d es e a b (among_first parts)
  fails_first (failed_named {space} {own} {d} {es} {e} makes new parts) = named_first space own d es e makes new
      (among_first parts)

  among_first : {ns : List Node} {es : List Entry} {e : SchemaFault} → FailedIn ns es e → FirstAmong ns es e
  among_first (failed_first {n} {ns} {es} {e} h) = one_first n ns es e (fails_first h)
  among_first (failed_later {n} {ns} {es} {fs} {t} {e} one h) = later_first n ns es fs t e one (among_first h)

-- ---- whole schemas

nothing_known : (name : List ℕ) → Known name [] → ⊥
nothing_known name h = let e : None ≡ Some h.0 = h.1 in absurd cc

before_it : (d : Data) (place name : List ℕ) → UseKnown [] d [] place name → DefinedBefore place [] d name
before_it d place name (inl h) = absurd (nothing_known name h)
before_it d place name (inr h) = h

another_of : (place : List ℕ) (d : Data) (last : List ℕ) (u : Data) (e : SchemaFault) → Another e
    → IsFaultOf place d last u e
another_of place d last u NotJson h = tt
another_of place d last u UnknownType h = tt
another_of place d last u UnknownName h = absurd h
another_of place d last u Recursive h = tt
another_of place d last u TooBig h = tt
another_of place d last u (FieldTwice id) h = absurd h
another_of place d last u Memory h = tt
another_of place d last u NameTwice h = absurd h

fault_of : (place : List ℕ) (d : Data) (last : List ℕ) (u : Data) (e : SchemaFault)
    → Own (Fresh [] d [] place) (UseKnown [] d [] place) last u e → IsFaultOf place d last u e
fault_of place d last u e (own_other h) = another_of place d last u e h
fault_of place d last u e (own_use {name} is used f) = rw is (name, used, f.1)
fault_of place d last u e (own_name {name} is made k) = rw is (name, made, before_it d place name k)
fault_of place d last u e (own_id is twice) = rw is twice

found_first : (d : Data) (e : SchemaFault) → FirstIn [] d [] e → HasFirst d e
found_first d e (first_in {place} {last} {u} at own s) = (
  place,
  last,
  u,
  at,
  fault_of place d last u e own,
  record {
    uses = λ earlier last name u order at h. before_it d earlier name (s.uses earlier last name u order at h);
    definitions = λ earlier own name e order at h. (s.definitions earlier own name e order at h).1;
    ids = λ earlier last e id order at h. s.ids earlier last e id order at h;
  },
)

pub schema_first : (text : List ℕ) (d : Data) (e : SchemaFault) → json_of text ≡ Ok d → schema_of text ≡ Err e
    → HasFirst d e
schema_first text d e is h = found_first d e (fails_first (schema_failed text d e is h))
