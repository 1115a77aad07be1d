-- What follows from the rules of `Trace` for a type that was read: its shape, and which names are known when.
use Rattle.std.proofs.Common.{◌≡◌, ◌⊎◌, ◌<◌, ℕ, suc, List, [], ◌∷◌, Option, Some, None, refl, sym, ap, ◌∙◌, arith}
use mathlib.Core.Logic.{inl, inr}
use Rattle.serde_json.specs.Data.{Data}
use Rattle.avro_schema.specs.declared.attributes.Kind.TheVariants as kind
use Rattle.avro_schema.specs.Tree.{Tree}
use Rattle.avro_schema.specs.Names.{Entry, lookup, put, full}
use Rattle.avro_schema.specs.Inside.{Uses, a_text, a_type, Defines}
use Rattle.avro_schema.specs.Order.{Node, parts_in, Nth, first_part, later_part, At, root, below, Before, around}
use Rattle.avro_schema.specs.Order.{left_of, in_one, DefinedIn, defined_in, DefinedBefore, defined_before}
use Rattle.avro_schema.specs.Stands.{Meaning, Stands, used_name}
use Rattle.avro_schema.proofs.Kept.{lookup-put_same}
use Rattle.avro_schema.proofs.Holding.{uses_kind, uses_no_definition, one_definition, parts_use}
use Rattle.avro_schema.proofs.Trace.{AllStand, all_none, all_next, NoIdTwice, Closes, Took, took_use, took_plain}
use Rattle.avro_schema.proofs.Trace.{took_named, TookAll, took_none, took_next}
use Rattle.avro_schema.proofs.Traced.{put_elsewhere}

-- ---- one name

abbrev pub Known : List ℕ → List Entry → Type 0
Known name es = (x : Option Tree) × (lookup name es ≡ Some x)

pub not_both : {A : Type 0} (o : Option A) (x : A) → o ≡ None → o ≡ Some x → ⊥
not_both o x h k = let e : None ≡ Some x = sym h ∙ k in absurd cc

pub not_open : (o : Option (Option Tree)) (t : Tree) → o ≡ Some None → o ≡ Some (Some t) → ⊥
not_open o t h k = let e : Some None ≡ Some (Some t) = sym h ∙ k in absurd cc

pub name_is : (name own : List ℕ) (es : List Entry) (o : Option (Option Tree)) → name ≡ own → lookup own es ≡ o
    → lookup name es ≡ o
name_is name own es o same h = ap (λ (z : List ℕ). lookup z es) same ∙ h

-- what is known of a name stays
abbrev pub Stays : List Entry → List Entry → Type 0
Stays es fs = (name : List ℕ) (x : Option Tree) → lookup name es ≡ Some x → lookup name fs ≡ Some x

pub unknown_before : (name : List ℕ) (es fs : List Entry) → Stays es fs → lookup name fs ≡ None → lookup name es ≡ None
unknown_before name es fs stays none = before (lookup name es) refl
  where
    before : (o : Option (Option Tree)) → lookup name es ≡ o → lookup name es ≡ None
    before None h = h
    before (Some x) h = absurd (not_both (lookup name fs) x none (stays name x h))

opens : (own : List ℕ) (es : List Entry) → lookup own es ≡ None → Stays es (put own None es)
opens own es new name x h = at (put_elsewhere name own None es)
  where
    at : (name ≡ own) ⊎ (lookup name (put own None es) ≡ lookup name es) → lookup name (put own None es) ≡ Some x
    at (inl same) = absurd (not_both (lookup name es) x (name_is name own es None same new) h)
    at (inr e) = e ∙ h

-- what is known inside a definition and was not its own name
pub known_outside : (own name : List ℕ) (es : List Entry) (x : Option Tree) → lookup name (put own None es) ≡ Some x
    → (name ≡ own) ⊎ (lookup name es ≡ Some x)
known_outside own name es x h = at (put_elsewhere name own None es)
  where
    at : (name ≡ own) ⊎ (lookup name (put own None es) ≡ lookup name es) → (name ≡ own) ⊎ (lookup name es ≡ Some x)
    at (inl same) = inl same
    at (inr e) = inr (sym e ∙ h)

pub unknown_outside : (own name : List ℕ) (es : List Entry) → lookup name (put own None es) ≡ None
    → (name ≡ own → ⊥) × (lookup name es ≡ None)
unknown_outside own name es h = (
  λ same. not_both (lookup name (put own None es)) None h
      (name_is name own (put own None es) (Some None) same (lookup-put_same own None es)),
  at (put_elsewhere name own None
      es),
)
  where
    at : (name ≡ own) ⊎ (lookup name (put own None es) ≡ lookup name es) → lookup name es ≡ None
    at (inl same) = absurd (not_both (lookup name (put own None es)) None h (name_is name own (put own None es)
        (Some None) same (lookup-put_same own None es)))
    at (inr e) = sym e ∙ h

close_keeps : (own name : List ℕ) (t : Tree) (es fs gs : List Entry) (x : Option Tree) → lookup own es ≡ None
    → Closes own t fs gs → lookup name es ≡ Some x → lookup name fs ≡ Some x → lookup name gs ≡ Some x
close_keeps own name t es fs gs x new closed was h = at (closed.1 name)
  where
    at : (name ≡ own) ⊎ (lookup name gs ≡ lookup name fs) → lookup name gs ≡ Some x
    at (inl same) = absurd (not_both (lookup name es) x (name_is name own es None same new) was)
    at (inr e) = e ∙ h

mutual
  pub took_stays : {space : List ℕ} {d : Data} {es fs : List Entry} {t : Tree} → Took space d es t fs → Stays es fs
  took_stays (took_use u l) = λ name x h. h
  took_stays (took_plain a b c all builds) = all_stay all
  took_stays (took_named {own} {es} {fs} {gs} {t} makes new ids all closed builds) = λ name x h. close_keeps own name t
      es fs gs x new closed h (all_stay all name x (opens own es new name x h))

  pub all_stay : {ns : List Node} {es fs : List Entry} {ts : List Tree} → TookAll ns es ts fs → Stays es fs
  all_stay took_none = λ name x h. h
  all_stay (took_next one rest) = λ name x h. all_stay rest name x (took_stays one name x h)

-- ---- the shape

-- the meaning of the names that are known
abbrev pub Agrees : Meaning → List Entry → Type 0
Agrees names es = (name : List ℕ) (t : Tree) → lookup name es ≡ Some (Some t) → names name ≡ Some t

pub agrees_before : (names : Meaning) (es fs : List Entry) → Stays es fs → Agrees names fs → Agrees names es
agrees_before names es fs stays agree = λ name t h. agree name t (stays name (Some t) h)

-- the definition's own name is open inside it
still_open : {ns : List Node} {ts : List Tree} (own : List ℕ) (es fs : List Entry) → TookAll ns (put own None es) ts fs
    → lookup own fs ≡ Some None
still_open own es fs all = all_stay all own None (lookup-put_same own None es)

closed_other : (own name : List ℕ) (t u : Tree) (fs gs : List Entry) → lookup own fs ≡ Some None → Closes own t fs gs
    → lookup name fs ≡ Some (Some u) → lookup name gs ≡ Some (Some u)
closed_other own name t u fs gs opened closed h = at (closed.1 name)
  where
    at : (name ≡ own) ⊎ (lookup name gs ≡ lookup name fs) → lookup name gs ≡ Some (Some u)
    at (inl same) = absurd (not_open (lookup name fs) u (name_is name own fs (Some None) same opened) h)
    at (inr e) = e ∙ h

agrees_inside : (names : Meaning) (own : List ℕ) (t : Tree) (fs gs : List Entry) → lookup own fs ≡ Some None
    → Closes own t fs gs → Agrees names gs → Agrees names fs
agrees_inside names own t fs gs opened closed agree = λ name u h. agree name u (closed_other own name t u fs gs opened
    closed h)

mutual
  pub took_stands : {space : List ℕ} {d : Data} {es fs : List Entry} {t : Tree} → Took space d es t fs
      → (names : Meaning) → Agrees names fs → Stands names space d t
  took_stands (took_use {name} {t} u l) names agree = used_name u (agree name t l)
  took_stands (took_plain a b c all builds) names agree = builds names (all_stand all names agree)
  took_stands (took_named {own} {es} {fs} {gs} {t} makes new ids all closed builds) names agree = builds names
      (all_stand all names (agrees_inside names own t fs gs (still_open own es fs all) closed agree))

  all_stand : {ns : List Node} {es fs : List Entry} {ts : List Tree} → TookAll ns es ts fs → (names : Meaning)
      → Agrees names fs → AllStand names ns ts
  all_stand took_none names agree = all_none
  all_stand (took_next {fs} {gs} one rest) names agree =
      all_next (took_stands one names (agrees_before names fs gs (all_stay rest) agree)) (all_stand rest names agree)

-- ---- definitions

pub no_nth : (i : ℕ) (n : Node) (ns : List Node) → ns ≡ [] → Nth i n ns → ⊥
no_nth i n ns e first_part = absurd cc
no_nth i n ns e (later_part h) = absurd cc

-- nothing stands in a use
pub use_alone : (space name : List ℕ) (d : Data) (i : ℕ) (n : Node) → Uses space d name → Nth i n (parts_in space d) → ⊥
use_alone space name d i n u nth = no_nth i n (parts_in space d) (parts_use space name d u) nth

-- what a definition inside left
abbrev pub Left : List ℕ → Data → List ℕ → List Entry → Type 0
Left last e name fs = (u : Tree) × ((lookup name fs ≡ Some (Some u)) × ((names : Meaning) → Agrees names fs
    → Stands names last e u))

left_on : (last name : List ℕ) (e : Data) (fs gs : List Entry) → Stays fs gs → Left last e name fs → Left last e name gs
left_on last name e fs gs stays left = (
  left.0,
  (
    stays name (Some left.0) left.1.0,
    λ names agree. left.1.1 names
        (agrees_before names fs gs stays agree),
  ),
)

left_closed : (last own name : List ℕ) (e : Data) (t : Tree) (fs gs : List Entry) → lookup own fs ≡ Some None
    → Closes own t fs gs → Left last e name fs → Left last e name gs
left_closed last own name e t fs gs opened closed left = (
  left.0,
  (
    closed_other own name t left.0 fs gs opened closed
        left.1.0,
    λ names agree. left.1.1 names (agrees_inside names own t fs gs opened closed agree),
  ),
)

mutual
  pub took_defined : {space : List ℕ} {d : Data} {es fs : List Entry} {t : Tree} → Took space d es t fs
      → (place last : List ℕ) (e : Data) (name : List ℕ) → At place space d last e → Defines last e name
      → Left last e name fs
  took_defined (took_use {space} {name = own} {d} u l) place last e name root h = absurd (uses_no_definition space own d
      name u h)
  took_defined (took_use {space} {name = own} {d} u l) place last e name (below {i} {n} nth at) h =
      absurd (use_alone space own d i n u nth)
  took_defined (took_plain a b c all builds) place last e name root h = absurd (b name h)
  took_defined (took_plain a b c all builds) place last e name (below {i} {place = further} {n} nth at) h =
      all_defined all i n further last e name nth at h
  took_defined (took_named {space} {own} {d} {es} {fs} {gs} {t} makes new ids all closed builds) place last e name root
      h = (
        t,
        (
          name_is name own gs (Some (Some t)) (one_definition space d name own h makes) closed.0,
          λ names agree.
              took_stands (took_named makes new ids all closed builds) names agree,
        ),
      )
  took_defined (took_named {space} {own} {d} {es} {fs} {gs} {t} makes new ids all closed builds) place last e name
      (below {i} {place = further} {n} nth at) h =
      left_closed last own name e t fs gs (still_open own es fs all) closed (all_defined all i n further last e name nth
      at h)

  all_defined : {ns : List Node} {es fs : List Entry} {ts : List Tree} → TookAll ns es ts fs
      → (i : ℕ) (n : Node) (place last : List ℕ) (e : Data) (name : List ℕ) → Nth i n ns → At place n.0 n.1 last e
      → Defines last e name → Left last e name fs
  all_defined took_none i n place last e name nth at h = absurd (no_nth i n [] refl nth)
  all_defined (took_next {fs} {gs} one rest) i n place last e name first_part at h = left_on last name e fs gs
      (all_stay rest) (took_defined one place last e name at h)
  all_defined (took_next one rest) i n place last e name (later_part {i = j} nth) at h = all_defined rest j n place last
      e name nth at h

mutual
  pub took_new : {space : List ℕ} {d : Data} {es fs : List Entry} {t : Tree} → Took space d es t fs
      → (place last : List ℕ) (e : Data) (name : List ℕ) → At place space d last e → Defines last e name
      → lookup name es ≡ None
  took_new (took_use {space} {name = own} {d} u l) place last e name root h = absurd (uses_no_definition space own d
      name u h)
  took_new (took_use {space} {name = own} {d} u l) place last e name (below {i} {n} nth at) h =
      absurd (use_alone space own d i n u nth)
  took_new (took_plain a b c all builds) place last e name root h = absurd (b name h)
  took_new (took_plain a b c all builds) place last e name (below {i} {place = further} {n} nth at) h = all_new all i n
      further last e name nth at h
  took_new (took_named {space} {own} {d} {es} makes new ids all closed builds) place last e name root h = name_is name
      own es None (one_definition space d name own h makes) new
  took_new (took_named {space} {own} {d} {es} makes new ids all closed builds) place last e name
      (below {i} {place = further} {n} nth at) h = (unknown_outside own name es (all_new all i n further last e name nth
      at h)).1

  all_new : {ns : List Node} {es fs : List Entry} {ts : List Tree} → TookAll ns es ts fs
      → (i : ℕ) (n : Node) (place last : List ℕ) (e : Data) (name : List ℕ) → Nth i n ns → At place n.0 n.1 last e
      → Defines last e name → lookup name es ≡ None
  all_new took_none i n place last e name nth at h = absurd (no_nth i n [] refl nth)
  all_new (took_next one rest) i n place last e name first_part at h = took_new one place last e name at h
  all_new (took_next {es} {fs} one rest) i n place last e name (later_part {i = j} nth) at h = unknown_before name es fs
      (took_stays one) (all_new rest j n place last e name nth at h)

-- ---- where a name that is known comes from

-- somewhere in the parts the name is defined
pub data DefinedAmong : List Node → List ℕ → Type 0 where
  defined_among : {i : ℕ} {n : Node} {ns : List Node} {name : List ℕ} → Nth i n ns → DefinedIn n.0 n.1 name
      → DefinedAmong ns name

pub defined_below : (space : List ℕ) (d : Data) (name : List ℕ) → DefinedAmong (parts_in space d) name
    → DefinedIn space d name
defined_below space d name (defined_among nth (defined_in at h)) = defined_in (below nth at) h

defined_later : (n : Node) (ns : List Node) (name : List ℕ) → DefinedAmong ns name → DefinedAmong (n ∷ ns) name
defined_later n ns name (defined_among nth h) = defined_among (later_part nth) h

own_defined : (space : List ℕ) (d : Data) (own name : List ℕ) → Defines space d own → name ≡ own
    → DefinedIn space d name
own_defined space d own name makes same = defined_in root (rw same makes)

plain_origin : (space : List ℕ) (d : Data) (es : List Entry) (name : List ℕ) (x : Option Tree)
    → (lookup name es ≡ Some x) ⊎ DefinedAmong (parts_in space d) name
    → (lookup name es ≡ Some x) ⊎ DefinedIn space d name
plain_origin space d es name x (inl h) = inl h
plain_origin space d es name x (inr h) = inr (defined_below space d name h)

outer_origin : (space own : List ℕ) (d : Data) (es : List Entry) (name : List ℕ) (x : Option Tree) → Defines space d own
    → (name ≡ own) ⊎ (lookup name es ≡ Some x) → (lookup name es ≡ Some x) ⊎ DefinedIn space d name
outer_origin space own d es name x makes (inl same) = inr (own_defined space d own name makes same)
outer_origin space own d es name x makes (inr h) = inl h

inner_origin : (space own : List ℕ) (d : Data) (es : List Entry) (name : List ℕ) (x : Option Tree) → Defines space d own
    → (lookup name (put own None es) ≡ Some x) ⊎ DefinedAmong (parts_in space d) name
    → (lookup name es ≡ Some x) ⊎ DefinedIn space d name
inner_origin space own d es name x makes (inl h) = outer_origin space own d es name x makes (known_outside own name es x
    h)
inner_origin space own d es name x makes (inr h) = inr (defined_below space d name h)

named_origin : (space own : List ℕ) (d : Data) (es fs gs : List Entry) (name : List ℕ) (x : Option Tree)
    → Defines space d own → lookup name gs ≡ Some x
    → (lookup name fs ≡ Some x → (lookup name (put own None es) ≡ Some x) ⊎ DefinedAmong (parts_in space d) name)
    → (name ≡ own) ⊎ (lookup name gs ≡ lookup name fs) → (lookup name es ≡ Some x) ⊎ DefinedIn space d name
named_origin space own d es fs gs name x makes h from (inl same) = inr (own_defined space d own name makes same)
named_origin space own d es fs gs name x makes h from (inr e) = inner_origin space own d es name x makes
    (from (sym e ∙ h))

first_origin : (n : Node) (ns : List Node) (es : List Entry) (name : List ℕ) (x : Option Tree)
    → (lookup name es ≡ Some x) ⊎ DefinedIn n.0 n.1 name → (lookup name es ≡ Some x) ⊎ DefinedAmong (n ∷ ns) name
first_origin n ns es name x (inl h) = inl h
first_origin n ns es name x (inr h) = inr (defined_among first_part h)

next_origin : (n : Node) (ns : List Node) (es fs : List Entry) (name : List ℕ) (x : Option Tree)
    → (lookup name fs ≡ Some x) ⊎ DefinedAmong ns name
    → (lookup name fs ≡ Some x → (lookup name es ≡ Some x) ⊎ DefinedIn n.0 n.1 name)
    → (lookup name es ≡ Some x) ⊎ DefinedAmong (n ∷ ns) name
next_origin n ns es fs name x (inl h) from = first_origin n ns es name x (from h)
next_origin n ns es fs name x (inr h) from = inr (defined_later n ns name h)

mutual
  pub took_origin : {space : List ℕ} {d : Data} {es fs : List Entry} {t : Tree} → Took space d es t fs
      → (name : List ℕ) (x : Option Tree) → lookup name fs ≡ Some x → (lookup name es ≡ Some x) ⊎ DefinedIn space d name
  took_origin (took_use u l) name x h = inl h
  took_origin (took_plain {space} {d} {es} a b c all builds) name x h = plain_origin space d es name x
      (all_origin all name x h)
  took_origin (took_named {space} {own} {d} {es} {fs} {gs} makes new ids all closed builds) name x h = named_origin
      space own d es fs gs name x makes h (λ k. all_origin all name x k) (closed.1 name)

  pub all_origin : {ns : List Node} {es fs : List Entry} {ts : List Tree} → TookAll ns es ts fs
      → (name : List ℕ) (x : Option Tree) → lookup name fs ≡ Some x → (lookup name es ≡ Some x) ⊎ DefinedAmong ns name
  all_origin took_none name x h = inl h
  all_origin (took_next {n} {ns} {es} {fs} one rest) name x h = next_origin n ns es fs name x (all_origin rest name x h)
      (λ k. took_origin one name x k)

-- ---- the order

-- a part defines the name before a place in the part with this number
pub data BeforeAmong : List Node → ℕ → List ℕ → List ℕ → Type 0 where
  before_among : {ns : List Node} {i j : ℕ} {place earlier last name : List ℕ} {n : Node} {e : Data}
      → Before (j ∷ earlier) (i ∷ place) → Nth j n ns → At earlier n.0 n.1 last e → Defines last e name
      → BeforeAmong ns i place name

pub before_below : (space : List ℕ) (d : Data) (i : ℕ) (place name : List ℕ)
    → BeforeAmong (parts_in space d) i place name → DefinedBefore (i ∷ place) space d name
before_below space d i place name (before_among order nth at h) = defined_before order (below nth at) h

later_order : (i j : ℕ) (place earlier : List ℕ) → Before (j ∷ earlier) (i ∷ place)
    → Before (suc j ∷ earlier) (suc i ∷ place)
later_order i j place earlier (left_of lt) = left_of (omega (arith, lt))
later_order i j place earlier (in_one h) = in_one h

pub before_later : (n : Node) (ns : List Node) (i : ℕ) (place name : List ℕ) → BeforeAmong ns i place name
    → BeforeAmong (n ∷ ns) (suc i) place name
before_later n ns i place name (before_among {j} {earlier} order nth at h) = before_among (later_order i j place earlier
    order) (later_part nth) at h

pub before_first : (n : Node) (ns : List Node) (place name : List ℕ) → DefinedBefore place n.0 n.1 name
    → BeforeAmong (n ∷ ns) 0 place name
before_first n ns place name (defined_before order at h) = before_among (in_one order) first_part at h

pub whole_first : (n : Node) (ns : List Node) (i : ℕ) (place name : List ℕ) → DefinedIn n.0 n.1 name
    → BeforeAmong (n ∷ ns) (suc i) place name
whole_first n ns i place name (defined_in at h) = let lt : 0 < suc i = omega arith in before_among (left_of lt)
    first_part at h

-- ---- uses

pub one_use : (space : List ℕ) (d : Data) (name other : List ℕ) → Uses space d name → Uses space d other → name ≡ other
one_use space d name other (a_text w p) (a_text v q) = refl
one_use space d name other (a_text w p) (a_type type v q) = absurd cc
one_use space d name other (a_type type w p) (a_text v q) = absurd cc
one_use space d name other (a_type {word} type w p) (a_type {word = same} again v q) =
    let e : Some word ≡ Some same = sym type ∙ again in
    let f : word ≡ same = cc in ap (full space) f

-- known before the type, or defined in it before the place
abbrev pub UseKnown : List ℕ → Data → List Entry → List ℕ → List ℕ → Type 0
UseKnown space d es place name = Known name es ⊎ DefinedBefore place space d name

pub plain_known : (space : List ℕ) (d : Data) (es : List Entry) (i : ℕ) (place name : List ℕ)
    → Known name es ⊎ BeforeAmong (parts_in space d) i place name → UseKnown space d es (i ∷ place) name
plain_known space d es i place name (inl h) = inl h
plain_known space d es i place name (inr h) = inr (before_below space d i place name h)

outer_known : (space own : List ℕ) (d : Data) (es : List Entry) (i : ℕ) (place name : List ℕ) (x : Option Tree)
    → Defines space d own → (name ≡ own) ⊎ (lookup name es ≡ Some x) → UseKnown space d es (i ∷ place) name
outer_known space own d es i place name x makes (inl same) = inr (defined_before around root (rw same makes))
outer_known space own d es i place name x makes (inr h) = inl (x, h)

pub named_known : (space own : List ℕ) (d : Data) (es : List Entry) (i : ℕ) (place name : List ℕ) → Defines space d own
    → Known name (put own None es) ⊎ BeforeAmong (parts_in space d) i place name → UseKnown space d es (i ∷ place) name
named_known space own d es i place name makes (inl h) = outer_known space own d es i place name h.0 makes
    (known_outside own name es h.0 h.1)
named_known space own d es i place name makes (inr h) = inr (before_below space d i place name h)

pub first_known : (n : Node) (ns : List Node) (es : List Entry) (place name : List ℕ) → UseKnown n.0 n.1 es place name
    → Known name es ⊎ BeforeAmong (n ∷ ns) 0 place name
first_known n ns es place name (inl h) = inl h
first_known n ns es place name (inr h) = inr (before_first n ns place name h)

from_first : (n : Node) (ns : List Node) (es : List Entry) (i : ℕ) (place name : List ℕ) (x : Option Tree)
    → (lookup name es ≡ Some x) ⊎ DefinedIn n.0 n.1 name → Known name es ⊎ BeforeAmong (n ∷ ns) (suc i) place name
from_first n ns es i place name x (inl h) = inl (x, h)
from_first n ns es i place name x (inr h) = inr (whole_first n ns i place name h)

pub later_known : (n : Node) (ns : List Node) (es fs : List Entry) (t : Tree) (i : ℕ) (place name : List ℕ)
    → Took n.0 n.1 es t fs → Known name fs ⊎ BeforeAmong ns i place name
    → Known name es ⊎ BeforeAmong (n ∷ ns) (suc i) place name
later_known n ns es fs t i place name one (inl h) = from_first n ns es i place name h.0 (took_origin one name h.0 h.1)
later_known n ns es fs t i place name one (inr h) = inr (before_later n ns i place name h)

mutual
  pub took_uses : {space : List ℕ} {d : Data} {es fs : List Entry} {t : Tree} → Took space d es t fs
      → (place last : List ℕ) (e : Data) (name : List ℕ) → At place space d last e → Uses last e name
      → UseKnown space d es place name
  took_uses (took_use {space} {name = own} {d} {es} {t} u l) place last e name root h = inl (
    Some t,
    name_is name own es
        (Some (Some t)) (one_use space d name own h u) l,
  )
  took_uses (took_use {space} {name = own} {d} u l) place last e name (below {i} {n} nth at) h =
      absurd (use_alone space own d i n u nth)
  took_uses (took_plain a b c all builds) place last e name root h = absurd (a name h)
  took_uses (took_plain {space} {d} {es} a b c all builds) place last e name (below {i} {place = further} {n} nth at)
      h = plain_known space d es i further name (all_uses all i n further last e name nth at h)
  took_uses (took_named {space} {own} {d} makes new ids all closed builds) place last e name root h =
      absurd (uses_no_definition space name d own h makes)
  took_uses (took_named {space} {own} {d} {es} makes new ids all closed builds) place last e name
      (below {i} {place = further} {n} nth at) h = named_known space own d es i further name makes
      (all_uses all i n further last e name nth at h)

  all_uses : {ns : List Node} {es fs : List Entry} {ts : List Tree} → TookAll ns es ts fs
      → (i : ℕ) (n : Node) (place last : List ℕ) (e : Data) (name : List ℕ) → Nth i n ns → At place n.0 n.1 last e
      → Uses last e name → Known name es ⊎ BeforeAmong ns i place name
  all_uses took_none i n place last e name nth at h = absurd (no_nth i n [] refl nth)
  all_uses (took_next {n = m} {ns} {es} one rest) i n place last e name first_part at h = first_known m ns es place name
      (took_uses one place last e name at h)
  all_uses (took_next {n = m} {ns} {es} {fs} {t} one rest) i n place last e name (later_part {i = j} nth) at h =
      later_known m ns es fs t j place name one (all_uses rest j n place last e name nth at h)

-- ---- no name and no id twice

pub before_root : (place other : List ℕ) → other ≡ [] → Before place other → ⊥
before_root place other e around = absurd cc
before_root place other e (left_of lt) = absurd cc
before_root place other e (in_one h) = absurd cc

mutual
  pub took_once : {space : List ℕ} {d : Data} {es fs : List Entry} {t : Tree} → Took space d es t fs
      → (name : List ℕ) (early late first last : List ℕ) (e f : Data) → Before early late → At early space d first e
      → Defines first e name → At late space d last f → Defines last f name → ⊥
  took_once (took_use {space} {name = own} {d} u l) name early late first last e f order root h there k =
      uses_no_definition space own d name u h
  took_once (took_use {space} {name = own} {d} u l) name early late first last e f order (below {i} {n} nth at) h there
      k = use_alone space own d i n u nth
  took_once (took_plain a b c all builds) name early late first last e f order root h there k = b name h
  took_once (took_plain a b c all builds) name early late first last e f order (below nth at) h root k = b name k
  took_once (took_plain a b c all builds) name early late first last e f order (below {i} {place = p} {n} nth at) h
      (below {i = j} {place = q} {n = m} mth there) k = all_once all name i j p q n m first last e f order nth at h mth
      there k
  took_once (took_named makes new ids all closed builds) name early late first last e f order root h root k =
      before_root [] [] refl order
  took_once (took_named {space} {own} {d} {es} makes new ids all closed builds) name early late first last e f order
      root h (below {i = j} {place = q} {n = m} mth there) k =
      (unknown_outside own name es (all_new all j m q last f name mth there k)).0 (one_definition space d name own h
      makes)
  took_once (took_named makes new ids all closed builds) name early late first last e f order (below {i} {place = p} nth
      at) h root k = before_root (i ∷ p) [] refl order
  took_once (took_named makes new ids all closed builds) name early late first last e f order (below {i} {place = p} {n}
      nth at) h (below {i = j} {place = q} {n = m} mth there) k = all_once all name i j p q n m first last e f order nth
      at h mth there k

  all_once : {ns : List Node} {es fs : List Entry} {ts : List Tree} → TookAll ns es ts fs
      → (name : List ℕ) (i j : ℕ) (p q : List ℕ) (n m : Node) (first last : List ℕ) (e f : Data)
      → Before (i ∷ p) (j ∷ q) → Nth i n ns → At p n.0 n.1 first e → Defines first e name → Nth j m ns
      → At q m.0 m.1 last f → Defines last f name → ⊥
  all_once took_none name i j p q n m first last e f order nth at h mth there k = no_nth i n [] refl nth
  all_once (took_next one rest) name i j p q n m first last e f (left_of lt) first_part at h first_part there k =
      absurd (omega (arith, lt))
  all_once (took_next one rest) name i j p q n m first last e f (in_one order) first_part at h first_part there k =
      took_once one name p q first last e f order at h there k
  all_once (took_next {fs} one rest) name i j p q n m first last e f order first_part at h (later_part {i = y} mth)
      there k =
      let left : Left first e name fs = took_defined one p first e name at h in
      not_both (lookup name fs) (Some left.0) (all_new rest y m q last f name mth there k) left.1.0
  all_once (took_next one rest) name i j p q n m first last e f (left_of lt) (later_part nth) at h first_part there k =
      absurd (omega (arith, lt))
  all_once (took_next one rest) name i j p q n m first last e f (left_of lt) (later_part {i = x} nth) at h
      (later_part {i = y} mth) there k = let less : x < y = omega (arith, lt) in all_once rest name x y p q n m first
      last e f (left_of less) nth at h mth there k
  all_once (took_next one rest) name i j p q n m first last e f (in_one order) (later_part {i = x} nth) at h
      (later_part {i = y} mth) there k = all_once rest name x y p q n m first last e f (in_one order) nth at h mth there
      k

use_no_ids : (space name : List ℕ) (d : Data) → Uses space d name → NoIdTwice d
use_no_ids space name d u id ds is there twice = uses_kind space name d kind.Record is u

mutual
  pub took_ids : {space : List ℕ} {d : Data} {es fs : List Entry} {t : Tree} → Took space d es t fs
      → (place last : List ℕ) (e : Data) → At place space d last e → NoIdTwice e
  took_ids (took_use {space} {name = own} {d} u l) place last e root = use_no_ids space own d u
  took_ids (took_use {space} {name = own} {d} u l) place last e (below {i} {n} nth at) =
      absurd (use_alone space own d i n u nth)
  took_ids (took_plain a b c all builds) place last e root = c
  took_ids (took_plain a b c all builds) place last e (below {i} {place = further} {n} nth at) = all_ids all i n further
      last e nth at
  took_ids (took_named makes new ids all closed builds) place last e root = ids
  took_ids (took_named makes new ids all closed builds) place last e (below {i} {place = further} {n} nth at) =
      all_ids all i n further last e nth at

  all_ids : {ns : List Node} {es fs : List Entry} {ts : List Tree} → TookAll ns es ts fs
      → (i : ℕ) (n : Node) (place last : List ℕ) (e : Data) → Nth i n ns → At place n.0 n.1 last e → NoIdTwice e
  all_ids took_none i n place last e nth at = absurd (no_nth i n [] refl nth)
  all_ids (took_next one rest) i n place last e first_part at = took_ids one place last e at
  all_ids (took_next one rest) i n place last e (later_part {i = j} nth) at = all_ids rest j n place last e nth at
