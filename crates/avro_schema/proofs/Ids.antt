-- The ids of a record's fields, each beside those in front of it.
use Rattle.std.proofs.Common.{◌≡◌, ◌⊎◌, Bool, true, false, ◌||◌, List, [], ◌∷◌, ◌++◌, Option, Some, None, Ok, Err, refl}
use Rattle.std.proofs.Common.{sym, ap, ◌∙◌}
use mathlib.Core.Logic.{inl, inr}
use Rattle.std.specs.Prelude.{MatchResult, codes, ℤ, if◌then◌else◌}
use Rattle.std.specs.List.{list_any}
use Rattle.std.proofs.lemmas.Bool.Decides.{Decides-int_eq}
use Rattle.serde_json.specs.Data as json
use Rattle.serde_json.specs.Data.{Data, Items}
use Rattle.avro_schema.specs.declared.fault.SchemaFault.{SchemaFault}
use Rattle.avro_schema.specs.declared.fault.SchemaFault.TheVariants.{FieldTwice}
use Rattle.avro_schema.specs.Tree.{Tree}
use Rattle.avro_schema.specs.View.{Part}
use Rattle.avro_schema.specs.Attributes.{id_in}
use Rattle.avro_schema.specs.Reading.{has_id, fresh}
use Rattle.avro_schema.specs.Inside.{Among, first, later}
use Rattle.avro_schema.specs.Faults.{IdTwice, with_later, among_later}

abbrev pub Front : ℤ → List Part → Type 0
Front id front = list_any (has_id id) front ≡ true

or_left : (b c : Bool) → b ≡ true → (b || c) ≡ true
or_left true c h = refl
or_left false c h = absurd cc

or_right : (b c : Bool) → c ≡ true → (b || c) ≡ true
or_right true c h = refl
or_right false c h = h

or_more : (a b c : Bool) → (b ≡ true → c ≡ true) → (a || b) ≡ true → (a || c) ≡ true
or_more true b c f h = refl
or_more false b c f h = f h

or_apart : (a b c d : Bool) → (b ≡ true → (c ≡ true) ⊎ (d ≡ true)) → (a || b) ≡ true → ((a || c) ≡ true) ⊎ (d ≡ true)
or_apart true b c d f h = inl refl
or_apart false b c d f h = f h

or_none : (b : Bool) → (b || false) ≡ true → (false ≡ true) ⊎ (b ≡ true)
or_none true h = inr refl
or_none false h = absurd cc

has_own : (id : ℤ) (o : Option ℤ) (t : Tree) → o ≡ Some id → has_id id (o, t) ≡ true
has_own id o t is = rw is ((Decides-int_eq id id).1 refl)

own_has : (id : ℤ) (o : Option ℤ) (t : Tree) → has_id id (o, t) ≡ true → o ≡ Some id
own_has id None t h = absurd cc
own_has id (Some x) t h = ap Some ((Decides-int_eq x id).0 h)

front_last : (id : ℤ) (front : List Part) (p : Part) → has_id id p ≡ true → Front id (front ++ p ∷ [])
front_last id [] p h = or_left (has_id id p) false h
front_last id (q ∷ front) p h = or_right (has_id id q) (list_any (has_id id) (front ++ p ∷ []))
    (front_last id front p h)

front_on : (id : ℤ) (front : List Part) (p : Part) → Front id front → Front id (front ++ p ∷ [])
front_on id [] p h = absurd cc
front_on id (q ∷ front) p h = or_more (has_id id q) (list_any (has_id id) front)
    (list_any (has_id id) (front ++ p ∷ [])) (front_on id front p) h

last_front : (id : ℤ) (front : List Part) (p : Part) → Front id (front ++ p ∷ [])
    → Front id front ⊎ (has_id id p ≡ true)
last_front id [] p h = or_none (has_id id p) h
last_front id (q ∷ front) p h = or_apart (has_id id q) (list_any (has_id id) (front ++ p ∷ []))
    (list_any (has_id id) front) (has_id id p) (last_front id front p) h

-- ---- one field

abbrev pub FreshIn : Data → List Part → Type 0
FreshIn d front = (id : ℤ) → id_in (codes "field-id") d ≡ Some id → Front id front → ⊥

abbrev pub HadId : Data → List Part → SchemaFault → Type 0
HadId d front e = (id : ℤ) × ((e ≡ FieldTwice id) × ((id_in (codes "field-id") d ≡ Some id) × Front id front))

not_there : (id other : ℤ) (front : List Part) → id ≡ other → list_any (has_id id) front ≡ false → Front other front → ⊥
not_there id other front same h there = let no : false ≡ true = sym h ∙ ap (λ (z : ℤ). list_any (has_id z) front) same ∙
    there in absurd cc

pub fresh_tells : (d : Data) (o : Option ℤ) (front : List Part) → id_in (codes "field-id") d ≡ o
    → MatchResult (fresh o front) (λ x. (x ≡ o) × FreshIn d front) (HadId d front)
fresh_tells d None front is = (refl, λ id own h. let e : None ≡ Some id = sym is ∙ own in absurd cc)
fresh_tells d (Some id) front is = or_not (list_any (has_id id) front) refl
  where
    or_not : (b : Bool) → list_any (has_id id) front ≡ b → MatchResult (if b then Err (FieldTwice id) else Ok (Some id))
        (λ x. (x ≡ Some id) × FreshIn d front) (HadId d front)
    or_not true h = (id, (refl, (is, h)))
    or_not false h = (
      refl,
      λ other own there. let e : Some id ≡ Some other = sym is ∙ own in let same : id ≡ other =
          cc in not_there id other front same h there,
    )

-- ---- all fields

-- an item has the id
abbrev pub HeldBy : ℤ → Items → Type 0
HeldBy id ds = (f : Data) × (Among f ds × (id_in (codes "field-id") f ≡ Some id))

abbrev pub IdsApart : List Part → Items → Type 0
IdsApart front ds = ((id : ℤ) → IdTwice id ds → ⊥) × ((id : ℤ) → Front id front → HeldBy id ds → ⊥)

abbrev pub IdHad : List Part → Items → SchemaFault → Type 0
IdHad front ds e = (id : ℤ) × ((e ≡ FieldTwice id) × (IdTwice id ds ⊎ (Front id front × HeldBy id ds)))

none_twice : (id : ℤ) (ds : Items) → ds ≡ json.no_items → IdTwice id ds → ⊥
none_twice id ds e (with_later i a j) = absurd cc
none_twice id ds e (among_later h) = absurd cc

none_held : (d : Data) (ds : Items) → ds ≡ json.no_items → Among d ds → ⊥
none_held d ds e first = absurd cc
none_held d ds e (later a) = absurd cc

pub none_apart : (front : List Part) → IdsApart front json.no_items
none_apart front = (
  λ id h. none_twice id json.no_items refl h,
  λ id there held. none_held held.0 json.no_items refl
      held.1.0,
)

apart_twice : (d : Data) (ds : Items) (front : List Part) (t : Tree) (id : ℤ)
    → IdsApart (front ++ (id_in (codes "field-id") d, t) ∷ []) ds → IdTwice id (json.item d ds) → ⊥
apart_twice d ds front t id rest (with_later {e} own among other) =
    rest.1 id (front_last id front (id_in (codes "field-id") d, t) (has_own id (id_in (codes "field-id") d) t own))
    (e, (among, other))
apart_twice d ds front t id rest (among_later h) = rest.0 id h

apart_held : (d f : Data) (ds : Items) (front : List Part) (t : Tree) (id : ℤ) → FreshIn d front
    → IdsApart (front ++ (id_in (codes "field-id") d, t) ∷ []) ds → Front id front → Among f (json.item d ds)
    → id_in (codes "field-id") f ≡ Some id → ⊥
apart_held d f ds front t id new rest there first own = new id own there
apart_held d f ds front t id new rest there (later among) own =
    rest.1 id (front_on id front (id_in (codes "field-id") d, t) there) (f, (among, own))

pub apart_on : (d : Data) (ds : Items) (front : List Part) (t : Tree) → FreshIn d front
    → IdsApart (front ++ (id_in (codes "field-id") d, t) ∷ []) ds → IdsApart front (json.item d ds)
apart_on d ds front t new rest = (
  λ id h. apart_twice d ds front t id rest h,
  λ id there held. apart_held d held.0 ds
      front t id new rest there held.1.0 held.1.1,
)

had_back : (d : Data) (ds : Items) (front : List Part) (t : Tree) (id : ℤ) → HeldBy id ds
    → Front id front ⊎ (has_id id (id_in (codes "field-id") d, t) ≡ true)
    → IdTwice id (json.item d ds) ⊎ (Front id front × HeldBy id (json.item d ds))
had_back d ds front t id held (inl there) = inr (there, (held.0, (later held.1.0, held.1.1)))
had_back d ds front t id held (inr own) = inl (with_later (own_has id (id_in (codes "field-id") d) t own) held.1.0
    held.1.1)

pub had_on : (d : Data) (ds : Items) (front : List Part) (t : Tree) (e : SchemaFault) (id : ℤ) → e ≡ FieldTwice id
    → IdTwice id ds ⊎ (Front id (front ++ (id_in (codes "field-id") d, t) ∷ []) × HeldBy id ds)
    → IdHad front (json.item d ds) e
had_on d ds front t e id is (inl h) = (id, (is, inl (among_later h)))
had_on d ds front t e id is (inr h) = (
  id,
  (
    is,
    had_back d ds front t id h.1
        (last_front id front (id_in (codes "field-id") d, t) h.0),
  ),
)

pub nothing_before : (ds : Items) (id : ℤ) → IdTwice id ds ⊎ (Front id [] × HeldBy id ds) → IdTwice id ds
nothing_before ds id (inl h) = h
nothing_before ds id (inr h) = absurd (let no : false ≡ true = h.0 in cc)
