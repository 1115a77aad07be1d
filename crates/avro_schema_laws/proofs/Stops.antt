-- Which faults a stop has, in each case.
use Rattle.std.proofs.Common.{◌≡◌, ℕ, List, Bool, true, false, Some, refl, sym, ◌∙◌}
use Rattle.std.specs.Prelude.{codes, ℤ}
use Rattle.serde_json.specs.Data as json
use Rattle.serde_json.specs.Data.{Data, Items}
use Rattle.avro_schema.specs.declared.fault.SchemaFault.{SchemaFault}
use Rattle.avro_schema.specs.declared.fault.SchemaFault.TheVariants.{UnknownType, UnknownName, Recursive, TooBig}
use Rattle.avro_schema.specs.declared.fault.SchemaFault.TheVariants.{FieldTwice, NameTwice}
use Rattle.avro_schema.specs.declared.attributes.Kind.{Kind}
use Rattle.avro_schema.specs.declared.attributes.Kind.TheVariants as kind
use Rattle.avro_schema.specs.Tree.{Tree}
use Rattle.avro_schema.specs.Size.{nodes, depth}
use Rattle.avro_schema.specs.Attributes.{id_in}
use Rattle.avro_schema.specs.Inside.{kind_in, Among, Uses, a_text, a_type, Defines}
use Rattle.avro_schema.specs.Stands.{Meaning}
use Rattle.avro_schema.proofs.Holding.{uses_no_definition}
use Rattle.avro_schema.proofs.Known.{one_use}
use Rattle.avro_schema_laws.specs.Walk.{Place, Stop, at_type, at_field, Walker, inside, in_kind}
use Rattle.avro_schema_laws.specs.Sound.{is_type, has_attributes, is_field}
use Rattle.avro_schema_laws.specs.Faults.{OneOf, Met, NamesOf, IsTooBig, IsSound, IsFault, no_room, no_type, unknown}
use Rattle.avro_schema_laws.specs.Faults.{recursive, no_room_again, twice, no_field, id_twice}
use Rattle.avro_schema_laws.proofs.Passing.{Faultless, Only}

-- ---- types by what their type text says

pub type_kind : (b : Bool) (d : Data) (k : Kind) → kind_in d ≡ Some k → is_type b d ≡ has_attributes (Some k) d
type_kind b json.null k h = absurd cc
type_kind b (json.boolean x) k h = absurd cc
type_kind b (json.number m) k h = absurd cc
type_kind b (json.string x) k h = absurd cc
type_kind b (json.array ds) k h = absurd cc
type_kind b (json.object ms) k h = rw h refl

pub inside_kind : (through : Walker) (records : List (List ℕ)) (space : List ℕ) (d : Data) (k : Kind)
    → kind_in d ≡ Some k → inside through records space d ≡ in_kind through records space (Some k) d
inside_kind through records space json.null k h = absurd cc
inside_kind through records space (json.boolean x) k h = absurd cc
inside_kind through records space (json.number m) k h = absurd cc
inside_kind through records space (json.string x) k h = absurd cc
inside_kind through records space (json.array ds) k h = absurd cc
inside_kind through records space (json.object ms) k h = rw h refl

pub use_type : (b : Bool) (space name : List ℕ) (d : Data) → Uses space d name → is_type b d ≡ true
use_type b space name d (a_text w p) = rw w refl
use_type b space name d (a_type {word} type w p) = type_kind b d kind.Word (rw (type, w) refl)

not_false : (b : Bool) → b ≡ true → b ≡ false → ⊥
not_false b h k = let e : true ≡ false = sym h ∙ k in absurd cc

-- ---- a stop without a fault

-- a name may be used here
pub record Fine (before : List Stop) (p : Place) (name : List ℕ) : Type 0 where
  pub met : Met before name
  pub over : OneOf name p.records → ⊥
  pub fits : (names : Meaning) (t : Tree) → NamesOf before p.records names → names name ≡ Some t
      → IsTooBig before p (nodes t) (depth t) → ⊥

pub type_free : (before : List Stop) (p : Place) (d : Data) → IsSound before p d
    → ((name : List ℕ) → Uses p.space d name → Fine before p name)
    → ((name : List ℕ) → Defines p.space d name → Met before name → ⊥) → Faultless before (at_type p d)
type_free before p d sound uses new f (no_room x) = sound.0 x
type_free before p d sound uses new f (no_type room not_one) = not_false (is_type p.is_branch d) sound.1 not_one
type_free before p d sound uses new f (unknown {name} s u none) = none (uses name u).met
type_free before p d sound uses new f (recursive {name} s u around) = (uses name u).over around
type_free before p d sound uses new f (no_room_again {name} {names} {t} s u met over of is x) = (uses name u).fits
    names t of is x
type_free before p d sound uses new f (twice {name} s makes met) = new name makes met

pub field_free : (before : List Stop) (fs : Items) (f : Data) → is_field f ≡ true
    → ((g : Data) (id : ℤ) → id_in (codes "field-id") f ≡ Some id → Among g fs → id_in (codes "field-id") g ≡ Some id
    → ⊥)
    → Faultless before (at_field fs f)
field_free before fs f sound new e (no_field not_one) = not_false (is_field f) sound not_one
field_free before fs f sound new e (id_twice {g} {id} s own among other) = new g id own among other

-- ---- the only fault of a stop

only_room : (before : List Stop) (p : Place) (d : Data) → IsTooBig before p 1 1 → (f : SchemaFault)
    → IsFault before (at_type p d) f → f ≡ TooBig
only_room before p d x f (no_room y) = refl
only_room before p d x f (no_type room not_one) = absurd (room x)
only_room before p d x f (unknown s u none) = absurd (s.0 x)
only_room before p d x f (recursive s u around) = absurd (s.0 x)
only_room before p d x f (no_room_again s u met over of is y) = refl
only_room before p d x f (twice s makes met) = absurd (s.0 x)

pub has_no_room : (before : List Stop) (p : Place) (d : Data) → IsTooBig before p 1 1
    → Only before (at_type p d) TooBig
has_no_room before p d x = (no_room x, λ f h. only_room before p d x f h)

only_type : (before : List Stop) (p : Place) (d : Data) → (IsTooBig before p 1 1 → ⊥) → is_type p.is_branch d ≡ false
    → (f : SchemaFault) → IsFault before (at_type p d) f → f ≡ UnknownType
only_type before p d room wrong f (no_room x) = absurd (room x)
only_type before p d room wrong f (no_type r not_one) = refl
only_type before p d room wrong f (unknown s u none) = absurd (not_false (is_type p.is_branch d) s.1 wrong)
only_type before p d room wrong f (recursive s u around) = absurd (not_false (is_type p.is_branch d) s.1 wrong)
only_type before p d room wrong f (no_room_again s u met over of is y) = absurd (not_false (is_type p.is_branch d) s.1
    wrong)
only_type before p d room wrong f (twice s makes met) = absurd (not_false (is_type p.is_branch d) s.1 wrong)

pub is_no_type : (before : List Stop) (p : Place) (d : Data) → (IsTooBig before p 1 1 → ⊥)
    → is_type p.is_branch d ≡ false → Only before (at_type p d) UnknownType
is_no_type before p d room wrong = (no_type room wrong, λ f h. only_type before p d room wrong f h)

other_use : (P : List ℕ → Type 0) (space : List ℕ) (d : Data) (name other : List ℕ) → Uses space d name
    → Uses space d other → P other → P name
other_use P space d name other u v h = rw (one_use space d name other u v) h

only_unknown : (before : List Stop) (p : Place) (d : Data) (name : List ℕ) → IsSound before p d → Uses p.space d name
    → (Met before name → ⊥) → (OneOf name p.records → ⊥) → (f : SchemaFault) → IsFault before (at_type p d) f
    → f ≡ UnknownName
only_unknown before p d name sound used none over f (no_room x) = absurd (sound.0 x)
only_unknown before p d name sound used none over f (no_type r wrong) = absurd (not_false (is_type p.is_branch d)
    sound.1 wrong)
only_unknown before p d name sound used none over f (unknown s u n) = refl
only_unknown before p d name sound used none over f (recursive {name = other} s u around) =
    absurd (over (other_use (λ z. OneOf z p.records) p.space d name other used u around))
only_unknown before p d name sound used none over f (no_room_again {name = other} s u met out of is y) =
    absurd (none (other_use (λ z. Met before z) p.space d name other used u met))
only_unknown before p d name sound used none over f (twice {name = other} s makes met) =
    absurd (uses_no_definition p.space name d other used makes)

pub is_unknown : (before : List Stop) (p : Place) (d : Data) (name : List ℕ) → IsSound before p d
    → Uses p.space d name → (Met before name → ⊥) → (OneOf name p.records → ⊥)
    → Only before (at_type p d) UnknownName
is_unknown before p d name sound used none over =
    (unknown sound used none, λ f h. only_unknown before p d name sound used none over f h)

only_recursive : (before : List Stop) (p : Place) (d : Data) (name : List ℕ) → IsSound before p d
    → Uses p.space d name → Met before name → OneOf name p.records → (f : SchemaFault)
    → IsFault before (at_type p d) f → f ≡ Recursive
only_recursive before p d name sound used met around f (no_room x) = absurd (sound.0 x)
only_recursive before p d name sound used met around f (no_type r wrong) = absurd (not_false (is_type p.is_branch d)
    sound.1 wrong)
only_recursive before p d name sound used met around f (unknown {name = other} s u n) =
    absurd (n (other_use (λ z. Met before z) p.space d other name u used met))
only_recursive before p d name sound used met around f (recursive s u there) = refl
only_recursive before p d name sound used met around f (no_room_again {name = other} s u there out of is y) =
    absurd (out (other_use (λ z. OneOf z p.records) p.space d other name u used around))
only_recursive before p d name sound used met around f (twice {name = other} s makes there) =
    absurd (uses_no_definition p.space name d other used makes)

pub is_recursive : (before : List Stop) (p : Place) (d : Data) (name : List ℕ) → IsSound before p d
    → Uses p.space d name → Met before name → OneOf name p.records → Only before (at_type p d) Recursive
is_recursive before p d name sound used met around =
    (recursive sound used around, λ f h. only_recursive before p d name sound used met around f h)

only_again : (before : List Stop) (p : Place) (d : Data) (name : List ℕ) → IsSound before p d → Uses p.space d name
    → Met before name → (OneOf name p.records → ⊥) → (f : SchemaFault) → IsFault before (at_type p d) f → f ≡ TooBig
only_again before p d name sound used met over f (no_room x) = refl
only_again before p d name sound used met over f (no_type r wrong) = absurd (not_false (is_type p.is_branch d) sound.1
    wrong)
only_again before p d name sound used met over f (unknown {name = other} s u n) =
    absurd (n (other_use (λ z. Met before z) p.space d other name u used met))
only_again before p d name sound used met over f (recursive {name = other} s u around) =
    absurd (over (other_use (λ z. OneOf z p.records) p.space d name other used u around))
only_again before p d name sound used met over f (no_room_again s u there out of is y) = refl
only_again before p d name sound used met over f (twice {name = other} s makes there) =
    absurd (uses_no_definition p.space name d other used makes)

pub has_no_room_again : (before : List Stop) (p : Place) (d : Data) (name : List ℕ) (names : Meaning) (t : Tree)
    → IsSound before p d → Uses p.space d name → Met before name → (OneOf name p.records → ⊥)
    → NamesOf before p.records names → names name ≡ Some t → IsTooBig before p (nodes t) (depth t)
    → Only before (at_type p d) TooBig
has_no_room_again before p d name names t sound used met over of is x =
    (no_room_again sound used met over of is x, λ f h. only_again before p d name sound used met over f h)

only_twice : (before : List Stop) (p : Place) (d : Data) (name : List ℕ) → IsSound before p d
    → Defines p.space d name → (f : SchemaFault) → IsFault before (at_type p d) f → f ≡ NameTwice
only_twice before p d name sound makes f (no_room x) = absurd (sound.0 x)
only_twice before p d name sound makes f (no_type r wrong) = absurd (not_false (is_type p.is_branch d) sound.1 wrong)
only_twice before p d name sound makes f (unknown {name = other} s u n) =
    absurd (uses_no_definition p.space other d name u makes)
only_twice before p d name sound makes f (recursive {name = other} s u around) =
    absurd (uses_no_definition p.space other d name u makes)
only_twice before p d name sound makes f (no_room_again {name = other} s u there out of is y) =
    absurd (uses_no_definition p.space other d name u makes)
only_twice before p d name sound makes f (twice s own there) = refl

pub is_twice : (before : List Stop) (p : Place) (d : Data) (name : List ℕ) → IsSound before p d
    → Defines p.space d name → Met before name → Only before (at_type p d) NameTwice
is_twice before p d name sound makes met =
    (twice sound makes met, λ f h. only_twice before p d name sound makes f h)

only_no_field : (before : List Stop) (fs : Items) (f : Data) → is_field f ≡ false → (e : SchemaFault)
    → IsFault before (at_field fs f) e → e ≡ UnknownType
only_no_field before fs f wrong e (no_field not_one) = refl
only_no_field before fs f wrong e (id_twice s own among other) = absurd (not_false (is_field f) s wrong)

pub is_no_field : (before : List Stop) (fs : Items) (f : Data) → is_field f ≡ false
    → Only before (at_field fs f) UnknownType
is_no_field before fs f wrong = (no_field wrong, λ e h. only_no_field before fs f wrong e h)

one_fault : (id other : ℤ) → Some id ≡ Some other → FieldTwice id ≡ FieldTwice other
one_fault id other h = let e : id ≡ other = cc in rw e refl

only_id : (before : List Stop) (fs : Items) (f : Data) (id : ℤ) → is_field f ≡ true
    → id_in (codes "field-id") f ≡ Some id → (e : SchemaFault) → IsFault before (at_field fs f) e → e ≡ FieldTwice id
only_id before fs f id sound own e (no_field wrong) = absurd (not_false (is_field f) sound wrong)
only_id before fs f id sound own e (id_twice {id = other} s same among there) = one_fault other id (sym same ∙ own)

pub has_id_twice : (before : List Stop) (fs : Items) (f g : Data) (id : ℤ) → is_field f ≡ true
    → id_in (codes "field-id") f ≡ Some id → Among g fs → id_in (codes "field-id") g ≡ Some id
    → Only before (at_field fs f) (FieldTwice id)
has_id_twice before fs f g id sound own among other =
    (id_twice sound own among other, λ e h. only_id before fs f id sound own e h)

-- ---- a walk without a fault defines no name that was met

sound_there : (before : List Stop) (p : Place) (d : Data) → Faultless before (at_type p d) → IsSound before p d
sound_there before p d free = (λ x. free TooBig (no_room x), is (is_type p.is_branch d) refl)
  where
    is : (b : Bool) → is_type p.is_branch d ≡ b → is_type p.is_branch d ≡ true
    is true h = h
    is false h = absurd (free UnknownType (no_type (λ x. free TooBig (no_room x)) h))

pub not_again : (before : List Stop) (p : Place) (d : Data) (name : List ℕ) → Faultless before (at_type p d)
    → Defines p.space d name → Met before name → ⊥
not_again before p d name free makes met = free NameTwice (twice (sound_there before p d free) makes met)
