-- What an accepted schema has: its shape, each name defined before its use, and nothing twice.
use Rattle.std.proofs.Common.{◌≡◌, ◌⊎◌, ℕ, List, [], Option, Some, None, Ok, refl}
use mathlib.Core.Logic.{inl, inr}
use Rattle.std.specs.Prelude.{ℤ}
use Rattle.serde_json.specs.Data.{Data}
use Rattle.avro_schema.specs.Tree.{Tree}
use Rattle.avro_schema.specs.Names.{Entry, lookup}
use Rattle.avro_schema.specs.Texts.{json_of, schema_of}
use Rattle.avro_schema.specs.Order.{DefinedIn, DefinedBefore, defined_before}
use Rattle.avro_schema.specs.Stands.{Meaning, Stands, NamesOf}
use Rattle.avro_schema.specs.Faults.{HasUnknownName, unknown_name, HasNameTwice, name_twice, HasIdTwice, id_twice}
use Rattle.avro_schema.proofs.Trace.{Took}
use Rattle.avro_schema.proofs.Known.{Known, Agrees, Left, took_stands, took_defined, took_origin, UseKnown, took_uses}
use Rattle.avro_schema.proofs.Known.{took_once, took_ids}
use Rattle.avro_schema.proofs.Faulty.{schema_took}

-- ---- faults

nothing_known : (name : List ℕ) → Known name [] → ⊥
nothing_known name h = let e : None ≡ Some h.0 = h.1 in absurd cc

found_before : (d : Data) (place name : List ℕ) → UseKnown [] d [] place name → DefinedBefore place [] d name
found_before d place name (inl h) = absurd (nothing_known name h)
found_before d place name (inr h) = h

took_no_unknown : (d : Data) (t : Tree) (fs : List Entry) → Took [] d [] t fs → HasUnknownName [] d → ⊥
took_no_unknown d t fs took (unknown_name {place} {last} {name} {u} at h none) =
    none (found_before d place name (took_uses took place last u name at h))

took_no_twice : (d : Data) (t : Tree) (fs : List Entry) → Took [] d [] t fs → HasNameTwice [] d → ⊥
took_no_twice d t fs took (name_twice {place} {own} {name} {e} at h (defined_before {earlier} {own = first} {e = f}
    order there k)) = took_once took name earlier place first own f e order there k at h

took_no_ids : (d : Data) (t : Tree) (fs : List Entry) (id : ℤ) → Took [] d [] t fs → HasIdTwice id [] d → ⊥
took_no_ids d t fs id took (id_twice {place} {last} {e} {ds} at k there twice) = took_ids took place last e at id ds k
    there twice

pub unknown_refused : (text : List ℕ) (d : Data) (t : Tree) → json_of text ≡ Ok d → schema_of text ≡ Ok t
    → HasUnknownName [] d → ⊥
unknown_refused text d t is ok h = let took = schema_took text d t is ok in took_no_unknown d t took.0 took.1 h

pub twice_refused : (text : List ℕ) (d : Data) (t : Tree) → json_of text ≡ Ok d → schema_of text ≡ Ok t
    → HasNameTwice [] d → ⊥
twice_refused text d t is ok h = let took = schema_took text d t is ok in took_no_twice d t took.0 took.1 h

pub ids_refused : (text : List ℕ) (d : Data) (t : Tree) (id : ℤ) → json_of text ≡ Ok d → schema_of text ≡ Ok t
    → HasIdTwice id [] d → ⊥
ids_refused text d t id is ok h = let took = schema_took text d t is ok in took_no_ids d t took.0 id took.1 h

-- ---- the shape

-- the tree of a name that was closed
abbrev closed_tree : Option (Option Tree) → Option Tree
closed_tree None = None
closed_tree (Some x) = x

abbrev meaning : List Entry → Meaning
meaning fs = λ name. closed_tree (lookup name fs)

meaning_is : (name : List ℕ) (fs : List Entry) (t : Tree) (o : Option (Option Tree)) → lookup name fs ≡ o
    → closed_tree o ≡ Some t → lookup name fs ≡ Some (Some t)
meaning_is name fs t None h k = absurd cc
meaning_is name fs t (Some x) h k = rw k at h

meaning_agrees : (fs : List Entry) → Agrees (meaning fs) fs
meaning_agrees fs = λ name t h. rw h refl

nothing_before : (d : Data) (name : List ℕ) (x : Option Tree) → (lookup name [] ≡ Some x) ⊎ DefinedIn [] d name
    → DefinedIn [] d name
nothing_before d name x (inl h) = absurd (nothing_known name (x, h))
nothing_before d name x (inr h) = h

left_stands : (own name : List ℕ) (e : Data) (fs : List Entry) → Left own e name fs
    → (t : Tree) × ((meaning fs name ≡ Some t) × Stands (meaning fs) own e t)
left_stands own name e fs left = (
  left.0,
  (
    meaning_agrees fs name left.0 left.1.0,
    left.1.1 (meaning fs)
        (meaning_agrees fs),
  ),
)

pub schema_stands : (text : List ℕ) (d : Data) (t : Tree) → json_of text ≡ Ok d → schema_of text ≡ Ok t
    → (names : Meaning) × (NamesOf d names × Stands names [] d t)
schema_stands text d t is ok =
    let took = schema_took text d t is ok in (
      meaning took.0,
      (
        (
          λ place own name e at h. left_stands own name e took.0 (took_defined took.1 place own e name at h),
          λ name u h. nothing_before d name (Some u) (took_origin took.1 name (Some u) (meaning_is name took.0 u
              (lookup name took.0) refl h)),
        ),
        took_stands took.1 (meaning took.0) (meaning_agrees took.0),
      ),
    )
