-- Records that are met, and field paths that go through them.
use Rattle.std.proofs.Common.{◌≡◌, ℤ, List, [], ◌∷◌, Option, Some, None, refl, sym, ap, subst}
use Rattle.avro_schema.specs.Tree.{Tree, null, boolean, int, long, float, double, symbols, octets, string, fixed}
use Rattle.avro_schema.specs.Tree.{structure, array, map, union, Fields}
use Rattle.avro_file.specs.Value.{Value, nothing, truth, small, whole, single, twice, symbol, text, run, raw, fields}
use Rattle.avro_file.specs.Value.{items, entries, chosen, Values}
use Rattle.avro_file.specs.Picking.{Typed, Picked, absent, null_met, present, bare, field_with, unless_null}
use Rattle.avro_file.specs.Picking.{unless_absent, pick}
use Rattle.ice_manifest_fields.specs.Fields.{at, there, record_of}

-- a record, of these fields and values
abbrev pub IsRecord : Typed → Typed → Type 0
IsRecord x y = (fs : Fields) × (vs : Values) × (x ≡ (structure fs, fields vs)) × (y ≡ (structure fs, fields vs))

values_of_record : (fs : Fields) (v : Value) (y : Typed) → record_of (Some (structure fs, v)) ≡ Some y
    → IsRecord (structure fs, v) y
values_of_record fs nothing y e = absurd cc
values_of_record fs (truth b) y e = absurd cc
values_of_record fs (small z) y e = absurd cc
values_of_record fs (whole z) y e = absurd cc
values_of_record fs (single s) y e = absurd cc
values_of_record fs (twice s) y e = absurd cc
values_of_record fs (symbol n) y e = absurd cc
values_of_record fs (text s) y e = absurd cc
values_of_record fs (run s) y e = absurd cc
values_of_record fs (raw s) y e = absurd cc
values_of_record fs (fields vs) y e = (fs, vs, refl, cc)
values_of_record fs (items vs) y e = absurd cc
values_of_record fs (entries es) y e = absurd cc
values_of_record fs (chosen n v) y e = absurd cc

pub record_taken : (t : Tree) (v : Value) (y : Typed) → record_of (Some (t, v)) ≡ Some y → IsRecord (t, v) y
record_taken null v y e = absurd cc
record_taken boolean v y e = absurd cc
record_taken int v y e = absurd cc
record_taken long v y e = absurd cc
record_taken float v y e = absurd cc
record_taken double v y e = absurd cc
record_taken (symbols n) v y e = absurd cc
record_taken (octets k) v y e = absurd cc
record_taken string v y e = absurd cc
record_taken (fixed n k) v y e = absurd cc
record_taken (structure fs) v y e = values_of_record fs v y e
record_taken (array t id k) v y e = absurd cc
record_taken (map t) v y e = absurd cc
record_taken (union bs) v y e = absurd cc

-- ---- field paths through a record

-- where the one leads to this record, the other leads on from it
abbrev Onward : List ℤ → Typed → Picked → Picked → Type 0
Onward field_path y here there_on = record_of (there here) ≡ Some y → there_on ≡ pick field_path y

unless_null_onward : (field_path : List ℤ) (y : Typed) (next more : Typed → Picked) (t : Tree) (v : Value)
    → Onward field_path y (next (t, v)) (more (t, v))
    → Onward field_path y (unless_null next (t, v)) (unless_null more (t, v))
unless_null_onward field_path y next more t nothing on = λ e. absurd cc
unless_null_onward field_path y next more t (truth b) on = on
unless_null_onward field_path y next more t (small z) on = on
unless_null_onward field_path y next more t (whole z) on = on
unless_null_onward field_path y next more t (single s) on = on
unless_null_onward field_path y next more t (twice s) on = on
unless_null_onward field_path y next more t (symbol n) on = on
unless_null_onward field_path y next more t (text s) on = on
unless_null_onward field_path y next more t (run s) on = on
unless_null_onward field_path y next more t (raw s) on = on
unless_null_onward field_path y next more t (fields vs) on = on
unless_null_onward field_path y next more t (items vs) on = on
unless_null_onward field_path y next more t (entries es) on = on
unless_null_onward field_path y next more t (chosen n v) on = on

unless_absent_onward : (field_path : List ℤ) (y : Typed) (next more : Typed → Picked) (o : Option Typed)
    → ((x : Typed) → Onward field_path y (next x) (more x))
    → Onward field_path y (unless_absent next o) (unless_absent more o)
unless_absent_onward field_path y next more None on = λ e. absurd cc
unless_absent_onward field_path y next more (Some x) on = on x

record_onward : (id : ℤ) (field_path : List ℤ) (y x : Typed) → record_of (Some x) ≡ Some y
    → unless_null (λ z. unless_absent (pick field_path) (field_with id z)) x ≡ pick (id ∷ field_path) y
record_onward id field_path y x e =
    let is = record_taken x.0 x.1 y e in
    subst (λ (z : Typed). unless_null (λ z. unless_absent (pick field_path) (field_with id z)) z ≡ pick
    (id ∷ field_path) y)
    (sym is.2) (subst (λ (z : Typed). unless_absent (pick field_path)
    (field_with id (structure is.0, fields is.1)) ≡ pick
    (id ∷ field_path) z) (sym is.3) refl)

present_is : (t : Tree) (v : Value) (y : Typed) → record_of (there (unless_null present (t, v))) ≡ Some y
    → record_of (Some (t, v)) ≡ Some y
present_is t nothing y e = absurd cc
present_is t (truth b) y e = e
present_is t (small z) y e = e
present_is t (whole z) y e = e
present_is t (single s) y e = e
present_is t (twice s) y e = e
present_is t (symbol n) y e = e
present_is t (text s) y e = e
present_is t (run s) y e = e
present_is t (raw s) y e = e
present_is t (fields vs) y e = e
present_is t (items vs) y e = e
present_is t (entries es) y e = e
present_is t (chosen n v) y e = e

here_onward : (id : ℤ) (field_path : List ℤ) (y x : Typed)
    → Onward (id ∷ field_path) y (pick [] x) (pick (id ∷ field_path) x)
here_onward id field_path y x = unless_absent_onward (id ∷ field_path) y (unless_null present)
    (unless_null (λ z. unless_absent (pick field_path) (field_with id z))) (bare x)
    (λ z e. record_onward id field_path y z (present_is z.0 z.1 y e))

-- a field path through a record goes on as from the record
pub picked_onward : (id next : ℤ) (field_path : List ℤ) (x y : Typed) → record_of (there (at id x)) ≡ Some y
    → pick (id ∷ next ∷ field_path) x ≡ pick (next ∷ field_path) y
picked_onward id next field_path x y =
    unless_absent_onward (next ∷ field_path) y (unless_null (λ z. unless_absent (pick []) (field_with id z)))
    (unless_null (λ z. unless_absent (pick (next ∷ field_path)) (field_with id z))) (bare x)
    (λ z. unless_null_onward (next ∷ field_path) y (λ z. unless_absent (pick []) (field_with id z))
    (λ z. unless_absent (pick (next ∷ field_path)) (field_with id z)) z.0 z.1
    (unless_absent_onward (next ∷ field_path) y (pick []) (pick (next ∷ field_path)) (field_with id z)
    (λ w. here_onward next field_path y w)))
