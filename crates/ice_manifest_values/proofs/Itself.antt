-- What an item of a list says, found from the item itself and not first from the record that it is.
use Rattle.std.proofs.Common.{◌≡◌, ℤ, List, true, [], ◌∷◌, Option, Some, None, Result, Ok, refl, sym, ap, ◌∙◌, ◌⊎◌, inl}
use Rattle.std.proofs.Common.{inr}
use Rattle.std.proofs.Common.{arith}
use Rattle.contract_words.specs.Outcome.{◌>>=◌}
use Rattle.avro_schema.specs.Tree as tree_of
use Rattle.avro_schema.specs.Tree.{Tree, null, boolean, int, long, float, double, symbols, octets, string, fixed}
use Rattle.avro_schema.specs.Tree.{structure, array, union}
use Rattle.avro_file.specs.Value.{Value, nothing, truth, small, whole, single, twice, symbol, text, run, raw, fields}
use Rattle.avro_file.specs.Value.{items, entries, chosen}
use Rattle.avro_file.specs.Picking.{Typed, Picked, present, bare, field_with, unless_null, unless_absent, pick}
use Rattle.avro_file_picked.specs.Guides.{AreAsked}
use Rattle.avro_file_picked.proofs.Values.{is_something}
use Rattle.avro_file_picked.proofs.FieldPaths.{something_met}
use Rattle.avro_file_picked.proofs.Guided.{nth_asked}
use Rattle.ice_value.specs.Columns.{ColumnCount, ColumnBound}
use Rattle.ice_manifest_fields.specs.declared.fault.FieldFault.{FieldFault}
use Rattle.ice_manifest_fields.specs.declared.columns.ColumnMap.{ColumnMap}
use Rattle.ice_manifest_fields.specs.Fields.{at, there, record_of, asked, whole_of, binary_of, within_32, int_at}
use Rattle.ice_manifest_fields.specs.Maps.{count_in, count_of, bound_in, bound_of}
use Rattle.ice_manifest_values.specs.Met.{pair_ids, pair_field_paths}

pub key_asked : (field_paths : List (List ℤ)) (m : ColumnMap) → AreAsked field_paths (pair_ids m)
    → AreAsked field_paths (m.key ∷ [])
key_asked field_paths m asked = (asked.0, tt)

pub said_asked : (field_paths : List (List ℤ)) (m : ColumnMap) → AreAsked field_paths (pair_ids m)
    → AreAsked field_paths (m.said ∷ [])
said_asked field_paths m asked = asked.1

pub pair_asked : (m : ColumnMap) → AreAsked (pair_field_paths m) (pair_ids m)
pair_asked m = ((nth_asked (pair_field_paths m) 0 (omega arith)).0, nth_asked (pair_field_paths m) 1 (omega arith))

-- ---- a record, or none

abbrev Either : Typed → Type 0
Either x = ((record_of (Some x) ≡ Some x) × (bare x ≡ Some x))
    ⊎ ((record_of (Some x) ≡ None) × ((id : ℤ) → field_with id x ≡ None))

either : (t : Tree) (v : Value) → Either (t, v)
either null v = inr (refl, λ id. refl)
either boolean v = inr (refl, λ id. refl)
either int v = inr (refl, λ id. refl)
either long v = inr (refl, λ id. refl)
either float v = inr (refl, λ id. refl)
either double v = inr (refl, λ id. refl)
either (octets kind) v = inr (refl, λ id. refl)
either string v = inr (refl, λ id. refl)
either (fixed n kind) v = inr (refl, λ id. refl)
either (symbols n) v = inr (refl, λ id. refl)
either (array s own kind) v = inr (refl, λ id. refl)
either (tree_of.map s) v = inr (refl, λ id. refl)
either (union bs) v = inr (refl, λ id. refl)
either (structure fs) nothing = inr (refl, λ id. refl)
either (structure fs) (truth b) = inr (refl, λ id. refl)
either (structure fs) (small z) = inr (refl, λ id. refl)
either (structure fs) (whole z) = inr (refl, λ id. refl)
either (structure fs) (single s) = inr (refl, λ id. refl)
either (structure fs) (twice s) = inr (refl, λ id. refl)
either (structure fs) (symbol n) = inr (refl, λ id. refl)
either (structure fs) (text s) = inr (refl, λ id. refl)
either (structure fs) (run s) = inr (refl, λ id. refl)
either (structure fs) (raw s) = inr (refl, λ id. refl)
either (structure fs) (fields vs) = inl (refl, refl)
either (structure fs) (items vs) = inr (refl, λ id. refl)
either (structure fs) (entries es) = inr (refl, λ id. refl)
either (structure fs) (chosen n v) = inr (refl, λ id. refl)

-- the record that was met, whose fields are those of the item; or none, and no field
abbrev pub RecordMet : Typed → Type 0
RecordMet y = ((x : Typed) × (record_of (there (pick [] y)) ≡ Some x) × ((id : ℤ) → at id y ≡ at id x))
    ⊎ ((record_of (there (pick [] y)) ≡ None) × ((id : ℤ) → there (at id y) ≡ None))

abbrev below : ℤ → Typed → Picked
below id x = unless_null (λ y. unless_absent (pick []) (field_with id y)) x

met_some : (y : Typed) (t : Tree) (v : Value) → bare y ≡ Some (t, v) → is_something v ≡ true → Either (t, v)
    → RecordMet y
met_some y t v is some (inl r) = inl (
  (t, v),
  ap (λ (o : Option Typed). record_of (there (unless_absent (unless_null present) o))) is
      ∙ ap (λ (p : Picked). record_of (there p)) (something_met present t v some) ∙ r.0,
  λ id. ap (unless_absent (below id)) is ∙ sym (ap (unless_absent (below id)) r.1),
)
met_some y t v is some (inr r) = inr (
  ap (λ (o : Option Typed). record_of (there (unless_absent (unless_null present) o))) is
      ∙ ap (λ (p : Picked). record_of (there p)) (something_met present t v some) ∙ r.0,
  λ id. ap (λ (o : Option Typed). there (unless_absent (below id) o)) is
      ∙ ap there (something_met (λ x. unless_absent (pick []) (field_with id x)) t v some)
      ∙ ap (λ (o : Option Typed). there (unless_absent (pick []) o)) (r.1 id),
)

met_in : (y : Typed) (b : Option Typed) → bare y ≡ b → RecordMet y
met_in y None is = inr (
  ap (λ (o : Option Typed). record_of (there (unless_absent (unless_null present) o))) is,
  λ id. ap (λ (o : Option Typed). there (unless_absent (below id) o)) is,
)
met_in y (Some (t, nothing)) is = inr (
  ap (λ (o : Option Typed). record_of (there (unless_absent (unless_null present) o))) is,
  λ id. ap (λ (o : Option Typed). there (unless_absent (below id) o)) is,
)
met_in y (Some (t, truth b)) is = met_some y t (truth b) is refl (either t (truth b))
met_in y (Some (t, small z)) is = met_some y t (small z) is refl (either t (small z))
met_in y (Some (t, whole z)) is = met_some y t (whole z) is refl (either t (whole z))
met_in y (Some (t, single s)) is = met_some y t (single s) is refl (either t (single s))
met_in y (Some (t, twice s)) is = met_some y t (twice s) is refl (either t (twice s))
met_in y (Some (t, symbol n)) is = met_some y t (symbol n) is refl (either t (symbol n))
met_in y (Some (t, text s)) is = met_some y t (text s) is refl (either t (text s))
met_in y (Some (t, run s)) is = met_some y t (run s) is refl (either t (run s))
met_in y (Some (t, raw s)) is = met_some y t (raw s) is refl (either t (raw s))
met_in y (Some (t, fields vs)) is = met_some y t (fields vs) is refl (either t (fields vs))
met_in y (Some (t, items vs)) is = met_some y t (items vs) is refl (either t (items vs))
met_in y (Some (t, entries es)) is = met_some y t (entries es) is refl (either t (entries es))
met_in y (Some (t, chosen n v)) is = met_some y t (chosen n v) is refl (either t (chosen n v))

pub record_met : (y : Typed) → RecordMet y
record_met y = met_in y (bare y) refl

-- ---- counts

abbrev key_of : ColumnMap → Option Typed → Result ℤ FieldFault
key_of m x = asked m.key (whole_of x) >>= within_32 m.key

abbrev counted : ColumnMap → Option Typed → Option Typed → Result ColumnCount FieldFault
counted m key said = key_of m key >>= λ k. asked m.said (whole_of said) >>= λ n. Ok (record { column = k; count = n })

counted_there : (m : ColumnMap) (x : Typed) → count_in m x ≡ counted m (there (at m.key x)) (there (at m.said x))
unfolding count_in int_at
counted_there m x = refl

counted_same : (m : ColumnMap) (x y : Typed) → ((id : ℤ) → at id y ≡ at id x) → count_in m x ≡ count_in m y
counted_same m x y same = counted_there m x
    ∙ ap (λ (p : Picked). counted m (there p) (there (at m.said x))) (sym (same m.key))
    ∙ ap (λ (p : Picked). counted m (there (at m.key y)) (there p)) (sym (same m.said)) ∙ sym (counted_there m y)

counted_by : (m : ColumnMap) (y : Typed) → RecordMet y → count_of m y ≡ count_in m y
unfolding count_of
counted_by m y (inl r) = ap (λ (o : Option Typed). asked m.key o >>= count_in m) r.1 ∙ counted_same m r.0 y r.2
counted_by m y (inr r) = ap (λ (o : Option Typed). asked m.key o >>= count_in m) r.0
    ∙ sym (counted_there m y ∙ ap (λ (o : Option Typed). counted m o (there (at m.said y))) (r.1 m.key))

pub count_itself : (m : ColumnMap) (y : Typed) → count_of m y ≡ count_in m y
count_itself m y = counted_by m y (record_met y)

-- ---- bounds

abbrev bounded : ColumnMap → Option Typed → Option Typed → Result ColumnBound FieldFault
bounded m key said = key_of m key >>= λ k. asked m.said (binary_of said) >>= λ bs. Ok
    (record { column = k; bytes = bs })

bounded_there : (m : ColumnMap) (x : Typed) → bound_in m x ≡ bounded m (there (at m.key x)) (there (at m.said x))
unfolding bound_in int_at
bounded_there m x = refl

bounded_same : (m : ColumnMap) (x y : Typed) → ((id : ℤ) → at id y ≡ at id x) → bound_in m x ≡ bound_in m y
bounded_same m x y same = bounded_there m x
    ∙ ap (λ (p : Picked). bounded m (there p) (there (at m.said x))) (sym (same m.key))
    ∙ ap (λ (p : Picked). bounded m (there (at m.key y)) (there p)) (sym (same m.said)) ∙ sym (bounded_there m y)

bounded_by : (m : ColumnMap) (y : Typed) → RecordMet y → bound_of m y ≡ bound_in m y
unfolding bound_of
bounded_by m y (inl r) = ap (λ (o : Option Typed). asked m.key o >>= bound_in m) r.1 ∙ bounded_same m r.0 y r.2
bounded_by m y (inr r) = ap (λ (o : Option Typed). asked m.key o >>= bound_in m) r.0
    ∙ sym (bounded_there m y ∙ ap (λ (o : Option Typed). bounded m o (there (at m.said y))) (r.1 m.key))

pub bound_itself : (m : ColumnMap) (y : Typed) → bound_of m y ≡ bound_in m y
bound_itself m y = bounded_by m y (record_met y)
