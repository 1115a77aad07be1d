-- Where the type of a map allows no pair to be at fault, none is.
use Rattle.std.proofs.Common.{◌≡◌, ℕ, zero, suc, ◌/◌, ◌%◌, ◌^◌, ◌<◌, ℤ, pos, negsuc, Bool, true, false, cond, ◌&&◌, eqb}
use Rattle.std.proofs.Common.{ltb}
use Rattle.std.proofs.Common.{List, [], ◌∷◌, ◌++◌, Option, Some, None, Result, Ok, refl, sym, ap, subst, ◌∙◌, arith}
use Rattle.std.specs.Ordering.{int_eq}
use Rattle.std.specs.Option.{option_eq}
use Rattle.std.proofs.lemmas.Bool.{lt-ltb}
use Rattle.avro_file_parts.specs.Number.{IsInt}
use Rattle.avro_schema.specs.Tree.{Tree, null, boolean, int, long, float, double, symbols, octets, string, fixed}
use Rattle.avro_schema.specs.Tree.{structure, array, map, union, Fields, no_fields, field}
use Rattle.avro_file.specs.Value.{Value, small, fields, values_of}
use Rattle.avro_file.specs.Spelling.{AreJoined, AreBlocks, Spells, SpellsFields}
use Rattle.avro_schema.specs.View.{tree}
use Rattle.avro_file.specs.Blocks.{max_items}
use Rattle.avro_file.specs.Picking.{Typed, Picked, pick, field_value}
use Rattle.avro_file.proofs.Taken.{datum_takes}
use Rattle.avro_file_picked.specs.declared.found.Found.{Found}
use Rattle.avro_file_picked.specs.Finding.{IsMet}
use Rattle.avro_file_picked.proofs.Values.{stood}
use Rattle.ice_value.specs.Columns.{ColumnCount, ColumnBound}
use Rattle.ice_manifest_fields.specs.declared.columns.ColumnMap.{ColumnMap}
use Rattle.ice_manifest_fields.specs.declared.kind.Kind.{Kind}
use Rattle.ice_manifest_fields.specs.declared.kind.Kind.TheVariants as kind
use Rattle.ice_manifest_fields.specs.declared.fault.FieldFault.{FieldFault}
use Rattle.ice_manifest_fields.specs.Types.{is_whole, is_binary}
use Rattle.ice_manifest_fields.specs.Each.{each}
use Rattle.ice_manifest_fields.specs.Schemas.{type_at}
use Rattle.ice_manifest_fields.specs.Fields.{int_at, within_32, items_as, items_of, there, whole_of}
use Rattle.ice_manifest_fields.specs.Fields.{binary_of}
use Rattle.ice_manifest_fields.specs.Maps.{count_in, count_of, bound_in, bound_of}
use Rattle.ice_manifest_values.specs.Met.{counts_in, bounds_in}
use Rattle.ice_manifest_values.specs.SoundMaps.{is_small, is_said, is_sound_pair, is_sound}

-- ---- what was spelled

-- some bytes spell it
abbrev IsSpelled : Tree → Value → Type 0
IsSpelled t v = (bytes : List ℕ) × Spells t v bytes

abbrev AreSpelled : Tree → List Value → Type 0
AreSpelled t [] = Unit {0}
AreSpelled t (v ∷ vs) = IsSpelled t v × AreSpelled t vs

both_spelled : (t : Tree) (vs ws : List Value) → AreSpelled t vs → AreSpelled t ws → AreSpelled t (vs ++ ws)
both_spelled t [] ws here after = after
both_spelled t (v ∷ vs) ws here after = (here.0, both_spelled t vs ws here.1 after)

joined_spelled : (t : Tree) (vs : List Value) (bytes : List ℕ) → AreJoined (Spells t) vs bytes → AreSpelled t vs
joined_spelled t [] bytes is = tt
joined_spelled t (v ∷ vs) bytes is = ((is.0, is.2), joined_spelled t vs is.1 is.3)

blocks_spelled : (t : Tree) (n : ℕ) (vs : List Value) (bytes : List ℕ) → AreBlocks (Spells t) n vs bytes
    → AreSpelled t vs
blocks_spelled t zero vs bytes is = subst (AreSpelled t) (sym is.0) tt
blocks_spelled t (suc n) vs bytes is = subst (AreSpelled t) (sym is.9) (both_spelled t is.0 is.1
    (joined_spelled t is.0 is.3 is.7) (blocks_spelled t n is.1 is.4 is.8))

-- the field with this id
field_spelled : (id : ℤ) (fs : Fields) (vs : List Value) (bytes : List ℕ) (t : Tree) → type_at id fs ≡ Some t
    → SpellsFields fs vs bytes
    → (v : Value) × (field_value id fs (values_of vs) ≡ Some (t, v)) × IsSpelled t v
unfolding type_at
field_spelled id no_fields vs bytes t here is = absurd cc
field_spelled id (field own s fs) vs bytes t here is =
    let P : Bool → Type 0 = λ b. cond b (Some s) (type_at id fs) ≡ Some t
    → (v : Value) × (cond b (Some (s, is.0)) (field_value id fs (values_of is.1)) ≡ Some (t, v)) × IsSpelled t v in
    let step : (b : Bool) → P b = λ b. elim b as P [
      | true ↦ λ e.
          let same : s ≡ t = some_is s t e in
          (is.0, ap (λ (u : Tree). Some (u, is.0)) same, subst (λ (u : Tree). IsSpelled u is.0) same (is.2, is.5))
      | false ↦ λ e. field_spelled id fs is.1 is.3 t e is.6
    ] in
    let found = step (option_eq int_eq own (Some id)) here in
    (found.0, ap (λ (ws : List Value). field_value id (field own s fs) (values_of ws)) is.4 ∙ found.1, found.2) where
      some_is : (a b : Tree) → Some a ≡ Some b → a ≡ b
      some_is a b e = cc

-- ---- numbers of 32 bits

signed_within : (id : ℤ) (n : ℕ) (b : Bool) → n < 2 ^ 32
    → within_32 id (cond b (pos (n / 2)) (negsuc (n / 2))) ≡ Ok (cond b (pos (n / 2)) (negsuc (n / 2)))
signed_within id n true lt = let half : ltb (n / 2) (2 ^ 31) ≡ true = lt-ltb (n / 2) (2 ^ 31)
    (omega arith) in rw half refl
signed_within id n false lt = let half : ltb (n / 2) (2 ^ 31) ≡ true = lt-ltb (n / 2) (2 ^ 31)
    (omega arith) in rw half refl

int_within : (id z : ℤ) (bytes : List ℕ) → IsInt bytes z → within_32 id z ≡ Ok z
int_within id z bytes is =
    subst (λ (x : ℤ). within_32 id x ≡ Ok x) (sym is.2) (signed_within id is.0 (eqb (is.0 % 2) 0) is.1.2)

-- ---- what a pair says

small_is : (o : Option Tree) → is_small o ≡ true → o ≡ Some int
small_is None h = absurd cc
small_is (Some int) h = refl
small_is (Some null) h = absurd cc
small_is (Some boolean) h = absurd cc
small_is (Some long) h = absurd cc
small_is (Some float) h = absurd cc
small_is (Some double) h = absurd cc
small_is (Some (octets k)) h = absurd cc
small_is (Some string) h = absurd cc
small_is (Some (fixed n k)) h = absurd cc
small_is (Some (symbols n)) h = absurd cc
small_is (Some (structure fs)) h = absurd cc
small_is (Some (array t id k)) h = absurd cc
small_is (Some (map t)) h = absurd cc
small_is (Some (union bs)) h = absurd cc

both : (a b : Bool) → (a && b) ≡ true → (a ≡ true) × (b ≡ true)
both true true h = (refl, refl)
both true false h = absurd cc
both false b h = absurd cc

-- the type of what is said
there_is : (m : ColumnMap) (o : Option Tree) → is_said m.kind o ≡ true → (t : Tree) × (o ≡ Some t)
there_is m (Some t) h = (t, refl)
there_is m None h = no m.kind h where
  no : (k : Kind) → is_said k None ≡ true → (t : Tree) × (None ≡ Some t)
  no kind.Whole h = absurd cc
  no kind.Truth h = absurd cc
  no kind.Text h = absurd cc
  no kind.Binary h = absurd cc
  no kind.List h = absurd cc
  no kind.Array h = absurd cc
  no kind.Record h = absurd cc

-- the values of a pair: its key, and what it says
record Pair (m : ColumnMap) (fs : Fields) (vs : List Value) : Type 0 where
  key : ℤ
  key_at : field_value m.key fs (values_of vs) ≡ Some (int, small key)
  within : within_32 m.key key ≡ Ok key
  said : Tree
  value : Value
  said_at : field_value m.said fs (values_of vs) ≡ Some (said, value)
  is : is_said m.kind (Some said) ≡ true
  spelled : IsSpelled said value

pair_is : (m : ColumnMap) (fs : Fields) (vs : List Value) (bytes : List ℕ) → is_sound_pair m (structure fs) ≡ true
    → SpellsFields fs vs bytes → Pair m fs vs
pair_is m fs vs bytes sound is =
    let halves = both (is_small (type_at m.key fs)) (is_said m.kind (type_at m.said fs)) sound in
    let key = field_spelled m.key fs vs bytes int (small_is (type_at m.key fs) halves.0) is in
    let typed = there_is m (type_at m.said fs) halves.1 in
    let said = field_spelled m.said fs vs bytes typed.0 typed.1 is in
    record {
      key = key.2.1.0;
      key_at = subst (λ (v : Value). field_value m.key fs (values_of vs) ≡ Some (int, v)) key.2.1.1 key.1;
      within = int_within m.key key.2.1.0 key.2.0 key.2.1.2;
      said = typed.0;
      value = said.0;
      said_at = said.1;
      is = subst (λ (o : Option Tree). is_said m.kind o ≡ true) typed.1 halves.1;
      spelled = said.2;
    }

-- what a whole number, and what bytes are read as
whole_read : (t : Tree) (v : Value) → is_whole t ≡ true → IsSpelled t v
    → (z : ℤ) × (whole_of (there (pick [] (t, v))) ≡ Some z)
whole_read int v h is = (is.1.0, ap (λ (w : Value). whole_of (there (pick [] (int, w)))) is.1.1)
whole_read long v h is = (is.1.0, ap (λ (w : Value). whole_of (there (pick [] (long, w)))) is.1.1)
whole_read null v h is = absurd cc
whole_read boolean v h is = absurd cc
whole_read float v h is = absurd cc
whole_read double v h is = absurd cc
whole_read (octets k) v h is = absurd cc
whole_read string v h is = absurd cc
whole_read (fixed n k) v h is = absurd cc
whole_read (symbols n) v h is = absurd cc
whole_read (structure fs) v h is = absurd cc
whole_read (array t id k) v h is = absurd cc
whole_read (map t) v h is = absurd cc
whole_read (union bs) v h is = absurd cc

bytes_read : (t : Tree) (v : Value) → is_binary t ≡ true → IsSpelled t v
    → (bs : List ℕ) × (binary_of (there (pick [] (t, v))) ≡ Some bs)
bytes_read (octets k) v h is = (is.1.0, ap (λ (w : Value). binary_of (there (pick [] (octets k, w)))) is.1.1)
bytes_read int v h is = absurd cc
bytes_read long v h is = absurd cc
bytes_read null v h is = absurd cc
bytes_read boolean v h is = absurd cc
bytes_read float v h is = absurd cc
bytes_read double v h is = absurd cc
bytes_read string v h is = absurd cc
bytes_read (fixed n k) v h is = absurd cc
bytes_read (symbols n) v h is = absurd cc
bytes_read (structure fs) v h is = absurd cc
bytes_read (array t id k) v h is = absurd cc
bytes_read (map t) v h is = absurd cc
bytes_read (union bs) v h is = absurd cc

-- ---- what a pair says

-- this says something of the value
abbrev Says : {X : Type 0} → (Typed → Result X FieldFault) → Tree → Value → Type 0
Says {X} says t v = (x : X) × (says (t, v) ≡ Ok x)

count_said : (m : ColumnMap) (fs : Fields) (vs : List Value) → m.kind ≡ kind.Whole → Pair m fs vs
    → Says (count_of m) (structure fs) (fields (values_of vs))
unfolding count_of count_in int_at
count_said m fs vs counts p =
    let z = whole_read p.said p.value (subst (λ (k : Kind). is_said k (Some p.said) ≡ true) counts p.is) p.spelled in
    (record { column = p.key; count = z.0 }, rw (p.key_at, p.within, p.said_at, z.1) refl)

bound_said : (m : ColumnMap) (fs : Fields) (vs : List Value) → m.kind ≡ kind.Binary → Pair m fs vs
    → Says (bound_of m) (structure fs) (fields (values_of vs))
unfolding bound_of bound_in int_at
bound_said m fs vs bounds p =
    let z = bytes_read p.said p.value (subst (λ (k : Kind). is_said k (Some p.said) ≡ true) bounds p.is) p.spelled in
    (record { column = p.key; bytes = z.0 }, rw (p.key_at, p.within, p.said_at, z.1) refl)

-- ---- all pairs of a map

each_says : {X : Type 0} (says : Typed → Result X FieldFault) (t : Tree)
    → ((v : Value) → IsSpelled t v → Says says t v) → (vs : List Value) → AreSpelled t vs
    → (xs : List X) × (each says (items_as t (values_of vs)) ≡ Ok xs)
unfolding each
each_says {X} says t one [] are = ([], refl)
each_says {X} says t one (v ∷ vs) are =
    let here = one v are.0 in
    let after = each_says says t one vs are.1 in
    (here.0 ∷ after.0, rw (here.1, after.1) refl)

pair_says : {X : Type 0} (says : Typed → Result X FieldFault) (m : ColumnMap)
    → ((fs : Fields) (vs : List Value) → Pair m fs vs → Says says (structure fs) (fields (values_of vs)))
    → (t : Tree) → is_sound_pair m t ≡ true → (v : Value) → IsSpelled t v → Says says t v
unfolding type_at
pair_says {X} says m one (structure fs) sound v is =
    subst (λ (w : Value). Says says (structure fs) w) (sym is.1.1)
    (one fs is.1.0 (pair_is m fs is.1.0 is.0 sound is.1.2))
pair_says {X} says m one null sound v is = absurd cc
pair_says {X} says m one boolean sound v is = absurd cc
pair_says {X} says m one int sound v is = absurd cc
pair_says {X} says m one long sound v is = absurd cc
pair_says {X} says m one float sound v is = absurd cc
pair_says {X} says m one double sound v is = absurd cc
pair_says {X} says m one (octets k) sound v is = absurd cc
pair_says {X} says m one string sound v is = absurd cc
pair_says {X} says m one (fixed n k) sound v is = absurd cc
pair_says {X} says m one (symbols n) sound v is = absurd cc
pair_says {X} says m one (array t id k) sound v is = absurd cc
pair_says {X} says m one (map t) sound v is = absurd cc
pair_says {X} says m one (union bs) sound v is = absurd cc

-- what all pairs of the map say
abbrev AllSay : {X : Type 0} → (Typed → Result X FieldFault) → Tree → Value → Type 0
AllSay {X} says t v = (xs : List X) × (each says (items_of (Some (t, v))) ≡ Ok xs)

map_says : {X : Type 0} (says : Typed → Result X FieldFault) (m : ColumnMap)
    → ((fs : Fields) (vs : List Value) → Pair m fs vs → Says says (structure fs) (fields (values_of vs)))
    → (t : Tree) → is_sound m t ≡ true → (v : Value) → IsSpelled t v → AllSay says t v
map_says {X} says m one (array t id kind) sound v is =
    let are = blocks_spelled t is.1.2 is.1.0 is.0 is.1.3 in
    subst (AllSay says (array t id kind)) (sym is.1.1)
    (each_says says t (pair_says says m one t sound) is.1.0 are)
map_says {X} says m one null sound v is = absurd cc
map_says {X} says m one boolean sound v is = absurd cc
map_says {X} says m one int sound v is = absurd cc
map_says {X} says m one long sound v is = absurd cc
map_says {X} says m one float sound v is = absurd cc
map_says {X} says m one double sound v is = absurd cc
map_says {X} says m one (octets k) sound v is = absurd cc
map_says {X} says m one string sound v is = absurd cc
map_says {X} says m one (fixed n k) sound v is = absurd cc
map_says {X} says m one (symbols n) sound v is = absurd cc
map_says {X} says m one (structure fs) sound v is = absurd cc
map_says {X} says m one (map t) sound v is = absurd cc
map_says {X} says m one (union bs) sound v is = absurd cc

-- ---- what was found

found_says : {X : Type 0} (says : Typed → Result X FieldFault) (m : ColumnMap)
    → ((fs : Fields) (vs : List Value) → Pair m fs vs → Says says (structure fs) (fields (values_of vs)))
    → (f : Found) (met : Picked) → is_sound m (tree f.schema.now) ≡ true → IsMet (Some f) met
    → (xs : List X) × (each says (items_of (there met)) ≡ Ok xs)
found_says {X} says m one f met sound is =
    let stands = stood (tree f.schema.now) f.bytes.now is.0 is.1 in
    let taken = datum_takes (tree f.schema.now) (record { bytes = f.bytes.now; left = max_items }) (is.0, stands.0)
    stands.1 in
    let all = map_says says m one (tree f.schema.now) sound is.0 (taken.front, taken.spelled) in
    (all.0, ap (λ (p : Picked). each says (items_of (there p))) is.2 ∙ all.1)

-- a map of counts of which no pair can be at fault
pub counts_sound : (m : ColumnMap) (f : Found) (met : Picked) → m.kind ≡ kind.Whole
    → is_sound m (tree f.schema.now) ≡ true → IsMet (Some f) met
    → (xs : List ColumnCount) × (counts_in m (there met) ≡ Ok xs)
counts_sound m f met counts = found_says (count_of m) m (λ fs vs p. count_said m fs vs counts p) f met

-- a map of bounds of which no pair can be at fault
pub bounds_sound : (m : ColumnMap) (f : Found) (met : Picked) → m.kind ≡ kind.Binary
    → is_sound m (tree f.schema.now) ≡ true → IsMet (Some f) met
    → (xs : List ColumnBound) × (bounds_in m (there met) ≡ Ok xs)
bounds_sound m f met bounds = found_says (bound_of m) m (λ fs vs p. bound_said m fs vs bounds p) f met
