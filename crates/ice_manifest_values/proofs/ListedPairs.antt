-- Maps of columns that are arrays of pairs, which were read into one list.
use Rattle.std.proofs.Common.{◌≡◌, ℕ, suc, ℤ, Bool, true, false, List, length, Option, Some, None, Ok, All, Bor, refl}
use Rattle.std.proofs.Common.{sym}
use Rattle.std.proofs.Common.{ap, subst, ◌∙◌}
use Rattle.std.specs.Option.{option_eq}
use Rattle.std.specs.Ordering.{int_eq}
use Rattle.std.proofs.lemmas.Bool.Decides.{Decides-int_eq}
use Rattle.avro_schema.specs.declared.schema.ArrayKind.{ArrayKind}
use Rattle.avro_schema.specs.declared.schema.BytesKind.TheVariants.{Plain}
use Rattle.avro_schema.specs.Tree.{Tree, array, long, octets, structure, no_fields, field}
use Rattle.avro_schema.specs.View.{tree}
use Rattle.avro_file_parts.specs.Parts.{Position, Read}
use Rattle.avro_file.specs.Value.{Value, items, values_of}
use Rattle.avro_file.specs.View.{long_pairs, bytes_pairs}
use Rattle.avro_file.specs.Reading.{datum_at, blocks_at}
use Rattle.avro_file.specs.Pairs.{pair}
use Rattle.avro_file.specs.declared.pairs.Second.TheVariants as second
use Rattle.avro_file.specs.Blocks.{max_items, StandsAt}
use Rattle.avro_file.specs.Picking.{Picked}
use Rattle.avro_file.proofs.Steps.{bind_ok, ok_is}
use Rattle.avro_file.proofs.Paired.{as_long_pair, as_bytes_pair}
use Rattle.avro_file_picked.specs.declared.found.Found.{Found}
use Rattle.avro_file_picked.specs.Finding.{IsMet}
use Rattle.avro_file_picked.proofs.Values.{stood}
use Rattle.ice_value.specs.Pairs.{counts_said, bounds_said}
use Rattle.ice_manifest_fields.specs.declared.columns.ColumnMap.{ColumnMap}
use Rattle.ice_manifest_fields.specs.Each.{each}
use Rattle.ice_manifest_fields.specs.Fields.{there, items_of, items_as}
use Rattle.ice_manifest_fields.specs.Maps.{count_of, bound_of}
use Rattle.ice_manifest_fields.specs.Places.{IsKey, lies_as_pairs, place_from}
use Rattle.ice_manifest_fields.proofs.Lent.{counts_lent, bounds_lent}
use Rattle.ice_manifest_values.specs.Met.{counts_in, bounds_in}
use Rattle.ice_manifest_values.specs.MapsRead.{ListsPairs}

abbrev pub front : List ℕ → Position
front bytes = record { bytes = bytes; left = max_items }

-- the items of an array that stands there
array_stands : (s : Tree) (id : Option ℤ) (kind : ArrayKind) (bytes : List ℕ) (v : Value)
    → StandsAt (array s id kind) bytes v → (x : List Value × Position)
    × (blocks_at (datum_at s) (suc (length bytes)) (front bytes) ≡ Ok x) × (v ≡ items (values_of x.0))
unfolding datum_at
array_stands s id kind bytes v at =
    let read = stood (array s id kind) bytes v at in
    let taken = bind_ok (blocks_at (datum_at s) (suc (length bytes)) (front bytes))
    (λ x. Ok (items (values_of x.0), x.1)) (v, read.0) read.1 in
    let same = ok_is (items (values_of taken.0.0), taken.0.1) (v, read.0) taken.2 in
    (taken.0, taken.1, sym (ap (λ (y : Value × Position). y.0) same))

-- the same where the items are read as those of another type
items_met : (s other : Tree) (id : Option ℤ) (kind : ArrayKind) (f : Found) (met : Picked) (vs : List Value)
    (q : Position) → datum_at s ≡ datum_at other → tree f.schema.now ≡ array s id kind → IsMet (Some f) met
    → blocks_at (datum_at other) (suc (length f.bytes.now)) (front f.bytes.now) ≡ Ok (vs, q)
    → items_of (there met) ≡ items_as s (values_of vs)
items_met s other id kind f met vs q same of is got =
    let at : StandsAt (array s id kind) f.bytes.now is.0 =
    subst (λ (t : Tree). StandsAt t f.bytes.now is.0) of is.1 in
    let x = array_stands s id kind f.bytes.now is.0 at in
    let both : x.0 ≡ (vs, q) = ok_is x.0 (vs, q) (sym x.1
    ∙ ap (λ (r : Position → Read Value). blocks_at r (suc (length f.bytes.now)) (front f.bytes.now)) same ∙ got) in
    ap (λ (m : Picked). items_of (there m)) is.2 ∙ ap (λ (t : Tree). items_of (Some (t, is.0))) of
    ∙ ap (λ (w : Value). items_of (Some (array s id kind, w)))
    (x.2 ∙ ap (λ (y : List Value × Position). items (values_of y.0)) both)

-- what such pairs say
pub longs_met : (m : ColumnMap) (f : Found) (met : Picked) (pairs : List (ℤ × ℤ)) (q : Position)
    → ListsPairs m second.Long (tree f.schema.now) → IsMet (Some f) met
    → blocks_at (datum_at (pair long)) (suc (length f.bytes.now)) (front f.bytes.now) ≡ Ok (long_pairs pairs, q)
    → All IsKey pairs → counts_in m (there met) ≡ Ok (counts_said pairs)
longs_met m f met pairs q lists is got keys =
    ap (each (count_of m)) (items_met lists.0 (pair long) lists.1 lists.2 f met (long_pairs pairs) q
    (as_long_pair lists.0 lists.4) lists.3 is got) ∙ counts_lent m lists.0 pairs lists.5 keys

pub bytes_met : (m : ColumnMap) (f : Found) (met : Picked) (pairs : List (ℤ × Bor (List ℕ))) (q : Position)
    → ListsPairs m second.Bytes (tree f.schema.now) → IsMet (Some f) met
    → blocks_at (datum_at (pair (octets Plain))) (suc (length f.bytes.now)) (front f.bytes.now)
    ≡ Ok (bytes_pairs pairs, q)
    → All IsKey pairs → bounds_in m (there met) ≡ Ok (bounds_said pairs)
bytes_met m f met pairs q lists is got keys =
    ap (each (bound_of m)) (items_met lists.0 (pair (octets Plain)) lists.1 lists.2 f met (bytes_pairs pairs) q
    (as_bytes_pair lists.0 lists.4) lists.3 is got) ∙ bounds_lent m lists.0 pairs lists.5 keys

-- ---- how a pair's fields are named

pub named : (m : ColumnMap) (a b : Option ℤ) (s t : Tree) → option_eq int_eq a (Some m.key) ≡ true
    → int_eq m.key m.said ≡ false → option_eq int_eq b (Some m.said) ≡ true
    → lies_as_pairs m (structure (field a s (field b t no_fields))) ≡ true
unfolding place_from
named m None b s t key other said = absurd cc
named m (Some x) b s t key other said =
    let is : int_eq x m.key ≡ true = key in
    let same : x ≡ m.key = (Decides-int_eq x m.key).0 is in
    let no_said : int_eq x m.said ≡ false = subst (λ (y : ℤ). int_eq y m.said ≡ false) (sym same) other in
    rw (is, no_said, said) refl

pub unlike : (x y : ℤ) → (x ≡ y → ⊥) → int_eq x y ≡ false
unlike x y other =
    let P : (b : Bool) → int_eq x y ≡ b → int_eq x y ≡ false =
    λ b. elim b as (λ v. int_eq x y ≡ v → int_eq x y ≡ false) [
      | true ↦ λ e. absurd (other ((Decides-int_eq x y).0 e))
      | false ↦ λ e. e
    ] in
    P (int_eq x y) refl
