-- Objects that are records, since their fields were found to fit.
use Rattle.std.proofs.Common.{◌≡◌, ℤ, pos, Bool, true, Option, Some, None, Ok, refl, ap, subst}
use Rattle.avro_schema.specs.Tree.{Tree, null, boolean, int, long, float, double, symbols, octets, string, fixed}
use Rattle.avro_schema.specs.Tree.{structure, array, map, union}
use Rattle.avro_file_picked.specs.Finding.{is_structure}
use Rattle.ice_meta.specs.declared.spec.Spec.{Spec}
use Rattle.ice_manifest_fields.specs.declared.fault.FieldFault.TheVariants.{WrongType}
use Rattle.ice_manifest_fields.specs.Types.{is_whole, is_text, fits}
use Rattle.ice_manifest_fields.specs.Schemas.{fields_in, type_at, must_fit, required, row_fields}
use Rattle.ice_manifest_reading.specs.ManifestSchemas.{entry_fields}
use Rattle.ice_manifest_reading.proofs.Guards.{passed, ok_is, went_on}

-- a type that must fit is there and fits
pub must_have : (wanted : Tree → Bool) (id : ℤ) (o : Option Tree) (t : Tree) → must_fit wanted id o ≡ Ok t
    → (o ≡ Some t) × (fits wanted t ≡ true)
must_have wanted id None t e = absurd cc
must_have wanted id (Some u) t e =
    let g = passed (fits wanted u) (WrongType id) (Ok u) t e in
    let same : u ≡ t = ok_is u t g.1 in
    (ap Some same, subst (λ (v : Tree). fits wanted v ≡ true) same g.0)

-- a type that has a field
typed_record : (id : ℤ) (s u : Tree) → type_at id (fields_in s) ≡ Some u → is_structure s ≡ true
unfolding type_at
typed_record id null u here = absurd cc
typed_record id boolean u here = absurd cc
typed_record id int u here = absurd cc
typed_record id long u here = absurd cc
typed_record id float u here = absurd cc
typed_record id double u here = absurd cc
typed_record id (octets k) u here = absurd cc
typed_record id string u here = absurd cc
typed_record id (fixed n k) u here = absurd cc
typed_record id (symbols n) u here = absurd cc
typed_record id (structure fs) u here = refl
typed_record id (array t own k) u here = absurd cc
typed_record id (map t) u here = absurd cc
typed_record id (union bs) u here = absurd cc

-- a schema that has the fields of entries is a record's
pub entries_are_records : (spec : Spec) (s : Tree) → entry_fields spec (fields_in s) ≡ Ok tt → is_structure s ≡ true
unfolding entry_fields required
entries_are_records spec s e =
    let status = went_on (required is_whole (pos 0) (fields_in s)) _ tt e in
    let there = must_have is_whole (pos 0) (type_at (pos 0) (fields_in s)) status.0 status.1 in
    typed_record (pos 0) s status.0 there.0

-- so is one that has the fields of rows
pub rows_are_records : (s : Tree) → row_fields (fields_in s) ≡ Ok tt → is_structure s ≡ true
unfolding row_fields required
rows_are_records s e =
    let path = went_on (required is_text (pos 500) (fields_in s)) _ tt e in
    let there = must_have is_text (pos 500) (type_at (pos 500) (fields_in s)) path.0 path.1 in
    typed_record (pos 500) s path.0 there.0
