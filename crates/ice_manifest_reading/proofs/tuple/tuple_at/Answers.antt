use Rattle.std.proofs.Common.{◌≡◌, ◌==◌, ℤ, pos, to_z, of_z, w32, true, false, List, [], ◌∷◌, length, Option, Some}
use Rattle.std.proofs.Common.{None, is_some, Ok, Err, refl, sym, ap, ◌∙◌, rules}
use Rattle.std.proofs.lemmas.Int.{to_z-of_z}
use Rattle.avro_file.specs.Picking.{Typed}
use Rattle.ice_meta.specs.declared.spec.PartitionField.{PartitionField}
use Rattle.ice_manifest_fields.specs.declared.fault.FieldFault.TheVariants.{Missing}
use Rattle.ice_manifest_fields.specs.declared.fault.ManifestFault.TheVariants.{MissingField}
use Rattle.ice_manifest_fields.specs.Fields.{at, there, record_of}
use Rattle.ice_manifest_fields.specs.Naming.{in_manifest, told}
use Rattle.ice_manifest_layouts.specs.Seen.{record_met, file_seen, tuple_of, tuple_seen}
use Rattle.ice_manifest_reading.specs.Partitions.{cells_of, tuple_at}
use Rattle.ice_manifest_reading.proofs.tuple.tuple_at.Goals as goal

tuple_read : (ps : List PartitionField) (x : Typed) (o : Option Typed) → record_of (there (at (pos 102) x)) ≡ o
    → (length ps == 0) ≡ false → is_some o ≡ true → tuple_at ps x ≡ Ok (cells_of ps (record_met o))
unfolding tuple_at
tuple_read [] x o is some there_is = absurd cc
tuple_read (p ∷ ps) x None is some there_is = absurd cc
tuple_read (p ∷ ps) x (Some y) is some there_is = rw is refl

tuple_missing : (ps : List PartitionField) (x : Typed) (o : Option Typed) → record_of (there (at (pos 102) x)) ≡ o
    → (length ps == 0) ≡ false → is_some o ≡ false → tuple_at ps x ≡ Err (Missing (pos 102))
unfolding tuple_at
tuple_missing [] x o is some none_is = absurd cc
tuple_missing (p ∷ ps) x None is some none_is = rw is refl
tuple_missing (p ∷ ps) x (Some y) is some none_is = absurd cc

pub returns-in_ok-cells_of : goal.returns-in_ok-cells_of
unfolding tuple_seen
returns-in_ok-cells_of c =
    let f = c.args.file.now in
    ap (told in_manifest) (tuple_read f.entry.now.partition.now (file_seen f) (tuple_of f) refl
    (sym c.is_empty.ensures ∙ c.if-is_empty.false) (sym c.has_tuple.ensures ∙ c.if-has_tuple.true))
    ∙ ap Ok (sym c.in_ok-cells_of.ensures)

pub returns-else-has_tuple : goal.returns-else-has_tuple
returns-else-has_tuple c = λ other.
    let f = c.args.file.now in
    let id : to_z w32 (of_z w32 c.id.result) ≡ c.id.result = to_z-of_z w32 c.id.result (search rules) in
    ap (told in_manifest) (tuple_missing f.entry.now.partition.now (file_seen f) (tuple_of f) refl
    (sym c.is_empty.ensures ∙ c.if-is_empty.false) (sym c.has_tuple.ensures ∙ c.if-has_tuple.false))
    ∙ ap (λ (z : ℤ). Err (MissingField z)) (sym (id ∙ c.id.ensures))
