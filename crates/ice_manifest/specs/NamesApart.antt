-- Names that Avro has, and that tell partition fields apart (Avro 1.11.1, "Names").
use Rattle.std.specs.Prelude.{◌≡◌, ◌≢◌, ◌↔◌, ℕ, Bool, true, false, ◌&&◌, not, List, [], ◌∷◌, map}
use Rattle.std.specs.Char.{is_ascii_digit}
use Rattle.std.specs.List.{AllByRecursion, IsDistinct, list_all}
use Rattle.std.specs.Ordering.{int_eq}
use Rattle.std.specs.Str.{bytes_eq}
use Rattle.ice_manifest.specs.Adding.{IsId}
use Rattle.ice_manifest.specs.PartitionNames.{is_in_names, avro_name, naming_of, field_name}
use Rattle.ice_meta.specs.declared.spec.PartitionField.{PartitionField}
use Rattle.ice_manifest.specs.declared.partition_names.Naming.TheVariants as by

-- the Avro names of the fields' own names
abbrev pub own_names : List PartitionField → List (List ℕ)
own_names ps = map (λ (p : PartitionField). avro_name p.name) ps

-- fields are called by their own names exactly where none of these is empty and no two are alike
abbrev pub OwnWhereTheyDiffer : Type 0
OwnWhereTheyDiffer = (ps : List PartitionField) → naming_of ps ≡ by.Own
    ↔ AllByRecursion (λ name. name ≢ []) (own_names ps) × IsDistinct bytes_eq (own_names ps)

-- a name that Avro has: letters of ASCII, digits and `_`, no digit first
abbrev pub is_avro_name : List ℕ → Bool
is_avro_name [] = false
is_avro_name (c ∷ cs) = not (is_ascii_digit c) && list_all is_in_names (c ∷ cs)

-- a name that Avro has stays as it is
abbrev pub KeepsNames : Type 0
KeepsNames = (name : List ℕ) → is_avro_name name ≡ true → avro_name name ≡ name

-- fields that are called by their own names have names that Avro has
abbrev pub SpellsNames : Type 0
SpellsNames = (ps : List PartitionField) → naming_of ps ≡ by.Own
    → AllByRecursion (λ p. is_avro_name (field_name (naming_of ps) p) ≡ true) ps

-- fields of different ids have different names
abbrev pub TellsApart : Type 0
TellsApart = (ps : List PartitionField) → AllByRecursion (λ (p : PartitionField). IsId p.field_id) ps
    → IsDistinct int_eq (map (λ (p : PartitionField). p.field_id) ps)
    → IsDistinct bytes_eq (map (field_name (naming_of ps)) ps)
