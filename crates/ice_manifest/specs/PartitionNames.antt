-- What the partition fields are called in the schema of a manifest (Apache Iceberg table spec v2, "Manifests": the
-- partition's fields have the names of the spec's; Avro 1.11.1, "Names": a letter of ASCII or `_`, and behind it
-- letters, digits and `_`). Names that Avro does not have are spelled as the writers of the field spell them.
use Rattle.std.specs.Prelude.{ℕ, ℤ, Bool, true, false, ◌||◌, ◌&&◌, not, List, [], ◌∷◌, ◌++◌, map, flat_map}
use Rattle.std.specs.Prelude.{nat_eq, if◌then◌else◌, codes, chars, encode_utf8}
use Rattle.std.specs.Char.{is_ascii_alphanumeric, is_ascii_digit}
use Rattle.std.specs.Fmt.{digits, signed_decimal}
use Rattle.std.specs.List.{list_any}
use Rattle.std.specs.Str.{bytes_eq}
use Rattle.ice_meta.specs.declared.spec.PartitionField.{PartitionField}
use Rattle.ice_manifest.specs.declared.partition_names.Naming.{Naming}
use Rattle.ice_manifest.specs.declared.partition_names.Naming.TheVariants as by

-- whether a character may stand in an Avro name
abbrev pub is_in_names : ℕ → Bool
is_in_names c = is_ascii_alphanumeric c || nat_eq c 95

-- how a character is spelled: as it is, or as `_x` and its number in hexadecimal
abbrev pub spelled : ℕ → List ℕ
spelled c = if is_in_names c then encode_utf8 c else codes "_x" ++ digits 16 true c

-- what stands before the spelling of these characters: no digit comes first
abbrev pub before : List ℕ → List ℕ
before [] = []
before (c ∷ cs) = if is_ascii_digit c then codes "_" else []

-- the Avro name of a name
unfoldable pub avro_name : List ℕ → List ℕ
avro_name name = before (chars name) ++ flat_map spelled (chars name)

-- whether no name is empty and no two are alike
abbrev pub are_apart : List (List ℕ) → Bool
are_apart [] = true
are_apart ([] ∷ names) = false
are_apart (name ∷ names) = not (list_any (bytes_eq name) names) && are_apart names

-- fields are called by their own names where these tell them apart, and else by their ids
abbrev pub naming_of : List PartitionField → Naming
naming_of ps = if are_apart (map (λ (p : PartitionField). avro_name p.name) ps) then by.Own else by.Numbered

abbrev pub numbered_name : ℤ → List ℕ
numbered_name id = codes "p" ++ signed_decimal id

abbrev pub field_name : Naming → PartitionField → List ℕ
field_name by.Own p = avro_name p.name
field_name by.Numbered p = numbered_name p.field_id
