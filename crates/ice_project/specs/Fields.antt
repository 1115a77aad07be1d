-- The transforms of partition fields (Apache Iceberg table spec v2, "Partition Transforms").
use Rattle.std.specs.Prelude.{◌≡◌, ℕ, Bool, true, false, ◌&&◌, List, codes, Option, None, Some, if◌then◌else◌, map}
use Rattle.std.specs.Prelude.{nat_lt, refl}
use Rattle.std.specs.Option.{option_map, option_and_then, option_or}
use Rattle.std.specs.Str.{bytes_eq}
use Rattle.std.proofs.lemmas.Bool.{and_parts, ltb-true}
use Rattle.ice_transform.specs.Names.{parameter_in}
use Rattle.ice_transform.specs.declared.parameter.Parameter.{Parameter}
use Rattle.ice_transform.specs.declared.transform.Transform.{Transform}
use Rattle.ice_transform.specs.declared.transform.Transform.TheVariants.{Identity, Bucket, Truncate, Year, Month, Day}
use Rattle.ice_transform.specs.declared.transform.Transform.TheVariants.{Hour, Void, Unknown}
use Rattle.ice_meta.specs.declared.spec.PartitionField.{PartitionField}
use Rattle.ice_meta.specs.declared.spec.Spec.{Spec}
use Rattle.ice_project.specs.declared.field.Field.{Field}

-- the number of a transform, where the test says that it is from 1 to 2147483647
abbrev pub parameter_where : (n : ℕ) (b : Bool) → (nat_lt 0 n && nat_lt n 0x8000_0000) ≡ b → Option Parameter
parameter_where n true e =
    let parts = and_parts (nat_lt 0 n) (nat_lt n 0x8000_0000) e in
    Some (record { number = n; positive = ltb-true 0 n parts.0; below = ltb-true n 0x8000_0000 parts.1 })
parameter_where n false e = None

abbrev pub parameter_of : ℕ → Option Parameter
parameter_of n = parameter_where n (nat_lt 0 n && nat_lt n 0x8000_0000) refl

-- a bucket or truncate transform with its number
abbrev pub numbered_transform : List ℕ → Option Transform
numbered_transform text =
    option_or (option_map Bucket (option_and_then parameter_of (parameter_in (codes "bucket[") text)))
    (option_map Truncate (option_and_then parameter_of (parameter_in (codes "truncate[") text)))

-- the transform, or else the other
abbrev pub transform_or : Option Transform → Transform → Transform
transform_or (Some transform) other = transform
transform_or None other = other

-- the transform that a text names; a text that names none is kept
abbrev pub transform_named : List ℕ → Transform
transform_named text =
    if bytes_eq text (codes "identity") then Identity
    else if bytes_eq text (codes "year") then Year
    else if bytes_eq text (codes "month") then Month
    else if bytes_eq text (codes "day") then Day
    else if bytes_eq text (codes "hour") then Hour
    else if bytes_eq text (codes "void") then Void
    else transform_or (numbered_transform text) (Unknown text)

-- a field: its column, the column's type, and its transform
abbrev pub field_of : PartitionField → Field
field_of f = record { source_id = f.source_id; source_type = f.source_type; transform = transform_named f.transform }

abbrev pub fields_of : Spec → List Field
fields_of spec = map field_of spec.fields
