-- What can be added to a table: the files of a new manifest, and what they have in common.
use Rattle.std.specs.Prelude.{◌≡◌, ◌<◌, ◌≤◌, ◌^◌, ℕ, ℤ, pos, negsuc, Bool, true, false, ◌&&◌, List, [], ◌∷◌, length}
use Rattle.std.specs.Prelude.{map, nat_lt, IfSome}
use Rattle.std.specs.List.{AllByRecursion}
use denote.Ref.{Bor}
use Rattle.ice_value.specs.declared.column_type.ColumnType.{ColumnType}
use Rattle.ice_value.specs.declared.column_type.ColumnType.TheVariants.{Float, Double, Decimal, Fixed}
use Rattle.ice_value.specs.declared.file_content.FileContent.{FileContent}
use Rattle.ice_value.specs.declared.file_content.FileContent.TheVariants as holds
use Rattle.ice_value.specs.declared.cell.Cell.{Cell}
use Rattle.ice_value.specs.declared.cell.Cell.TheVariants.{Null}
use Rattle.ice_value.specs.Bounds.{is_value}
use Rattle.ice_meta.specs.Different.{HasDifferentFields}
use Rattle.ice_manifest.specs.declared.new_file.NewFile.{NewFile}
use Rattle.ice_manifest.specs.declared.heading.Heading.{Heading}
use Rattle.ice_manifest_reading.specs.Laws.{MayHold}

-- whether partition values of the type are written: of all types but these; Avro has no fixed type of more bytes
abbrev pub is_partition_type : ColumnType → Bool
is_partition_type Float = false
is_partition_type Double = false
is_partition_type (Decimal precision scale) = false
is_partition_type (Fixed size) = nat_lt size (2 ^ 31)
is_partition_type t = true

-- null, or a value of the type
abbrev pub is_null_or_of : ColumnType → Cell → Bool
is_null_or_of t Null = true
is_null_or_of t c = is_value t c

-- a cell for each type, each null or a value of its type
abbrev pub is_tuple_of : List ColumnType → List Cell → Bool
is_tuple_of [] [] = true
is_tuple_of (t ∷ ts) (c ∷ cs) = is_null_or_of t c && is_tuple_of ts cs
is_tuple_of ts cs = false

-- the values of a slice's references
abbrev pub lent : {A : Type 0} → List (Bor A) → List A
lent {A} xs = map (λ (x : Bor A). x.now) xs

-- a spec of at most 64 fields of different ids, and for each the type of its values, which are written
pub record IsHeading (h : Heading) : Type 0 where
  pub few : length h.spec.fields ≤ 64
  pub different : HasDifferentFields h.spec
  pub typed : length h.types ≡ length h.spec.fields
  pub written : AllByRecursion (λ t. is_partition_type t ≡ true) h.types

-- an id of 32 bits
abbrev pub IsId : ℤ → Type 0
IsId (pos n) = n < 2 ^ 31
IsId (negsuc n) = n < 2 ^ 31

-- from 0 to 2^40
abbrev pub IsAmount : ℤ → Type 0
IsAmount (pos n) = n ≤ 2 ^ 40
IsAmount (negsuc n) = ⊥

-- position deletes alone may name one data file that they are about, by a path that is read again
abbrev pub MayReference : FileContent → List ℕ → Type 0
MayReference content path = (content ≡ holds.PositionDeletes) × (length path ≤ 65535)

-- a file that a manifest of this heading can have
pub record IsNewFile (h : Heading) (f : NewFile) : Type 0 where
  pub content : MayHold h.content f.content
  pub path : length f.path ≤ 65535
  pub tuple : is_tuple_of h.types f.tuple ≡ true
  pub record_count : IsAmount f.record_count
  pub equality_ids : length f.equality_ids ≤ 1000
  pub referenced : IfSome f.referenced (MayReference f.content)

pub record AreNewFiles (h : Heading) (fs : List NewFile) : Type 0 where
  pub each : AllByRecursion (IsNewFile h) fs
  pub few : length fs ≤ 1000000
