-- Maps of columns of which no pair can be at fault, whatever they hold.
use Rattle.std.specs.Prelude.{Bool, true, false, ◌&&◌, Option, Some}
use Rattle.avro_schema.specs.Tree.{Tree, int, array}
use Rattle.ice_manifest_fields.specs.declared.columns.ColumnMap.{ColumnMap}
use Rattle.ice_manifest_fields.specs.declared.kind.Kind.{Kind}
use Rattle.ice_manifest_fields.specs.declared.kind.Kind.TheVariants as kind
use Rattle.ice_manifest_fields.specs.Types.{is_whole, is_binary}
use Rattle.ice_manifest_fields.specs.Schemas.{fields_in, type_at}

-- a number of 32 bits, which cannot be null
abbrev pub is_small : Option Tree → Bool
is_small (Some int) = true
is_small t = false

-- what a map of this kind says of a column, which cannot be null
abbrev pub is_said : Kind → Option Tree → Bool
is_said kind.Whole (Some t) = is_whole t
is_said kind.Binary (Some t) = is_binary t
is_said k t = false

-- each pair of the type has its key and what it says
abbrev pub is_sound_pair : ColumnMap → Tree → Bool
is_sound_pair m t = is_small (type_at m.key (fields_in t)) && is_said m.kind (type_at m.said (fields_in t))

-- no map of the type has a pair at fault
abbrev pub is_sound : ColumnMap → Tree → Bool
is_sound m (array t id kind) = is_sound_pair m t
is_sound m t = false
