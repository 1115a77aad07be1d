-- What the code's kinds of types stand for.
use Rattle.std.specs.Prelude.{Bool}
use Rattle.avro_schema.specs.Tree.{Tree}
use Rattle.ice_manifest_fields.specs.declared.kind.Kind.{Kind}
use Rattle.ice_manifest_fields.specs.declared.kind.Kind.TheVariants as kind
use Rattle.ice_manifest_fields.specs.Types.{is_whole, is_truth, is_text, is_binary, is_list, is_array, is_record}

unfoldable pub wanted : Kind → Tree → Bool
wanted kind.Whole = is_whole
wanted kind.Truth = is_truth
wanted kind.Text = is_text
wanted kind.Binary = is_binary
wanted kind.List = is_list
wanted kind.Array = is_array
wanted kind.Record = is_record
