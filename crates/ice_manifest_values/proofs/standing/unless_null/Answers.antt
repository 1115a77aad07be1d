use Rattle.std.proofs.Common.{◌≡◌, true, ap, ◌∙◌}
use Rattle.avro_schema.specs.View.{tree}
use Rattle.avro_file_picked.specs.Finding.{has_null_only}
use Rattle.avro_file.proofs.Leaves.{tree-Null}
use Rattle.ice_manifest_values.proofs.Within.{other_null, nothing_there, something_there}
use Rattle.ice_manifest_values.proofs.standing.unless_null.Goals as goal

pub returns-in-Null : goal.returns-in-Null
returns-in-Null c = λ v is.
    let null : has_null_only (tree c.args.schema.now) ≡ true = ap has_null_only (ap tree c.in-Null.is ∙ tree-Null) in
    nothing_there (tree c.args.schema.now) c.args.bytes.now v null is

pub returns-in_default : goal.returns-in_default
returns-in_default c = λ v is. (
  v,
  is,
  something_there (tree c.args.schema.now) c.args.bytes.now v
      (other_null c.args.schema.now c.in_default.not-Null) is,
)
