use Rattle.std.proofs.Common.{◌≡◌, ◌++◌, take}
use Rattle.std.specs.List.{flat_map}
use Rattle.serde_json.specs.View.{view}
use Rattle.icescan_columns.specs.JsonLines.{schema_objects}
use Rattle.icescan_columns.proofs.json_lines.push_schemas.Given as goal

-- the lines so far
abbrev pub invariant-schemas : goal.invariant-schemas
invariant-schemas l =
    l.lines ≡ l.fn.lines ++ flat_map (schema_objects (view l.metadata)) (take l.schema-index l.schemas)
