use Rattle.std.proofs.Common.{◌∙◌}
use Rattle.serde_json.specs.View.{view}
use Rattle.ice_meta.proofs.SchemaText.{text_is}
use Rattle.ice_meta.proofs.schema_text.schema_text.Goals as goal

pub returns : goal.returns
returns c = c.from_string.ensures ∙ text_is (view c.args.json.now) _ _ c.in_ok-schema_json.ensures
    c.in_ok-to_string.ensures.text
