use Rattle.std.proofs.Common.{◌≡◌, String, Global, string_bytes, ◌∙◌, ap}
use Rattle.serde_json.specs.Data.{array}
use Rattle.avro_file.proofs.Filed.{if_ok}
use Rattle.ice_manifest.specs.Writing.{partition_fields_json, spec_text}
use Rattle.ice_manifest.proofs.WrittenText.{spec_compact}
use Rattle.ice_manifest.proofs.manifest_writing.spec_text.Goals as goal

pub returns : goal.returns
returns c =
    if_ok _ (λ (text : String Global). string_bytes text ≡ spec_text c.args.spec.now) c.to_string.result (λ text said.
    spec_compact c.args.spec.now _ (string_bytes text) (c.from.ensures ∙ ap array (c.in_ok-partition_fields_json.ensures
    ∙ ap partition_fields_json c.as_slice.ensures)) said) c.to_string.ensures.text
