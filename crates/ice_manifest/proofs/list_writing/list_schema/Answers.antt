use Rattle.std.proofs.Common.{◌≡◌, String, Global, Some, string_bytes}
use Rattle.serde_json.specs.Read.{read}
use Rattle.avro_file.proofs.Filed.{if_ok}
use Rattle.ice_manifest.specs.WrittenTypes.{json_of}
use Rattle.ice_manifest.specs.WrittenSchemas.{list_type}
use Rattle.ice_manifest.specs.Writing.{schema_text}
use Rattle.ice_manifest.proofs.WrittenText.{compact, read_again}
use Rattle.ice_manifest.proofs.WrittenKnown.{list_height}
use Rattle.ice_manifest.proofs.list_writing.list_schema.Goals as goal

pub returns-clause-text : goal.returns-clause-text
returns-clause-text c =
    if_ok _ (λ (text : String Global). string_bytes text ≡ schema_text list_type) c.to_string.result (λ text said.
    compact list_type _ (string_bytes text) c.in_ok-list_type.ensures said) c.to_string.ensures.text

pub returns-clause-read : goal.returns-clause-read
returns-clause-read c =
    if_ok _ (λ (text : String Global). read (string_bytes text) ≡ Some (json_of list_type)) c.to_string.result
    (λ text said.
    read_again list_type _ (string_bytes text) c.in_ok-list_type.ensures list_height said)
    c.to_string.ensures.reads_back
