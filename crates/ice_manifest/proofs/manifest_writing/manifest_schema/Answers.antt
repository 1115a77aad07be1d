use Rattle.std.proofs.Common.{◌≡◌, String, Global, Some, string_bytes}
use Rattle.serde_json.specs.Read.{read}
use Rattle.avro_file.proofs.Filed.{if_ok}
use Rattle.ice_manifest.specs.WrittenTypes.{json_of}
use Rattle.ice_manifest.specs.Writing.{schema_text, manifest_type}
use Rattle.ice_manifest.proofs.WrittenText.{compact, read_again}
use Rattle.ice_manifest.proofs.ManifestKnown.{manifest_height}
use Rattle.ice_manifest.proofs.manifest_writing.manifest_schema.Goals as goal

pub returns-clause-text : goal.returns-clause-text
returns-clause-text c =
    if_ok _ (λ (text : String Global). string_bytes text ≡ schema_text (manifest_type c.args.heading.now))
    c.to_string.result (λ text said.
    compact (manifest_type c.args.heading.now) _ (string_bytes text) c.in_ok-manifest_type.ensures.json said)
    c.to_string.ensures.text

pub returns-clause-read : goal.returns-clause-read
returns-clause-read c =
    if_ok _ (λ (text : String Global). read (string_bytes text) ≡ Some (json_of (manifest_type c.args.heading.now)))
    c.to_string.result (λ text said.
    read_again (manifest_type c.args.heading.now) _ (string_bytes text) c.in_ok-manifest_type.ensures.json
    (manifest_height c.args.heading.now) said) c.to_string.ensures.reads_back
