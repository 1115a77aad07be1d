use Rattle.std.proofs.Common.{◌≡◌, List, ℕ, [], ◌∷◌, ◌∙◌, Ok, sym, subst, Some}
use Rattle.std.proofs.lemmas.Str.{is_utf8-from_IsUtf8}
use Rattle.serde_json.specs.Read.{read}
use Rattle.avro_schema.specs.Texts.{schema_of}
use Rattle.avro_file.specs.declared.writer.Writer.{Writer}
use Rattle.avro_file.specs.Writing.{in_order}
use Rattle.avro_file.specs.Writers.{WasGiven, WillWrite}
use Rattle.avro_file.proofs.Filed.{if_ok}
use Rattle.ice_manifest.specs.WrittenTypes.{json_of, written_tree}
use Rattle.ice_manifest.specs.WrittenSchemas.{list_type}
use Rattle.ice_manifest.specs.Writing.{schema_text, version_property}
use Rattle.ice_manifest.proofs.WrittenKnown.{list_read}
use Rattle.ice_manifest.proofs.list_writing.without_rows.Goals as goal

pub begun-requires-clause-named : goal.begun-requires-clause-named
begun-requires-clause-named c =
    let text = c.as_str.result.now in
    let said : read text ≡ Some (json_of list_type) = subst (λ (t : List ℕ). read t ≡ Some (json_of list_type))
    (sym c.as_str.ensures.value) c.in_ok-schema.ensures.read in
    (written_tree list_type, list_read text (is_utf8-from_IsUtf8 text c.as_str.utf8) said)

pub returns-clause-given : goal.returns-clause-given
returns-clause-given c =
    let text = c.as_str.result.now in
    let said : read text ≡ Some (json_of list_type) = subst (λ (t : List ℕ). read t ≡ Some (json_of list_type))
    (sym c.as_str.ensures.value) c.in_ok-schema.ensures.read in
    let named : schema_of text ≡ Ok (written_tree list_type) = list_read text (is_utf8-from_IsUtf8 text c.as_str.utf8)
    said in
    if_ok _ (λ (w : Writer). WasGiven w (in_order (schema_text list_type) (version_property ∷ []))
    (written_tree list_type) []) c.begun.result (λ w given.
    subst (λ (t : List ℕ). WasGiven w (in_order t (version_property ∷ [])) (written_tree list_type) [])
    (c.as_str.ensures.value ∙ c.in_ok-schema.ensures.text) (given (written_tree list_type) named))
    c.begun.ensures.given

pub returns-clause-exact : goal.returns-clause-exact
returns-clause-exact c =
    if_ok _ (λ (w : Writer). WillWrite w (in_order (schema_text list_type) (version_property ∷ [])) c.args.sync [])
    c.begun.result (λ w exact.
    subst (λ (t : List ℕ). WillWrite w (in_order t (version_property ∷ [])) c.args.sync []) (c.as_str.ensures.value ∙
    c.in_ok-schema.ensures.text) exact) c.begun.ensures.exact
