use Rattle.std.proofs.Common.{◌≡◌, List, ℕ, [], ◌∙◌, Ok, sym, subst, Some}
use Rattle.std.proofs.lemmas.Str.{is_utf8-from_IsUtf8}
use Rattle.serde_json.specs.Read.{read}
use Rattle.avro_schema.specs.Texts.{schema_of}
use Rattle.avro_file.specs.declared.writer.Writer.{Writer}
use Rattle.avro_file.specs.Header.{Property}
use Rattle.avro_file.specs.Property.{shown_properties}
use Rattle.avro_file.specs.Writing.{in_order}
use Rattle.avro_file.specs.Writers.{WasGiven, WillWrite}
use Rattle.avro_file.proofs.Filed.{if_ok}
use Rattle.ice_manifest.specs.WrittenTypes.{json_of, written_tree}
use Rattle.ice_manifest.specs.Writing.{schema_text, manifest_type, manifest_properties}
use Rattle.ice_manifest.proofs.ManifestNames.{manifest_read}
use Rattle.ice_manifest.proofs.WrittenFiles.{same_properties, texts_as}
use Rattle.ice_manifest.proofs.manifest_writing.without_entries.Goals as goal

pub begun-requires-clause-keys : goal.begun-requires-clause-keys
begun-requires-clause-keys c = let t = c.in_ok-texts.texts in texts_as _ t.schema t.schema_id t.spec t.spec_id
    c.args.heading.now.content c.properties_of-metadata.ensures

pub begun-requires-clause-named : goal.begun-requires-clause-named
begun-requires-clause-named c =
    let h = c.args.heading.now in
    let text = c.as_str.result.now in
    let said : read text ≡ Some (json_of (manifest_type h)) = subst (λ (t : List ℕ). read t ≡ Some
    (json_of (manifest_type h))) (sym c.as_str.ensures.value) c.in_ok-schema.ensures.read in (
      written_tree (manifest_type h),
      manifest_read h text c.requires c.in_ok-schema.ensures.ids
          (is_utf8-from_IsUtf8 text c.as_str.utf8) said,
    )

pub returns-clause-given : goal.returns-clause-given
returns-clause-given c =
    let h = c.args.heading.now in
    let t = c.in_ok-texts.texts in
    let text = c.as_str.result.now in
    let said : read text ≡ Some (json_of (manifest_type h)) = subst (λ (s : List ℕ). read s ≡ Some
    (json_of (manifest_type h))) (sym c.as_str.ensures.value) c.in_ok-schema.ensures.read in
    let named : schema_of text ≡ Ok (written_tree (manifest_type h)) = manifest_read h text c.requires
    c.in_ok-schema.ensures.ids (is_utf8-from_IsUtf8 text c.as_str.utf8) said in
    let shown = c.properties_of-metadata.ensures ∙ same_properties h t.schema t.schema_id t.spec t.spec_id
    c.in_ok-texts.ensures.schema c.in_ok-texts.ensures.schema_id c.in_ok-texts.ensures.spec
    c.in_ok-texts.ensures.spec_id in
    if_ok _ (λ (w : Writer). WasGiven w (in_order (schema_text (manifest_type h)) (manifest_properties h))
    (written_tree (manifest_type h)) []) c.begun.result (λ w given.
    subst (λ (ps : List Property). WasGiven w (in_order (schema_text (manifest_type h)) ps)
    (written_tree (manifest_type h)) []) shown
    (subst (λ (s : List ℕ). WasGiven w (in_order s (shown_properties c.properties_of-metadata.result))
    (written_tree (manifest_type h)) []) (c.as_str.ensures.value ∙ c.in_ok-schema.ensures.text)
    (given (written_tree (manifest_type h)) named))) c.begun.ensures.given

pub returns-clause-exact : goal.returns-clause-exact
returns-clause-exact c =
    let h = c.args.heading.now in
    let t = c.in_ok-texts.texts in
    let shown = c.properties_of-metadata.ensures ∙ same_properties h t.schema t.schema_id t.spec t.spec_id
    c.in_ok-texts.ensures.schema c.in_ok-texts.ensures.schema_id c.in_ok-texts.ensures.spec
    c.in_ok-texts.ensures.spec_id in
    if_ok _ (λ (w : Writer). WillWrite w (in_order (schema_text (manifest_type h)) (manifest_properties h)) h.sync [])
    c.begun.result (λ w exact.
    subst (λ (ps : List Property). WillWrite w (in_order (schema_text (manifest_type h)) ps) h.sync []) shown
    (subst (λ (s : List ℕ). WillWrite w (in_order s (shown_properties c.properties_of-metadata.result)) h.sync [])
    (c.as_str.ensures.value ∙ c.in_ok-schema.ensures.text) exact)) c.begun.ensures.exact
