use Rattle.std.proofs.Common.{◌≡◌, ◌∙◌, false, Option, Some, None, sym, ap, subst}
use Rattle.avro_schema.specs.View.{tree}
use Rattle.avro_file_picked.specs.declared.found.Found.{Found}
use Rattle.avro_file_picked.specs.Finding.{IsMet}
use Rattle.avro_schema.specs.Tree.{string}
use Rattle.avro_file.proofs.Leaves.{tree-String}
use Rattle.ice_manifest_fields.specs.Fields.{text_of}
use Rattle.ice_manifest_fields.specs.Types.{is_text}
use Rattle.ice_manifest_values.proofs.Others.{no_text}
use Rattle.ice_manifest_values.proofs.Schemas.{other_text}
use Rattle.ice_manifest_values.proofs.Shown.{text_there, text_never, seen_there}
use Rattle.ice_manifest_values.proofs.leaf.text.Goals as goal

pub returns-in-Ok : goal.returns-in-Ok
returns-in-Ok c = λ met is.
    let m : IsMet (Some c.in_ok-found.found) met =
    subst (λ (o : Option Found). IsMet o met) c.in_ok-found.was is in
    let t : tree c.in_ok-found.found.schema.now ≡ string = ap tree (sym c.schema.ensures ∙ c.in-String.is)
    ∙ tree-String in
    text_there c.in_ok-found.found met c.bytes.result.now
    (c.in-Ok.text.now, c.in-Ok.field-0-1.now) t c.bytes.ensures c.in-Ok.ensures m

pub returns-in-Err : goal.returns-in-Err
returns-in-Err c = λ met is.
    let m : IsMet (Some c.in_ok-found.found) met =
    subst (λ (o : Option Found). IsMet o met) c.in_ok-found.was is in
    let t : tree c.in_ok-found.found.schema.now ≡ string = ap tree (sym c.schema.ensures ∙ c.in-String.is)
    ∙ tree-String in
    absurd (text_never c.in_ok-found.found met c.bytes.result.now c.in-Err.field-0 t c.bytes.ensures c.in-Err.ensures m)

pub returns-in_default : goal.returns-in_default
returns-in_default c = λ met is.
    let m : IsMet (Some c.in_ok-found.found) met =
    subst (λ (o : Option Found). IsMet o met) c.in_ok-found.was is in
    let other : is_text (tree c.schema.result.now) ≡ false =
    other_text c.schema.result.now c.in_default.not-String in
    seen_there text_of None (tree c.schema.result.now) c.in_ok-found.found met (ap tree c.schema.ensures)
    (no_text (tree c.schema.result.now) other) m
