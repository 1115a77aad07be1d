use Rattle.std.proofs.Common.{◌≡◌, pos, [], to_z, of_z, w64, rules, sym, subst, ◌∙◌}
use Rattle.std.proofs.lemmas.Int.{to_z-of_z}
use Rattle.avro_schema.specs.declared.schema.Schema.{Schema}
use Rattle.avro_schema.specs.View.{tree}
use Rattle.avro_file.specs.Blocks.{StandsAt}
use Rattle.avro_file.specs.Picking.{Picked}
use Rattle.avro_file_picked.specs.Finding.{within}
use Rattle.ice_manifest_fields.specs.Fields.{there}
use Rattle.ice_manifest_values.specs.InPlace.{IsThere}
use Rattle.ice_manifest_values.proofs.Within.{number_never_fails, never_negative, never_past, chosen_there}
use Rattle.ice_manifest_values.proofs.standing.itself.Goals as goal

pub returns-in_default-long_of : goal.returns-in_default-long_of
returns-in_default-long_of c = λ v at.
    absurd (number_never_fails (tree c.args.schema.now) c.in-Some.branches.now c.args.bytes.now v
    c.in_default-long_of.field-0 (sym c.in-Some.ensures) c.in_default-long_of.ensures at)

pub returns-in_err-position : goal.returns-in_err-position
returns-in_err-position c = λ v at.
    let same : to_z w64 (of_z w64 c.in-Ok.position) ≡ c.in-Ok.position = to_z-of_z w64 c.in-Ok.position
    (search rules) in
    absurd (never_negative (tree c.args.schema.now) c.in-Some.branches.now c.args.bytes.now c.in-Ok.bytes.now v
    c.in-Ok.position (sym c.in-Some.ensures) c.in-Ok.ensures (rw same at c.in_err-position.ensures) at)

pub returns-then-position-branches : goal.returns-then-position-branches
returns-then-position-branches c = λ v at.
    let same : to_z w64 (of_z w64 c.in-Ok.position) ≡ c.in-Ok.position = to_z-of_z w64 c.in-Ok.position
    (search rules) in
    let is : c.in-Ok.position ≡ pos c.in_ok-position.position = sym same ∙ c.in_ok-position.ensures in
    absurd (never_past (tree c.args.schema.now) c.in-Some.branches.now c.in_ok-position.position c.args.bytes.now
    c.in-Ok.bytes.now v (sym c.in-Some.ensures) (rw is at c.in-Ok.ensures) c.if-position-branches.true at)

pub returns : goal.returns
returns c = λ v at.
    let same : to_z w64 (of_z w64 c.in-Ok.position) ≡ c.in-Ok.position = to_z-of_z w64 c.in-Ok.position
    (search rules) in
    let is : c.in-Ok.position ≡ pos c.in_ok-position.position = sym same ∙ c.in_ok-position.ensures in
    let chosen = chosen_there (tree c.args.schema.now) c.in-Some.branches.now c.in_ok-position.position
    c.index-branches-position.result c.args.bytes.now c.in-Ok.bytes.now v (sym c.in-Some.ensures)
    c.if-position-branches.false (rw is at c.in-Ok.ensures) at in
    let there_is = subst (λ (s : Schema). StandsAt (tree s) c.in-Ok.bytes.now chosen.0
    → IsThere c.unless_null-2.result (there (within [] (tree s, chosen.0)))) c.index-branches-position.is
    (c.unless_null-2.ensures chosen.0) in
    subst (λ (m : Picked). IsThere c.unless_null-2.result (there m)) (sym chosen.2) (there_is chosen.1)
