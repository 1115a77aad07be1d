use Rattle.std.proofs.Common.{◌≡◌, ℤ, to_z, of_z, w32, rules, ap, ◌∙◌}
use Rattle.std.proofs.lemmas.Int.{to_z-of_z}
use Rattle.ice_manifest_fields.specs.Fields.{at}
use Rattle.ice_manifest_values.specs.Met.{long_met}
use Rattle.ice_manifest_layouts.specs.Seen.{file_seen}
use Rattle.ice_manifest_layouts.specs.FieldPaths.{file_id}
use Rattle.ice_manifest_reading.proofs.manifest.long_at.Goals as goal

pub returns : goal.returns
returns c =
    let id : to_z w32 (of_z w32 c.id.result) ≡ c.id.result = to_z-of_z w32 c.id.result (search rules) in
    let met = at (file_id c.args.field) (file_seen c.args.file.now) in
    c.long_asked.ensures met c.found.ensures ∙ ap (λ (z : ℤ). long_met z met) (id ∙ c.id.ensures)
