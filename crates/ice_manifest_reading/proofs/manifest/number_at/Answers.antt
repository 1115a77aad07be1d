use Rattle.std.proofs.Common.{◌≡◌, ℤ, to_z, of_z, w32, rules, sym, ap, ◌∙◌}
use Rattle.std.proofs.lemmas.Int.{to_z-of_z}
use Rattle.ice_manifest_fields.specs.Fields.{at}
use Rattle.ice_manifest_values.specs.Met.{optional_number_met}
use Rattle.ice_manifest_values.proofs.Said.{optional_number_said}
use Rattle.ice_manifest_layouts.specs.Seen.{entry_seen}
use Rattle.ice_manifest_layouts.specs.FieldPaths.{entry_id}
use Rattle.ice_manifest_reading.proofs.manifest.number_at.Goals as goal

pub returns : goal.returns
returns c =
    let id : to_z w32 (of_z w32 c.id.result) ≡ c.id.result = to_z-of_z w32 c.id.result (search rules) in
    let seen = entry_seen c.args.entry.now in
    let met = at (entry_id c.args.field) seen in
    c.optional_number.ensures met c.found.ensures ∙ ap (λ (z : ℤ). optional_number_met z met) (id ∙ c.id.ensures)
    ∙ sym (optional_number_said (entry_id c.args.field) seen)
