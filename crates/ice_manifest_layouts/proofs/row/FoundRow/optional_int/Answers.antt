use Rattle.std.proofs.Common.{◌≡◌, ℤ, to_z, of_z, w32, rules, sym, ap, ◌∙◌}
use Rattle.std.proofs.lemmas.Int.{to_z-of_z}
use Rattle.ice_manifest_fields.specs.Fields.{at}
use Rattle.ice_manifest_values.specs.Met.{optional_int_met}
use Rattle.ice_manifest_values.proofs.Said.{optional_int_said}
use Rattle.ice_manifest_layouts.specs.RowsFound.{row_id, row_seen}
use Rattle.ice_manifest_layouts.proofs.row.FoundRow.optional_int.Goals as goal

pub returns : goal.returns
returns c =
    let id : to_z w32 (of_z w32 c.id.result) ≡ c.id.result = to_z-of_z w32 c.id.result (search rules) in
    let seen = row_seen c.args.self.now in
    let met = at (row_id c.args.field) seen in
    c.optional_int.ensures met c.found.ensures ∙ ap (λ (z : ℤ). optional_int_met z met) (id ∙ c.id.ensures)
    ∙ sym (optional_int_said (row_id c.args.field) seen)
