use Rattle.std.proofs.Common.{◌≡◌, ℤ, to_z, of_z, w32, rules, pos, sym, ap, ◌∙◌}
use Rattle.std.proofs.lemmas.Int.{to_z-of_z}
use Rattle.ice_manifest_fields.specs.Fields.{at}
use Rattle.ice_manifest_values.specs.Met.{int_met}
use Rattle.ice_manifest_values.proofs.Said.{int_said}
use Rattle.ice_manifest_layouts.specs.Seen.{entry_seen}
use Rattle.ice_manifest_reading.proofs.manifest.status_code.Goals as goal

pub returns : goal.returns
returns c =
    let id : to_z w32 (of_z w32 c.id.result) ≡ c.id.result = to_z-of_z w32 c.id.result (search rules) in
    let seen = entry_seen c.args.entry.now in
    c.int_asked.ensures (at (pos 0) seen) c.found.ensures
    ∙ ap (λ (z : ℤ). int_met z (at (pos 0) seen)) (id ∙ c.id.ensures) ∙ sym (int_said (pos 0) seen)
