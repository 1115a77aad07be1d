use Rattle.std.proofs.Common.{◌≡◌, ℤ, pos, to_z, of_z, w64, rules, Option, sym, ap, ◌∙◌}
use Rattle.std.specs.Prelude.{unwrap_or}
use Rattle.std.proofs.lemmas.Int.{to_z-of_z}
use Rattle.ice_manifest_fields.specs.Fields.{at}
use Rattle.ice_manifest_layouts.specs.Seen.{file_seen}
use Rattle.ice_manifest_reading.proofs.Counting.{rows_found}
use Rattle.ice_manifest_reading.proofs.manifest.rows_of.Goals as goal

pub returns-in-Some : goal.returns-in-Some
returns-in-Some c =
    let file = c.in-Some.file in
    let fits : to_z w64 (of_z w64 c.unwrap_or.result) ≡ c.unwrap_or.result =
    to_z-of_z w64 c.unwrap_or.result (search rules) in
    fits ∙ c.unwrap_or.ensures
    ∙ ap (λ (o : Option ℤ). unwrap_or o (pos 0)) (c.whole.ensures (at (pos 103) (file_seen file)) c.found.ensures)
    ∙ sym (rows_found c.args.entry.now file c.in-Some.ensures.0 c.in-Some.ensures.1)
