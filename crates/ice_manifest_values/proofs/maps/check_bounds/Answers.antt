use Rattle.std.proofs.Common.{Option, sym, ap, subst, ◌∙◌}
use Rattle.avro_schema.specs.declared.schema.Schema.{Schema}
use Rattle.avro_schema.specs.View.{tree}
use Rattle.avro_file_picked.specs.declared.found.Found.{Found}
use Rattle.avro_file_picked.specs.Finding.{IsMet}
use Rattle.ice_manifest_values.specs.SoundMaps.{is_sound}
use Rattle.ice_manifest_values.proofs.SoundMaps.{bounds_sound}
use Rattle.ice_manifest_values.proofs.maps.check_bounds.Goals as goal

pub returns-in-Some : goal.returns-in-Some
returns-in-Some c = λ met is leads.
    let sound = ap (λ (s : Schema). is_sound c.args.map (tree s)) (sym c.schema.ensures) ∙ sym c.is_sound.ensures
    ∙ c.if-is_sound.true in
    bounds_sound c.args.map c.in-Some.found met c.requires sound
    (subst (λ (o : Option Found). IsMet o met) c.in-Some.is is)
