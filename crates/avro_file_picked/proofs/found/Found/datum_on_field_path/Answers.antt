use Rattle.std.proofs.Common.{Some, ap, ◌∙◌, sym}
use Rattle.avro_file.specs.Value.{Value}
use Rattle.avro_file_picked.specs.Picked.{value_met}
use Rattle.avro_file_picked.proofs.found.Found.datum_on_field_path.Goals as goal

pub returns-in_ok-datum-in-Some : goal.returns-in_ok-datum-in-Some
returns-in_ok-datum-in-Some c = λ v is.
    let met = c.in-Some.ensures v is in
    ap (λ (w : Value). Some w) (c.in_ok-datum-in-Some.ensures met.0 met.1) ∙ sym (ap value_met met.2)
