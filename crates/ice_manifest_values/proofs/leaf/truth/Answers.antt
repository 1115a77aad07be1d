use Rattle.std.proofs.Common.{Option, Some, sym, ap, subst, ◌∙◌}
use Rattle.avro_file.specs.Picking.{Picked}
use Rattle.avro_file_picked.specs.declared.found.Found.{Found}
use Rattle.avro_file_picked.specs.Finding.{IsMet}
use Rattle.ice_manifest_fields.specs.Fields.{there, truth_of}
use Rattle.ice_manifest_values.proofs.leaf.truth.Goals as goal

pub returns : goal.returns
returns c = λ met is.
    let m : IsMet (Some c.in_ok-found.found) met =
    subst (λ (o : Option Found). IsMet o met) c.in_ok-found.was is in
    (rw (c.schema.ensures, c.bytes.ensures) at c.truth_at.ensures) m.0 m.1
    ∙ sym (ap (λ (p : Picked). truth_of (there p)) m.2)
