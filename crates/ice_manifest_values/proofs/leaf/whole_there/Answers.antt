use Rattle.std.proofs.Common.{Option, Some, sym, ap, subst, ◌∙◌}
use Rattle.ice_manifest_fields.specs.Fields.{whole_of}
use Rattle.ice_manifest_values.specs.declared.standing.Standing.{Standing}
use Rattle.ice_manifest_values.specs.InPlace.{IsThere}
use Rattle.ice_manifest_values.proofs.leaf.whole_there.Goals as goal

pub returns : goal.returns
returns c = λ x is.
    let m : IsThere (Some c.in_ok-found.found) x =
    subst (λ (o : Option Standing). IsThere o x) c.in_ok-found.was is in
    c.whole_at.ensures m.0 m.1 ∙ sym (ap whole_of m.2)
