use Rattle.std.proofs.Common.{◌<◌, ◌∙◌, arith, length, refl}
use Rattle.std.proofs.lemmas.Option.{slice_get_read}
use Rattle.ice_state.proofs.Held.{one_more_projected}
use Rattle.ice_state.proofs.scan.pruning.Pruning.hold.Goals as goal

pub invariant_of-self : goal.invariant_of-self
invariant_of-self c =
    let specs = c.self.inside.specs.items in
    let at = c.place_of-at.result in
    let within : at < length specs = omega (arith, c.if-at-len.false, c.len.ensures) in
    let here = slice_get_read specs (length specs) at c.index-3.result.now refl within c.index-3.ensures in
    record {
      by_id = c.self.invariant.by_id;
      held = one_more_projected c.self.inside.filter.parts specs c.self.inside.parts.items at c.index-3.result.now
          c.in_ok-new.field-0 here (c.in_ok-new.ensures ∙ c.in_ok-part.ensures) c.self.invariant.held;
    }
