use Rattle.std.proofs.Common.{◌∙◌, List, ap, length, subst, sym}
use Rattle.ice_state.specs.declared.plan.places.Ends.{Ends}
use Rattle.ice_state.specs.PlaceLists.{lines_from, RiseWithin}
use Rattle.ice_state.proofs.PlaceTables.{no_ends, no_lines, no_rise}
use Rattle.ice_state.proofs.plan.places.PlaceTable.without_places.Goals as goal

pub invariant_of-result : goal.invariant_of-result
invariant_of-result c =
    subst (λ (es : List Ends). RiseWithin (length c.new.result.items) 0 es)
    (sym (c.in_ok-vec.ensures.items_if_clones_equal (λ y h. h)))
    (no_rise (length c.new.result.items) c.args.lines)

pub returns : goal.returns
returns c =
    ap (λ (es : List Ends). lines_from 0 es c.new.result.items) (c.in_ok-vec.ensures.items_if_clones_equal (λ y h. h))
    ∙ ap (lines_from 0 (no_ends c.args.lines)) c.new.ensures.items ∙ no_lines c.args.lines
