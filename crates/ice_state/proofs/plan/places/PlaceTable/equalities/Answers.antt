use Rattle.std.proofs.Common.{◌∙◌, ap, sym, length, arith, List, ℕ, option_map, Some}
use Rattle.std.specs.List.{slice_range}
use Rattle.ice_state.specs.PlaceLists.{LinePlaces}
use Rattle.ice_state.proofs.PlaceTables.{has_ends, StandsAt, stands_at}
use Rattle.ice_state.proofs.plan.places.PlaceTable.equalities.Goals as goal
use Rattle.ice_state.proofs.plan.places.PlaceTable.equalities.Goals.{After-index-ends}

stands : (c : After-index-ends)
    → StandsAt c.self.inside.ends.items c.self.inside.places.items c.args.self.now c.args.i c.index-ends.result.now
stands c = stands_at c.self.inside.ends.items c.self.inside.places.items c.args.self.now c.args.i
    c.index-ends.result.now c.self.view_is c.self.invariant c.requires c.index-ends.ensures

pub index-ends-requires : goal.index-ends-requires
index-ends-requires c =
    let inside = has_ends c.self.inside.ends.items c.self.inside.places.items c.args.self.now c.args.i c.self.view_is
    c.requires in
    omega (arith, inside)

pub offset_bounds-deref-ends : goal.offset_bounds-deref-ends
offset_bounds-deref-ends c =
    let at = stands (goal.at.offset_bounds-deref-ends c).After-index-ends in
    omega (arith, at.second, at.within, ap length c.deref.ensures.value, c.deref.type_inv.1)

pub slice_bounds-result-count : goal.slice_bounds-result-count
slice_bounds-result-count c = (stands (goal.at.slice_bounds-result-count c).After-index-ends).second

pub slice_bounds-result-start : goal.slice_bounds-result-start
slice_bounds-result-start c =
    let at = stands (goal.at.slice_bounds-result-start c).After-index-ends in
    omega (arith, at.second)

pub slice_bounds-result-end : goal.slice_bounds-result-end
slice_bounds-result-end c =
    let at = stands (goal.at.slice_bounds-result-end c).After-index-ends in
    omega (arith, at.within, ap length c.deref.ensures.value)

pub returns : goal.returns
returns c =
    let e = c.index-ends.result.now in
    let at = stands (goal.at.returns c).After-index-ends in
    ap (option_map (λ (line : LinePlaces). line.equalities)) at.line
    ∙ ap (λ (ps : List ℕ). Some (slice_range ps e.positions e.equalities)) (sym c.deref.ensures.value)
