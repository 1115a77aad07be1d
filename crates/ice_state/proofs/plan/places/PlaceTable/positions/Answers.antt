use Rattle.std.proofs.Common.{◌≡◌, ◌∙◌, ap, sym, length, take, arith, List, ℕ, option_map, Some}
use Rattle.std.specs.List.{slice_range}
use Rattle.ice_state.specs.declared.plan.places.Ends.{Ends}
use Rattle.ice_state.specs.PlaceLists.{LinePlaces, end_of}
use Rattle.ice_state.proofs.PlaceTables.{has_ends, StandsAt, stands_at}
use Rattle.ice_state.proofs.plan.places.PlaceTable.positions.Goals as goal
use Rattle.ice_state.proofs.plan.places.PlaceTable.positions.Goals.{After-index}

stands : (c : After-index)
    → StandsAt c.self.inside.ends.items c.self.inside.places.items c.args.self.now c.args.i c.index.result.now
stands c = stands_at c.self.inside.ends.items c.self.inside.places.items c.args.self.now c.args.i c.index.result.now
    c.self.view_is c.self.invariant c.requires c.index.ensures

start : (c : After-index) → c.start_of.result ≡ end_of 0 (take c.args.i c.self.inside.ends.items)
start c = c.start_of.ensures ∙ ap (λ (es : List Ends). end_of 0 (take c.args.i es)) c.deref-2.ensures.value

pub start_of-requires : goal.start_of-requires
start_of-requires c =
    let inside = has_ends c.self.inside.ends.items c.self.inside.places.items c.args.self.now c.args.i c.self.view_is
    c.requires in
    omega (arith, inside, ap length c.deref-2.ensures.value)

pub index-requires : goal.index-requires
index-requires c =
    let inside = has_ends c.self.inside.ends.items c.self.inside.places.items c.args.self.now c.args.i c.self.view_is
    c.requires in
    omega (arith, inside)

pub offset_bounds-deref-start_of : goal.offset_bounds-deref-start_of
offset_bounds-deref-start_of c =
    let here = (goal.at.offset_bounds-deref-start_of c).After-index in
    let at = stands here in
    omega (
      arith,
      start here,
      at.first,
      at.second,
      at.within,
      ap length c.deref.ensures.value,
      c.deref.type_inv.1,
    )

pub slice_bounds-result-count : goal.slice_bounds-result-count
slice_bounds-result-count c =
    let here = (goal.at.slice_bounds-result-count c).After-index in
    omega (arith, start here, (stands here).first)

pub slice_bounds-result-start : goal.slice_bounds-result-start
slice_bounds-result-start c =
    let here = (goal.at.slice_bounds-result-start c).After-index in
    omega (arith, start here, (stands here).first)

pub slice_bounds-result-end : goal.slice_bounds-result-end
slice_bounds-result-end c =
    let at = stands (goal.at.slice_bounds-result-end c).After-index in
    omega (arith, at.second, at.within, ap length c.deref.ensures.value)

pub returns : goal.returns
returns c =
    let here = (goal.at.returns c).After-index in
    let e = c.index.result.now in
    ap (option_map (λ (line : LinePlaces). line.positions)) (stands here).line
    ∙ ap (λ (n : ℕ). Some (slice_range c.self.inside.places.items n e.positions)) (sym (start here))
    ∙ ap (λ (ps : List ℕ). Some (slice_range ps c.start_of.result e.positions)) (sym c.deref.ensures.value)
