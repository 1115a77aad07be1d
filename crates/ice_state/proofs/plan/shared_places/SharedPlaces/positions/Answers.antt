use Rattle.std.proofs.Common.{◌≡◌, ◌<◌, ◌∙◌, ap, arith, length, List, ℕ, option_map, subst, sym}
use Rattle.std.specs.List.{slice_get}
use Rattle.ice_state.specs.PlaceLists.{LinePlaces}
use Rattle.ice_state.proofs.SharedLines.{has_lines, is_in, line_found}
use Rattle.ice_state.proofs.plan.shared_places.SharedPlaces.positions.Goals as goal

pub index-requires : goal.index-requires
index-requires c =
    let many = has_lines c.self.inside.lists c.self.inside.lines.items c.args.self.now c.self.view_is in
    omega (arith, many, c.requires)

pub positions-requires : goal.positions-requires
positions-requires c =
    let many = has_lines c.self.inside.lists c.self.inside.lines.items c.args.self.now c.self.view_is in
    let l : c.args.i < length c.self.inside.lines.items = omega (arith, many, c.requires) in
    subst (λ (n : ℕ). n < length c.self.inside.lists) (sym c.index.ensures)
    (is_in c.self.inside.lists c.self.inside.lines.items c.args.i c.index.result.now c.self.invariant l)

pub returns : goal.returns
returns c =
    let lists = c.self.inside.lists in
    let many = has_lines lists c.self.inside.lines.items c.args.self.now c.self.view_is in
    let l : c.args.i < length c.self.inside.lines.items = omega (arith, many, c.requires) in
    let at : slice_get lists c.index.result.now ≡ slice_get c.args.self.now c.args.i =
    ap (slice_get lists) c.index.ensures
    ∙ line_found lists c.self.inside.lines.items c.args.i c.index.result.now c.self.invariant l
    ∙ ap (λ (ls : List LinePlaces). slice_get ls c.args.i) c.self.view_is in
    ap (option_map (λ (line : LinePlaces). line.positions)) (sym at) ∙ c.positions.ensures
