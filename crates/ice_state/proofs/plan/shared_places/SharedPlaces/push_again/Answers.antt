use Rattle.std.proofs.Common.{◌≡◌, ◌<◌, ◌+◌, ◌-◌, ◌∙◌, ◌++◌, List, ap, arith, length, replicate, take}
use Rattle.std.specs.Vec.{vec_len}
use Rattle.std.proofs.lemmas.Grind.{common_steps}
use Rattle.std.proofs.lemmas.List.{take_all}
use Rattle.ice_state.specs.PlaceLists.{LinePlaces}
use Rattle.ice_state.specs.SharedPlaces.{line_in, lines_in}
use Rattle.ice_state.proofs.SharedLines.{are_many_more, has_lines, line_is}
use Rattle.ice_state.proofs.plan.shared_places.SharedPlaces.push_again.Goals as goal

pub returns-clause-ok : goal.returns-clause-ok
returns-clause-ok c =
    let lists = c.self.inside.lists in
    let lines = c.self.inside.lines.items in
    let list = c.index-list.result.now in
    let many = c.args.many in
    let n = c.in-Some.lines in
    let l : c.args.i < length lines = omega (arith, has_lines lists lines c.args.self.now c.self.view_is, c.requires) in
    let sum : n ≡ length lines + many = grind (arith, common_steps) in
    let more : n - vec_len c.self.inside.lines ≡ many = grind (arith, common_steps, sum) in
    let old : take n lines ≡ lines = take_all n lines (omega (arith, sum)) in
    let pushed = c.in_ok-resize.ensures.items ∙ (λ k. old k ++ replicate (more k) list) in
    let line = ap (line_in lists) c.index-list.ensures ∙ line_is lists lines c.args.i list l
    ∙ ap (λ (ls : List LinePlaces). line_in ls c.args.i) c.self.view_is in
    ap (lines_in lists) pushed ∙ are_many_more lists lines list many
    ∙ (λ k. c.self.view_is k ++ replicate many (line k))
