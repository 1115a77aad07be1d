use Rattle.std.proofs.Common.{◌≡◌, ◌≤◌, ◌-◌, length, ap, sym, ◌∙◌, arith}
use Rattle.ice_filter.proofs.Stacks.{last_of_length}
use Rattle.ice_filter.proofs.truths.Truths.pop.Goals as goal

pub returns-clause-room : goal.returns-clause-room
returns-clause-room c =
    let e : c.self.inside.height ≡ length c.args.self.now = sym (last_of_length c.self.inside.height c.self.inside.held)
    ∙ ap length c.self.view_is in
    let f = last_of_length (c.self.inside.height - 1) c.self.inside.held in
    let g : c.self.inside.height ≤ 67 = c.self.invariant in
    omega arith
