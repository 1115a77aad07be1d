use Rattle.std.proofs.Common.{◌≡◌, ◌∷◌, length, ap, sym, ◌∙◌, arith}
use Rattle.ice_filter.proofs.Stacks.{last_of_pushed, last_of_length}
use Rattle.ice_filter.proofs.truths.Truths.push.Goals as goal

pub returns : goal.returns
returns c =
    let e : c.self.inside.height ≡ length c.args.self.now = sym (last_of_length c.self.inside.height c.self.inside.held)
    ∙ ap length c.self.view_is in
    last_of_pushed c.self.inside.height c.self.inside.held c.args.truth (omega arith) ∙ ap (λ s. c.args.truth ∷ s)
    c.self.view_is
