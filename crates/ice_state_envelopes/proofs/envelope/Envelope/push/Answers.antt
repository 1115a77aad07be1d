use Rattle.std.proofs.Common.{◌<◌, suc, map, sym, subst, arith}
use Rattle.std.proofs.lemmas.List.{map_push}
use Rattle.ice_state_envelopes.specs.Envelopes.{Parts, Rise, shown}
use Rattle.ice_state_envelopes.proofs.Rising.{rise_on}
use Rattle.ice_state_envelopes.proofs.envelope.Envelope.push.Goals as goal

pub invariant_of-self-2 : goal.invariant_of-self-2
invariant_of-self-2 c =
    let below : c.args.row < c.self.inside.rows =
    subst (λ (p : Parts). c.args.row < p.rows) (sym c.self.view_is) c.requires.below in
    let behind : Rise 0 c.args.row (map shown c.self.inside.sections.items) =
    subst (λ (p : Parts). Rise 0 c.args.row p.sections) (sym c.self.view_is) c.requires.behind in
    rw (c.in_ok-push.ensures.items, map_push shown c.self.inside.sections.items) (
      c.self.invariant.0,
      rise_on 0 c.args.row c.self.inside.rows c.args.body.now
          (map shown c.self.inside.sections.items) (omega arith) below behind,
    )

pub returns-clause-rise : goal.returns-clause-rise
returns-clause-rise c =
    let behind : Rise 0 c.args.row (map shown c.self.inside.sections.items) =
    subst (λ (p : Parts). Rise 0 c.args.row p.sections) (sym c.self.view_is) c.requires.behind in
    rw (c.in_ok-push.ensures.items, map_push shown c.self.inside.sections.items) (rise_on 0 c.args.row (suc c.args.row)
    c.args.body.now (map shown c.self.inside.sections.items) (omega arith) (omega arith) behind)
