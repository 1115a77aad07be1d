use Rattle.std.proofs.Common.{◌<◌, length, arith}
use Rattle.ice_state_envelopes.proofs.Unions.{second_alone, first_is_less, second_is_less, both_are_first}
use Rattle.ice_state_envelopes.proofs.joining.next_of.Goals as goal
use Rattle.ice_state_envelopes.proofs.joining.next_of.Goals.{then-i-ones-via-then-i-ones}
use Rattle.ice_state_envelopes.proofs.joining.next_of.Goals.{then-i-ones-via-else-i-ones+then-others-j}

pub returns-then-i-ones-clause-next : goal.returns-then-i-ones-clause-next
returns-then-i-ones-clause-next c =
    let second : c.args.j < length c.args.others.now = omega (arith, c.requires.inside.1, c.if-j-others.false) in
    elim c.then-i-ones.branch [
      | then-i-ones-via-then-i-ones w ↦ second_alone c.args.rows c.args.ones.now c.args.others.now c.args.i c.args.j _
          (omega (arith, w.if-i-ones.true)) second c.requires.others
      | then-i-ones-via-else-i-ones+then-others-j w ↦ second_is_less c.args.rows c.args.ones.now c.args.others.now
          c.args.i c.args.j _ _ (omega (arith, c.requires.inside.0, w.if-i-ones.false)) second c.requires.ones
          c.requires.others w.if-others-j.true
    ]

pub returns-then-ones-i-clause-next : goal.returns-then-ones-i-clause-next
returns-then-ones-i-clause-next c = first_is_less c.args.rows c.args.ones.now c.args.others.now c.args.i c.args.j _ _
    (omega (arith, c.requires.inside.0, c.if-i-ones.false)) (omega (arith, c.requires.inside.1, c.if-j-others.false))
    c.requires.others c.if-ones-i.true

pub returns-clause-next : goal.returns-clause-next
returns-clause-next c = both_are_first c.args.rows c.args.ones.now c.args.others.now c.args.i c.args.j _ _
    (omega (arith, c.requires.inside.0, c.if-i-ones.false)) (omega (arith, c.requires.inside.1, c.if-j-others.false))
    c.requires.others c.if-others-j.false c.if-ones-i.false
