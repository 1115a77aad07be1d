use Rattle.std.proofs.Common.{rules, ◌≤◌}
use Rattle.std.proofs.lemmas.List.Elements.{All-from_get_or}
use Rattle.ice_deletes.proofs.Least.{at_least_more}
use Rattle.ice_deletes.proofs.numbers.least_of.Goals as goal
use Rattle.ice_deletes.proofs.numbers.least_of.Goals.{then-number-least, else-number-least}

pub numbers-preserved : goal.numbers-preserved
numbers-preserved c = at_least_more c.args.numbers.now c.numbers.number-index c.numbers.least c.if-number-least.least
    c.numbers.invariant
    (elim c.if-number-least.branch [
      | then-number-least w ↦ rw w.least-is (search rules)
      | else-number-least w ↦ rw w.least-is (search rules)
    ])
    (elim c.if-number-least.branch [
      | then-number-least w ↦ rw w.least-is (search rules)
      | else-number-least w ↦ rw w.least-is (search rules)
    ])

pub returns : goal.returns
returns c = All-from_get_or (λ n. c.numbers.least ≤ n) c.args.numbers.now 0 (search rules)
