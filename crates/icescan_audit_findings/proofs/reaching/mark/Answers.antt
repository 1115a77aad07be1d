use Rattle.std.proofs.Common.{arith}
use Rattle.std.proofs.lemmas.List.Elements.{Contains-get_or}
use Rattle.icescan_audit_findings.proofs.reaching.mark.Goals as goal

pub bounds-marks-number : goal.bounds-marks-number
bounds-marks-number c = omega (
  arith,
  c.requires _ (Contains-get_or c.args.numbers.now c.numbers.number-index 0 c.numbers-test.true),
  c.numbers.invariant.many,
)
