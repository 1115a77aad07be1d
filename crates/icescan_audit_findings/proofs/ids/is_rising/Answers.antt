use Rattle.std.proofs.Common.{◌-◌, get_or, pos, arith}
use Rattle.std.specs.Prelude.{◌<ℤ◌}
use Rattle.std.proofs.lemmas.Int.{ints}
use Rattle.icescan_audit_findings.proofs.Rising.{rise_more}
use Rattle.icescan_audit_findings.proofs.ids.is_rising.Goals as goal

pub ids-preserved : goal.ids-preserved
ids-preserved c =
    let last : get_or c.args.ids.now (c.ids.i - 1) (pos 0) <ℤ get_or c.args.ids.now c.ids.i (pos 0) = omega
    (arith, ints) in
    rise_more (λ k. get_or c.args.ids.now k (pos 0)) c.ids.i c.ids.auto.i c.ids.invariant last

pub returns : goal.returns
returns c = λ _ i j less high. c.ids.invariant i j less (omega arith)
