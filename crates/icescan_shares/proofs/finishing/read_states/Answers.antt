use Rattle.std.proofs.Common.{◌+◌, drop, subst}
use Rattle.icescan_shares.specs.Given.{AreStatesGiven}
use Rattle.icescan_shares.proofs.InTurn.{one_more}
use Rattle.icescan_shares.proofs.finishing.read_states.Goals as goal

pub paths-init : goal.paths-init
paths-init g c = record {
  of_scan = c.in_ok-state.ensures.of_scan;
  given = λ after h. subst
      (λ before. AreStatesGiven (g.K.Files.gives c.args.kept.now) c.args.scan.now c.args.name.now c.args.paths.now before after)
      c.in_ok-state.ensures.none h;
}

pub paths-preserved : goal.paths-preserved
paths-preserved g c =
    let kept = g.K.Files.gives c.args.kept.now in
    let scan = c.args.scan.now in
    let name = c.args.name.now in
    let paths = c.args.paths.now in
    let i = c.paths.path-index in
    let path = c.path-item.result in
    let other = c.in_ok-other.other in
    record {
      of_scan = c.in_ok-absorb.ensures.of_scan scan c.paths.invariant.of_scan;
      given = λ after h. c.paths.invariant.given after
          (one_more kept scan name paths i path c.paths.state other after c.paths-test.true c.path-item.is
          (rw c.as_str.ensures at c.in_ok-other.ensures.given)
          (subst (λ before. AreStatesGiven kept scan name (drop (i + 1) paths) before after)
          c.in_ok-absorb.ensures.ok h));
    }
