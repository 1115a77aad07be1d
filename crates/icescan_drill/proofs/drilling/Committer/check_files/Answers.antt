use Rattle.std.proofs.Common.{◌≤◌, arith, length, rules}
use Rattle.std.proofs.lemmas.Result.{on_ok_weaker}
use Rattle.std.specs.Arc.{arc_value}
use Rattle.icescan_drill.specs.Drills.{IsPlanOf}
use Rattle.icescan_drill.proofs.drilling.Committer.check_files.Goals as goal

pub returns-clause-seen : goal.returns-clause-seen
returns-clause-seen g c =
    let version = arc_value c.in_ok-version.version in
    let number : c.args.self.now.drill.commits ≤ length version.journal =
    omega (arith, c.requires, c.in_ok-version.ensures.number) in
    let plan : IsPlanOf c.in_ok-plan.plan version = search rules in
    on_ok_weaker c.find_files.result
    (λ each. record { version = version; plan = c.in_ok-plan.plan; number = number; plan_is = plan; each = each })
    (rw (c.lines.ensures, c.commits.ensures) at c.find_files.ensures.found)
