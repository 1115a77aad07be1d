use Rattle.std.proofs.Common.{All, subst, sym, take}
use Rattle.icescan_progress.specs.Hints.{IsPlain}
use Rattle.icescan_progress.proofs.Plain.{shown_plain}
use Rattle.icescan_progress.proofs.showing.shown.Goals as goal

pub returns-clause-plain : goal.returns-clause-plain
returns-clause-plain c =
    subst (All IsPlain) (sym c.lines.invariant) (shown_plain (take c.lines.line-index c.args.lines.now))
