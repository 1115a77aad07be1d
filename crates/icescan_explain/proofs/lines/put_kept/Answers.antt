use Rattle.std.proofs.Common.{◌≡◌, ◌∙◌}
use Rattle.icescan_explain.specs.Applying.{applied}
use Rattle.icescan_explain.proofs.lines.put_kept.Goals as goal

pub returns-in-Deletes : goal.returns-in-Deletes
returns-in-Deletes g c = λ plan is.
    let times : c.at.result ≡ applied plan c.args.path.now = c.at.ensures ∙ is c.args.path.now in
    rw (c.in-Deletes.is, ← times) c.put_named_number.ensures
