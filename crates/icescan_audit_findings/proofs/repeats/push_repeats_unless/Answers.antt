use Rattle.std.proofs.Common.{◌++◌, ◌∙◌, ap, sym}
use Rattle.std.proofs.lemmas.List.{append-nil}
use Rattle.icescan_audit_findings.proofs.Apart.{apart_repeats}
use Rattle.icescan_audit_findings.proofs.repeats.push_repeats_unless.Goals as goal

pub returns-then-apart : goal.returns-then-apart
returns-then-apart c =
    let none = apart_repeats c.args.files.now.items (c.requires c.if-apart.true) in
    sym (ap (λ more. c.args.findings.now ++ more) none ∙ append-nil c.args.findings.now)
