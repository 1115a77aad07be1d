use Rattle.std.proofs.Common.{◌++◌, ◌∙◌, sym, ap, List}
use Rattle.std.proofs.lemmas.List.{append-nil}
use Rattle.icescan_audit_findings.specs.declared.finding.Flaw.{Flaw}
use Rattle.icescan_audit_findings.proofs.Little.{none_wrong}
use Rattle.icescan_audit_findings.proofs.columns.push_columns_flaws.Goals as goal

pub returns-then-says_little : goal.returns-then-says_little
returns-then-says_little c =
    let none = none_wrong c.args.bounds.now c.args.columns.now.all.now (c.says_little.ensures c.if-says_little.true) in
    sym (ap (λ (fs : List Flaw). c.args.flaws.now.items ++ fs) none ∙ append-nil c.args.flaws.now.items)
