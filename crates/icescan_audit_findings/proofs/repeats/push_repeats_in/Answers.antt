use Rattle.std.proofs.Common.{◌++◌, ◌∙◌, ap, sym}
use Rattle.std.proofs.lemmas.List.{append-nil}
use Rattle.icescan_audit_findings.proofs.Repeated.{repeats_end, repeats_kept}
use Rattle.icescan_audit_findings.proofs.repeats.push_repeats_in.Goals as goal

pub files-preserved : goal.files-preserved
files-preserved c = repeats_kept c.args.files.now c.files.i c.index-files-i.result c.index-files-i-in-files.result
    c.files.findings c.push_repeat.new.findings _ c.files.auto.i c.files-test.true c.index-files-i.is
    c.index-files-i-in-files.is c.in_ok-push_repeat.ensures c.files.invariant

pub returns : goal.returns
returns c =
    let none = repeats_end c.args.files.now c.files.i c.files-test.false in
    sym (append-nil c.files.findings) ∙ ap (λ more. c.files.findings ++ more) (sym none) ∙ c.files.invariant
