use Rattle.std.proofs.Common.{◌∙◌, [], Bor, List, ℕ, map, sym}
use Rattle.std.proofs.lemmas.Result.{IfOk-weaker}
use Rattle.icescan_audit_findings.specs.Dangling.{data_files, paths_in}
use Rattle.icescan_audit_findings.proofs.Naming.{named_alike, none_named}
use Rattle.icescan_audit_findings.proofs.deletes.paths_asked.Goals as goal

pub returns-then-names_some-clause-same : goal.returns-then-names_some-clause-same
returns-then-names_some-clause-same c =
    let all = paths_in (data_files c.args.files.now) in
    IfOk-weaker c.sorted_paths.result _ _
    (λ paths same. named_alike all (map (λ (p : Bor (List ℕ)). p.now) paths.items) c.args.deletes.now same)
    c.sorted_paths.ensures.same

pub returns-else-names_some-clause-same : goal.returns-else-names_some-clause-same
returns-else-names_some-clause-same c =
    let all = paths_in (data_files c.args.files.now) in
    rw c.new.ensures.items
    (none_named [] all c.args.deletes.now (sym c.names_some.ensures ∙ c.if-names_some.false))
