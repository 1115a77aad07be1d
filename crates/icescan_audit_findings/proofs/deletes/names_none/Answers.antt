use Rattle.std.proofs.Common.{◌∙◌, ap, sym, Bor, List, ℕ, map, Some}
use Rattle.icescan_audit_findings.specs.Dangling.{names_none}
use Rattle.icescan_audit_findings.proofs.Searched.{search_tells}
use Rattle.icescan_audit_findings.proofs.deletes.names_none.Goals as goal

pub returns-in-Some : goal.returns-in-Some
returns-in-Some c =
    let paths = c.args.paths.now in
    let none = search_tells paths c.as_slice.result.now c.binary_search.result c.binary_search.ensures.bound
    c.binary_search.ensures.position c.requires in
    c.is_err.ensures.value ∙ none
    ∙ ap (λ path. names_none (map (λ (p : Bor (List ℕ)). p.now) paths) path)
    (ap Some c.as_slice.ensures ∙ sym c.in-Some.is)
