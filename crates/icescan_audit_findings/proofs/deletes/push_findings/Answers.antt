use Rattle.std.proofs.Common.{◌≡◌, ◌∙◌, ◌++◌, ◌∷◌, [], ℕ, Bool, List, Bor, ap, sym, false}
use Rattle.std.proofs.Common.{get_or, map, take}
use Rattle.std.specs.List.{flat_map}
use Rattle.std.proofs.lemmas.List.{flat_map_more, get_or-map, map-append}
use Rattle.icescan_audit_findings.specs.Dangling.{findings_beside, findings_by, is_reaching, names_none, paths_in}
use Rattle.icescan_audit_findings.specs.Lookups.{delete_lent}
use Rattle.icescan_audit_findings.specs.declared.deletes.DeleteFile.{DeleteFile}
use Rattle.icescan_audit_findings.specs.declared.finding.Finding.{Finding}
use Rattle.icescan_audit_findings.proofs.Naming.{names_same}
use Rattle.icescan_audit_findings.proofs.Stepwise.{front_more}
use Rattle.icescan_audit_findings.proofs.deletes.push_findings.Goals as goal

pub deletes-preserved : goal.deletes-preserved
deletes-preserved c = λ xs same marked.
    let delete = c.index-deletes-i.result in
    let d = delete_lent delete in
    let i = c.deletes.i in
    let deletes = c.args.deletes.now in
    let old = c.args.findings.now in
    let reaches : DeleteFile → Bool = λ e. is_reaching xs (delete_lent e).1 in
    let low = c.deletes-test.true in
    let none = c.names_none-none.ensures ∙ names_same (map (λ (p : Bor (List ℕ)). p.now) c.args.paths.now) (paths_in xs)
    deletes i delete low c.index-deletes-i.is same in
    let mark : get_or c.args.marks.now i false ≡ is_reaching xs d.1 = ap (λ ms. get_or ms i false) marked
    ∙ get_or-map reaches deletes i delete false low ∙ ap reaches (sym c.index-deletes-i.is) in
    let all = map-append delete_lent (take i deletes) (delete ∷ []) in
    c.in_ok-push_findings_by.ensures
    ∙ ap (λ b. c.deletes.findings ++ findings_by b (get_or c.args.marks.now i false) d) none
    ∙ ap (λ b. c.deletes.findings ++ findings_by (names_none (paths_in xs) d.1.referenced) b d) mark
    ∙ ap (λ (fs : List Finding). fs ++ findings_beside xs d) (c.deletes.invariant xs same marked)
    ∙ flat_map_more (findings_beside xs) old (map delete_lent (take i deletes)) d
    ∙ ap (λ ds. old ++ flat_map (findings_beside xs) ds)
    (sym (ap (map delete_lent) (front_more deletes i delete low c.index-deletes-i.is) ∙ all))
