use Rattle.std.proofs.Common.{◌≡◌, [], ◌∷◌, ◌++◌, get_or, refl, to_z, of_z, w32, rules}
use Rattle.std.proofs.lemmas.Int.{to_z-of_z}
use Rattle.icescan_audit_findings.proofs.Standing.{none, numbered_more}
use Rattle.icescan_audit_findings.proofs.places.numbered.Goals as goal

pub columns-preserved : goal.columns-preserved
columns-preserved c =
    let cs = c.args.columns.now in
    let i = c.columns.i in
    let id = (get_or cs i none).id in
    let same : to_z w32 (of_z w32 id) ≡ id = to_z-of_z w32 id (search rules) in
    let pushed = c.in_ok-push.ensures.items in
    let put : c.push.new.self.items ≡ c.columns.places.items ++ (id, i) ∷ [] = cc in
    rw put (numbered_more cs c.columns.places.items i (id, i) c.columns-test.true c.columns.invariant refl)
