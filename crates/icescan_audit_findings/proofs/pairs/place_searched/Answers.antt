use Rattle.std.proofs.Common.{◌≡◌, subst, to_z, of_z, w32, rules, IfNone, IfSome}
use Rattle.std.specs.Result.{result_ok}
use Rattle.std.proofs.lemmas.Int.{to_z-of_z}
use Rattle.std.proofs.lemmas.List.Sorted.{answers_always}
use Rattle.icescan_audit_findings.specs.Ids.{HasNone, IsOf}
use Rattle.icescan_audit_findings.proofs.Rising.{searched_pairs}
use Rattle.icescan_audit_findings.proofs.pairs.place_searched.Goals as goal

pub returns-else-is_gap-clause-there : goal.returns-else-is_gap-clause-there
returns-else-is_gap-clause-there g c =
    let pairs = c.args.pairs.now in
    let found = c.binary_search_by_key.result in
    let facts = c.binary_search_by_key.ensures in
    let by_key = facts.position (λ pair. pair.0) (answers_always _ _ _ (λ f a r g called. search rules)) in
    let same : to_z w32 (of_z w32 c.args.id) ≡ c.args.id = to_z-of_z w32 c.args.id (search rules) in
    rw c.ok.ensures.value (subst (λ z. IfSome (result_ok found) (IsOf pairs z)) same
    (searched_pairs pairs (to_z w32 (of_z w32 c.args.id)) found c.requires facts.bound by_key).there)

pub returns-else-is_gap-clause-absent : goal.returns-else-is_gap-clause-absent
returns-else-is_gap-clause-absent g c =
    let pairs = c.args.pairs.now in
    let found = c.binary_search_by_key.result in
    let facts = c.binary_search_by_key.ensures in
    let by_key = facts.position (λ pair. pair.0) (answers_always _ _ _ (λ f a r g called. search rules)) in
    let same : to_z w32 (of_z w32 c.args.id) ≡ c.args.id = to_z-of_z w32 c.args.id (search rules) in
    rw c.ok.ensures.value (subst (λ z. IfNone (result_ok found) (HasNone pairs z)) same
    (searched_pairs pairs (to_z w32 (of_z w32 c.args.id)) found c.requires facts.bound by_key).absent)
