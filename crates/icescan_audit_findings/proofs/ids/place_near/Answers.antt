use Rattle.std.proofs.Common.{◌≡◌, ◌<◌, ℕ, get_or, length, pos, subst, to_z, of_z, w32, rules, IfNone, IfSome}
use Rattle.std.specs.Result.{result_ok}
use Rattle.std.proofs.lemmas.Int.{to_z-of_z}
use Rattle.icescan_audit_findings.proofs.Rising.{searched}
use Rattle.icescan_audit_findings.proofs.ids.place_near.Goals as goal

pub returns-else-near-ids-clause-there : goal.returns-else-near-ids-clause-there
returns-else-near-ids-clause-there c =
    let ids = c.args.ids.now in
    let found = c.binary_search.result in
    let same : to_z w32 (of_z w32 c.args.id) ≡ c.args.id = to_z-of_z w32 c.args.id (search rules) in
    rw c.ok.ensures.value
    (subst (λ z. IfSome (result_ok found) (λ k. (k < length ids) × (get_or ids k (pos 0) ≡ z))) same
    (searched ids (to_z w32 (of_z w32 c.args.id)) found c.requires c.binary_search.ensures.bound
    c.binary_search.ensures.position).there)

pub returns-else-near-ids-clause-absent : goal.returns-else-near-ids-clause-absent
returns-else-near-ids-clause-absent c =
    let ids = c.args.ids.now in
    let found = c.binary_search.result in
    let same : to_z w32 (of_z w32 c.args.id) ≡ c.args.id = to_z-of_z w32 c.args.id (search rules) in
    rw c.ok.ensures.value (subst (λ z. IfNone (result_ok found)
    ((k : ℕ) → k < length ids → get_or ids k (pos 0) ≡ z → ⊥)) same
    (searched ids (to_z w32 (of_z w32 c.args.id)) found c.requires c.binary_search.ensures.bound
    c.binary_search.ensures.position).absent)
