use Rattle.std.proofs.Common.{◌≡◌, ◌↔◌, ℕ, subst, w32, rules, refl}
use mir.Val.{to_z, of_z}
use Rattle.std.specs.List.{Contains}
use Rattle.std.proofs.lemmas.Int.{to_z-of_z}
use Rattle.ice_value.specs.Applying.{DataKey}
use Rattle.ice_deletes.specs.Found.{AppliesAt, data_key, lent}
use Rattle.icescan_audit_findings.specs.Lookups.{data_lent}
use Rattle.icescan_audit_findings.proofs.reaching.hits_for.Goals as goal
use Rattle.icescan_audit_findings.proofs.reaching.hits_for.Goals.{After-for_data}

same : (c : After-for_data) → data_key (to_z w32 (of_z w32 c.args.found.now.key.now.spec_id)) c.as_slice.result.now
    c.args.found.now.key.now.sequence_number c.args.found.now.path.now ≡ data_lent c.args.found.now
same c =
    let id : to_z w32 (of_z w32 c.args.found.now.key.now.spec_id) ≡ c.args.found.now.key.now.spec_id = to_z-of_z w32
    c.args.found.now.key.now.spec_id (search rules) in
    rw (id, c.as_slice.ensures) refl

pub returns-clause-exact : goal.returns-clause-exact
returns-clause-exact c =
    let P : DataKey → Type 0 = λ x. (n : ℕ) → Contains (lent c.for_data.result) n ↔ AppliesAt c.args.finder.now x n in
    subst P (same c) c.for_data.ensures.exact
