use Rattle.std.proofs.Common.{◌≡◌, ◌&&◌, ◌↔◌, ℕ, List, refl, subst, w32, rules}
use mir.Val.{to_z, of_z}
use Rattle.std.specs.List.{Contains}
use Rattle.std.specs.List.Sorted.{IsPermutation}
use Rattle.std.proofs.lemmas.Int.{to_z-of_z}
use Rattle.ice_value.specs.Applying.{DataKey, applies}
use Rattle.ice_deletes.specs.declared.group.Group.{Group}
use Rattle.ice_deletes.specs.declared.group.Group.TheVariants.{Positions, Referenced, Equalities, Everywhere}
use Rattle.ice_deletes.specs.Found.{data_key, lent, numbers_where, AppliesAt}
use Rattle.ice_deletes.specs.Groups.{is_in}
use Rattle.ice_manifest_reading.specs.Lending.{lent as lent_entry}
use Rattle.ice_state.specs.Applying.{data_key_of}
use Rattle.ice_state.proofs.Lent.{both_positions, both_equalities}
use Rattle.ice_state.proofs.finish.deletes.deletes_for.Goals as goal
use Rattle.ice_state.proofs.finish.deletes.deletes_for.Goals.{After-for_data}

same : (c : After-for_data) → data_key (to_z w32 (of_z w32 c.args.x.now.spec_id)) c.args.x.now.tuple.now
    c.args.x.now.sequence_number c.args.x.now.path.now ≡ data_key_of (lent_entry c.args.x.now)
same c =
    let id : to_z w32 (of_z w32 c.args.x.now.spec_id) ≡ c.args.x.now.spec_id = to_z-of_z w32 c.args.x.now.spec_id
    (search rules) in
    rw id refl

abbrev of_group : After-for_data → Group → List ℕ → DataKey → Type 0
of_group c g numbers x = IsPermutation (numbers_where (λ d. is_in g d && applies x d) c.args.finder.now) numbers

pub returns-clause-positions : goal.returns-clause-positions
returns-clause-positions c =
    let hits = c.for_data.result in
    both_positions c.args.finder.now (data_key_of (lent_entry c.args.x.now)) hits.positions.now hits.referenced.now
    (subst (of_group c Positions hits.positions.now) (same c) c.for_data.ensures.positions)
    (subst (of_group c Referenced hits.referenced.now) (same c) c.for_data.ensures.referenced)

pub returns-clause-equalities : goal.returns-clause-equalities
returns-clause-equalities c =
    let hits = c.for_data.result in
    both_equalities c.args.finder.now (data_key_of (lent_entry c.args.x.now)) hits.equalities.now hits.everywhere.now
    (subst (of_group c Equalities hits.equalities.now) (same c) c.for_data.ensures.equalities)
    (subst (of_group c Everywhere hits.everywhere.now) (same c) c.for_data.ensures.everywhere)

pub returns-clause-exact : goal.returns-clause-exact
returns-clause-exact c =
    let P : DataKey → Type 0 = λ x. (n : ℕ) → Contains (lent c.for_data.result) n ↔ AppliesAt c.args.finder.now x n in
    subst P (same c) c.for_data.ensures.exact
