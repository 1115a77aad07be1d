use Rattle.std.proofs.Common.{◌&&◌, ℕ, List, subst, rules}
use Rattle.std.specs.List.Sorted.{IsPermutation}
use Rattle.ice_value.specs.Applying.{DataKey, DeleteKey, applies}
use Rattle.ice_deletes.specs.declared.group.Group.TheVariants.{Referenced}
use Rattle.ice_deletes.specs.Found.{data_key, numbers_where}
use Rattle.ice_deletes.specs.Groups.{is_in}
use Rattle.ice_deletes.specs.Indexes.{AreDistinct}
use Rattle.ice_deletes.proofs.Applying.{key_for}
use Rattle.ice_deletes.proofs.Lent.{referenced_lent}
use Rattle.ice_deletes.proofs.Slices.{Lends}
use Rattle.ice_deletes.proofs.index.DeleteIndex.naming.Goals as goal

pub returns-clause-named : goal.returns-clause-named
returns-clause-named c =
    let x : DataKey = data_key c.args.spec_id c.args.tuple.now c.args.sequence_number c.args.path.now in
    let lends : Lends c.self.inside.referenced (key_for x c.args.sequence_number) c.suffix.result.now =
    rw (← c.get.ensures.same) (search rules) in
    let P : List (ℕ × DeleteKey) → Type 0 = λ files. IsPermutation (numbers_where
    (λ d. is_in Referenced d && applies x d) files) c.suffix.result.now in
    subst P c.self.view_is (referenced_lent c.self.inside c.self.invariant x c.suffix.result.now lends)

pub returns-clause-distinct : goal.returns-clause-distinct
returns-clause-distinct c =
    let P : List (ℕ × DeleteKey)
    → Type 0 = λ files. AreDistinct files in subst P c.self.view_is c.self.invariant.distinct
