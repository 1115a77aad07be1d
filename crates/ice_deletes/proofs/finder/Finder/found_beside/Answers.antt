use Rattle.std.proofs.Common.{ℕ, List, refl, subst, Option, ◌∙◌, w32}
use Rattle.std.specs.Prelude.{IfSome}
use Rattle.std.proofs.lemmas.Int.{to_z-of_z}
use Rattle.ice_value.specs.Applying.{DeleteKey}
use Rattle.ice_deletes.specs.declared.finder.Last.{Last}
use Rattle.ice_deletes.specs.Found.{data_key}
use Rattle.ice_deletes.specs.Neighbours.{AreHits, WereFound}
use Rattle.ice_deletes.proofs.Neighbours.{found_before}
use Rattle.ice_deletes.proofs.finder.Finder.found_beside.Goals as goal

pub returns : goal.returns
returns c =
    let files = c.self.inside.index.now in
    let l = c.in-Some.last in
    let P : Option Last → Type 0 = λ o. IfSome o (WereFound files) in
    let found : WereFound files l = subst P c.in-Some.is c.self.invariant in
    let Q : List (ℕ × DeleteKey) → Type 0 = λ es. (path : List ℕ)
    × AreHits (data_key c.args.spec_id c.args.tuple.now c.args.sequence_number path) es l.hits in
    subst Q c.self.view_is (found_before files l c.args.spec_id c.args.tuple.now c.args.sequence_number found
    (c.if-not-is_beside.ensures.spec refl ∙ to_z-of_z w32 c.args.spec_id c.ranges.spec_id)
    (c.if-not-is_beside.ensures.tuple refl)
    (c.if-not-is_beside.ensures.number refl))
