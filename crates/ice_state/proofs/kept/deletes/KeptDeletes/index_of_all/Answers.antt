use Rattle.std.proofs.Common.{◌≡◌, ◌∙◌, ◌++◌, List, filter, sym, subst}
use Rattle.std.proofs.lemmas.Result.{IfOk-weaker}
use Rattle.std.specs.List.Sorted.{IsPermutation}
use Rattle.std.proofs.lemmas.List.Sorted.{IsPermutation-append_comm, IsPermutation-trans}
use Rattle.ice_state.specs.declared.kept.segments.FileNumber.{FileNumber}
use Rattle.ice_state.specs.Segments.{AreKept, entries_at}
use Rattle.ice_state.specs.Parts.{holds_deletes}
use Rattle.ice_state.proofs.DeletesKept.{has_places, index_moved}
use Rattle.ice_state.proofs.kept.deletes.KeptDeletes.index_of_all.Goals as goal
use Rattle.ice_state.proofs.kept.deletes.KeptDeletes.index_of_all.Goals.{In_ok-waiting}

-- those that are indexed anew are those that wait
same : (c : In_ok-waiting) → c.in_ok-waiting.waiting.items ≡ c.args.self.now.waiting.items
same c = c.in_ok-waiting.ensures.items_if_clones_equal (λ x y is. is) ∙ c.as_slice.ensures.value

pub build-requires : goal.build-requires
build-requires c = subst (AreKept c.args.entries.now) (sym (same (goal.at.build-requires c).In_ok-waiting)) c.requires.1.files

pub joined-requires : goal.joined-requires
joined-requires c = record {
  places = c.in_ok-index.ensures.places;
  others = has_places c.args.entries.now c.requires.1.first c.args.self.now.indexed c.requires.1.index;
}

pub returns : goal.returns
returns c = λ xs are.
    let kept = c.args.entries.now in
    let waiting = subst (λ (ns : List FileNumber). IsPermutation (filter holds_deletes are.others) (entries_at kept ns))
    (sym (same (goal.at.returns c).In_ok-waiting)) are.waiting in
    let parts = IsPermutation-trans (are.others ++ are.first) (are.first ++ are.others) xs
    (IsPermutation-append_comm are.others are.first) are.parts in
    IfOk-weaker c.joined.result _ _ (λ d is. index_moved kept (are.others ++ are.first) xs d parts is)
    (c.joined.ensures kept are.others are.first (c.in_ok-index.ensures.moved are.others waiting) are.index)
