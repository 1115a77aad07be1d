use Rattle.std.proofs.Common.{◌++◌}
use Rattle.std.proofs.lemmas.Result.{IfOk-weaker}
use Rattle.ice_state.proofs.DeletesKept.{has_places, index_moved}
use Rattle.ice_state.proofs.kept.deletes.KeptDeletes.into_index.Goals as goal

pub build-requires : goal.build-requires
build-requires c = c.requires.1.files

pub with-requires : goal.with-requires
with-requires c = record {
  places = has_places c.args.entries.now c.requires.1.first c.args.self.indexed c.requires.1.index;
  others = c.in_ok-more.ensures.places;
}

pub returns : goal.returns
returns c = λ xs are.
    let kept = c.args.entries.now in
    IfOk-weaker c.with.result _ _ (λ d is. index_moved kept (are.first ++ are.others) xs d are.parts is)
    (c.with.ensures kept are.first are.others are.index (c.in_ok-more.ensures.moved are.others are.waiting))
