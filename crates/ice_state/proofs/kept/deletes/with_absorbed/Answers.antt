use Rattle.std.proofs.Common.{◌++◌, IfSome, List, Option, subst}
use Rattle.ice_manifest_reading.specs.declared.entry.Entry.{Entry}
use Rattle.ice_state.specs.declared.kept.deletes.KeptDeletes.{KeptDeletes}
use Rattle.ice_state.specs.KeptDeletes.{AreDeletes, AreDeletesOf}
use Rattle.ice_state.proofs.DeletesKept.{has_places, if_ok, if_some_ok}
use Rattle.ice_state.proofs.kept.deletes.with_absorbed.Goals as goal
use Rattle.ice_state.proofs.kept.deletes.with_absorbed.Goals.{In_ok-both}

both : (c : In_ok-both) → (xs ys : List Entry) → AreDeletesOf c.args.entries.now xs c.in_ok-deletes.deletes
    → AreDeletesOf c.args.entries.now ys c.in_ok-absorbed.absorbed
    → AreDeletesOf c.args.entries.now (xs ++ ys) c.in_ok-both.both
both c xs ys are its = if_ok c.with.result c.in_ok-both.both c.ok.ensures.value c.in_ok-both.was
    (AreDeletesOf c.args.entries.now (xs ++ ys)) (c.with.ensures c.args.entries.now xs ys are its)

pub with-requires : goal.with-requires
with-requires c =
    let kept = c.args.entries.now in
    let Are = λ (o : Option KeptDeletes). IfSome o (AreDeletes kept) in
    let mine = (subst Are c.in_ok-deletes.was c.requires.deletes).1 in
    let its = (subst Are c.in_ok-absorbed.was c.requires.absorbed).1 in
    record {
      mine = has_places kept mine.first c.in_ok-deletes.deletes.indexed mine.index;
      others = has_places kept its.first c.in_ok-absorbed.absorbed.indexed its.index;
    }

pub grown-requires : goal.grown-requires
grown-requires c =
    let Are = λ (o : Option KeptDeletes). IfSome o (AreDeletes c.args.entries.now) in
    let mine = subst Are c.in_ok-deletes.was c.requires.deletes in
    let its = subst Are c.in_ok-absorbed.was c.requires.absorbed in
    (_, both (goal.at.grown-requires c).In_ok-both mine.0 its.0 mine.1 its.1)

pub returns : goal.returns
returns c = λ xs ys are its.
    let Of = λ (zs : List Entry) (o : Option KeptDeletes). IfSome o (AreDeletesOf c.args.entries.now zs) in
    if_some_ok c.grown.result c.ok-2.ensures.value (AreDeletesOf c.args.entries.now (xs ++ ys))
    (c.grown.ensures (xs ++ ys) (both (goal.at.returns c).In_ok-both xs ys
    (subst (Of xs) c.in_ok-deletes.was are) (subst (Of ys) c.in_ok-absorbed.was its)))
