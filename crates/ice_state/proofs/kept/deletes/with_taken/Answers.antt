use Rattle.std.proofs.Common.{◌++◌, IfSome, List, Option, Some, subst}
use Rattle.ice_manifest_reading.specs.declared.entry.Entry.{Entry}
use Rattle.ice_state.specs.declared.kept.deletes.KeptDeletes.{KeptDeletes}
use Rattle.ice_state.specs.KeptDeletes.{AreDeletes, AreDeletesOf}
use Rattle.ice_state.specs.Outcomes.{entries_in as entries_given}
use Rattle.ice_state.specs.Slots.{given}
use Rattle.ice_state.proofs.DeletesKept.{if_ok, if_some_ok}
use Rattle.ice_state.proofs.kept.deletes.with_taken.Goals as goal
use Rattle.ice_state.proofs.kept.deletes.with_taken.Goals.{In_ok-more}

-- those that are there, and those of the manifest with them
with_more : (c : In_ok-more) → (xs : List Entry) → AreDeletesOf c.args.entries.now xs c.in_ok-deletes.deletes
    → AreDeletesOf c.args.entries.now
    (xs ++ entries_given (Some (given c.args.entries.now c.args.taken.now))) c.in_ok-more.more
with_more c xs are =
    let entries = c.args.entries.now in
    if_ok c.with_manifest.result c.in_ok-more.more c.ok.ensures.value c.in_ok-more.was
    (AreDeletesOf entries (xs ++ entries_given (Some (given entries c.args.taken.now))))
    (c.with_manifest.ensures xs are)

pub grown-requires : goal.grown-requires
grown-requires c =
    let entries = c.args.entries.now in
    let mine = subst (λ (o : Option KeptDeletes). IfSome o
    (AreDeletes entries)) c.in_ok-deletes.was c.requires.deletes in
    (_, with_more (goal.at.grown-requires c).In_ok-more mine.0 mine.1)

pub returns : goal.returns
returns c = λ xs are.
    let entries = c.args.entries.now in
    let ys = entries_given (Some (given entries c.args.taken.now)) in
    let mine = subst (λ (o : Option KeptDeletes). IfSome o (AreDeletesOf entries xs)) c.in_ok-deletes.was are in
    if_some_ok c.grown.result c.ok-2.ensures.value (AreDeletesOf entries (xs ++ ys))
    (c.grown.ensures (xs ++ ys) (with_more (goal.at.returns c).In_ok-more xs mine))
