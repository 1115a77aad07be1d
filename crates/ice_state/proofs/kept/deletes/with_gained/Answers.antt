use Rattle.std.proofs.Common.{◌++◌, IfSome, List, Option, subst}
use Rattle.ice_manifest_reading.specs.declared.entry.Entry.{Entry}
use Rattle.ice_state.specs.declared.kept.deletes.KeptDeletes.{KeptDeletes}
use Rattle.ice_state.specs.KeptDeletes.{AreDeletes, AreDeletesOf}
use Rattle.ice_state.specs.Outcomes.{kept_in}
use Rattle.ice_state.specs.Parts.{gains}
use Rattle.ice_state.specs.Segments.{Segmented}
use Rattle.ice_state.specs.Slots.{contents}
use Rattle.ice_state.proofs.DeletesKept.{if_ok, if_some_ok}
use Rattle.ice_state.proofs.kept.deletes.with_gained.Goals as goal
use Rattle.ice_state.proofs.kept.deletes.with_gained.Goals.{In_ok-more}

-- those that are there, and those of the gained rows with them
with_more : (c : In_ok-more) → (kept : Segmented) (xs : List Entry)
    → AreDeletesOf c.args.entries.now xs c.in_ok-deletes.deletes
    → AreDeletesOf c.args.entries.now
    (xs ++ kept_in (gains (contents kept c.args.slots.now) (contents c.args.entries.now c.args.gained.now)))
    c.in_ok-more.more
with_more c kept xs are =
    let entries = c.args.entries.now in
    let ys = kept_in (gains (contents kept c.args.slots.now) (contents entries c.args.gained.now)) in
    let files = if_ok c.files_by_number.result c.in_ok-files.files (c.ok.ensures.value) c.in_ok-files.was in
    if_ok c.with_files.result c.in_ok-more.more c.ok-2.ensures.value c.in_ok-more.was
    (AreDeletesOf entries (xs ++ ys))
    (c.with_files.ensures entries xs ys are (files _ c.files_by_number.ensures.kept)
    (files _ (c.files_by_number.ensures.all kept)))

pub grown-requires : goal.grown-requires
grown-requires c =
    let entries = c.args.entries.now in
    let mine = subst (λ (o : Option KeptDeletes). IfSome o
    (AreDeletes entries)) c.in_ok-deletes.was c.requires.deletes in
    (_, with_more (goal.at.grown-requires c).In_ok-more entries mine.0 mine.1)

pub returns : goal.returns
returns c = λ kept xs are.
    let entries = c.args.entries.now in
    let ys = kept_in (gains (contents kept c.args.slots.now) (contents entries c.args.gained.now)) in
    let mine = subst (λ (o : Option KeptDeletes). IfSome o (AreDeletesOf entries xs)) c.in_ok-deletes.was are in
    if_some_ok c.grown.result c.ok-3.ensures.value (AreDeletesOf entries (xs ++ ys))
    (c.grown.ensures (xs ++ ys) (with_more (goal.at.returns c).In_ok-more kept xs mine))
