use Rattle.std.proofs.Common.{◌≡◌, ◌∙◌, IfSome, List, length, subst, sym}
use Rattle.ice_manifest_reading.specs.declared.entry.Entry.{Entry}
use Rattle.ice_state.specs.KeptDeletes.{AreDeletesOf}
use Rattle.ice_state.specs.Outcomes.{kept_in}
use Rattle.ice_state.specs.Parts.{gains}
use Rattle.ice_state.specs.Slots.{contents}
use Rattle.ice_state.proofs.DeletesKept.{gains_apart, if_none_gained, if_ok, if_some_ok}
use Rattle.ice_state.proofs.SlotContents.{length-contents}
use Rattle.ice_state.proofs.kept.deletes.absorbed_deletes.Goals as goal

pub returns-then-are_apart : goal.returns-then-are_apart
returns-then-are_apart c = λ kept.
    let entries = c.args.entries.now in
    let cs = contents kept c.args.slots.now in
    let ds = contents entries c.args.other.now in
    let same : length cs ≡ length ds =
    length-contents kept c.args.slots.now ∙ c.requires.same ∙ sym (length-contents entries c.args.other.now) in
    subst (λ (es : List Entry). IfSome c.args.deletes (AreDeletesOf entries es))
    (sym (gains_apart cs ds same ((c.are_apart.ensures kept entries).0 c.if-are_apart.true))) c.requires.deletes

pub returns-then-are_none : goal.returns-then-are_none
returns-then-are_none c = λ kept.
    let entries = c.args.entries.now in
    if_none_gained entries (contents kept c.args.slots.now) (contents entries c.args.other.now) c.args.deletes
    (c.are_none.ensures c.if-are_none.true) c.requires.deletes

pub of_files-requires : goal.of_files-requires
of_files-requires c = if_ok c.files_by_number.result c.in_ok-files.files c.ok.ensures.value c.in_ok-files.was _
    c.files_by_number.ensures.kept

pub returns : goal.returns
returns c = λ kept.
    let entries = c.args.entries.now in
    let xs = kept_in (gains (contents kept c.args.slots.now) (contents entries c.args.other.now)) in
    let files = if_ok c.files_by_number.result c.in_ok-files.files c.ok.ensures.value c.in_ok-files.was _
    (c.files_by_number.ensures.all kept) in
    if_some_ok c.of_files.result c.ok-2.ensures.value (AreDeletesOf entries xs) (c.of_files.ensures xs files)
