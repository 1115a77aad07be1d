use Rattle.std.proofs.Common.{Option, IfSome, ℕ, subst, sym}
use Rattle.std.specs.List.{range_with_len}
use Rattle.std.specs.List.Sorted.{IsPermutation}
use Rattle.ice_state.specs.declared.finish.by_kind.FilesByKind.{FilesByKind}
use Rattle.ice_state.specs.declared.kept.deletes.KeptDeletes.{KeptDeletes}
use Rattle.ice_state.specs.KeptDeletes.{AreDeletesOf}
use Rattle.ice_state.specs.Orders.{runs_at}
use Rattle.ice_state.specs.Outcomes.{kept_in}
use Rattle.ice_state.specs.Slots.{contents}
use Rattle.ice_state.proofs.ByKind.{all_data, no_deletes}
use Rattle.ice_state.proofs.RowsMoved.{rows_moved}
use Rattle.ice_state.proofs.SlotContents.{length-contents}
use Rattle.ice_state.proofs.finish.by_kind.gathered.Goals as goal

pub returns-in_ok-files_of_rows-in-Some : goal.returns-in_ok-files_of_rows-in-Some
returns-in_ok-files_of_rows-in-Some c =
    let kept = c.args.entries.now in
    let slots = c.args.slots.now in
    let cs = contents kept slots in
    let rows = c.args.rows.now in
    let deletes = c.in-Some.deletes in
    let here : AreDeletesOf kept (kept_in cs) deletes =
    subst (λ (d : Option KeptDeletes). IfSome d
    (AreDeletesOf kept (kept_in cs))) c.in-Some.is c.requires.state.all_deletes in
    let none = c.is_empty.ensures c.if-is_empty.true in
    let moved = rows_moved cs rows (subst (λ (n : ℕ). IsPermutation (range_with_len 0 n) rows)
    (sym (length-contents kept slots)) c.requires.rows) in
    let files : FilesByKind =
    record { data_files = c.in_ok-files_of_rows-in-Some.field-0; delete_files = c.new.result } in
    all_data kept (runs_at cs rows) files
    (no_deletes kept (kept_in cs) (runs_at cs rows) deletes here none.0 none.1 moved)
    c.in_ok-files_of_rows-in-Some.ensures c.new.ensures.items
