use Rattle.std.proofs.Common.{◌≡◌, ◌<◌, ◌∙◌, [], List, ℕ, ap, filter, length, refl, subst, sym}
use Rattle.std.specs.List.{range_with_len}
use Rattle.std.specs.List.Sorted.{IsPermutation}
use Rattle.std.proofs.lemmas.List.Sorted.{IsPermutation-refl}
use Rattle.std.proofs.lemmas.List.Elements.{recursion_from_All}
use Rattle.std.proofs.lemmas.Result.{err_from_is_err_and}
use Rattle.ice_value.specs.declared.file_content.FileContent.TheVariants.{Data}
use Rattle.ice_manifest_reading.specs.declared.entry.Entry.{Entry}
use Rattle.ice_state.specs.ByKind.{HasFilesOf}
use Rattle.ice_state.specs.Lines.{AreWithin}
use Rattle.ice_state.specs.Orders.{runs_at}
use Rattle.ice_state.specs.Outcomes.{by_path, kept_in, twice}
use Rattle.ice_state.specs.Pruning.{holds}
use Rattle.ice_state.specs.Rising.{HaveRisingPaths}
use Rattle.ice_state.specs.Slots.{contents}
use Rattle.ice_state.proofs.RankedIndex.{order_below}
use Rattle.ice_state.proofs.RowsMoved.{rows_moved}
use Rattle.ice_state.proofs.SlotContents.{length-contents}
use Rattle.ice_state.proofs.finish.files_by_path.Given.{Over}
use Rattle.ice_state.proofs.finish.files_by_path.Goals as goal
use Rattle.ice_state.proofs.finish.files_by_path.Goals.{In_ok-rows, In_ok-files}
use Rattle.ice_state.proofs.finish.files_by_path.Goals.{then-not-rows_rise+in_ok-rise+in_ok-put_in_order, else-not-rows_rise}

-- the rows' files are those of the content, in another order
moved : (g : Over) (c : In_ok-rows g) → IsPermutation (kept_in (contents c.args.entries.now c.args.slots.now))
    (runs_at (contents c.args.entries.now c.args.slots.now) c.in_ok-rows.rows)
moved g c =
    let cs = contents c.args.entries.now c.args.slots.now in
    rows_moved cs c.in_ok-rows.rows (subst (λ (n : ℕ). IsPermutation (range_with_len 0 n) c.in_ok-rows.rows)
    (sym (length-contents c.args.entries.now c.args.slots.now)) c.in_ok-rows.ensures)

has : (g : Over) (c : In_ok-files g) → HasFilesOf c.args.entries.now
    (runs_at (contents c.args.entries.now c.args.slots.now) c.in_ok-rows.rows) c.in_ok-files.files
has g c = subst (λ (ns : List ℕ). HasFilesOf c.args.entries.now
    (runs_at (contents c.args.entries.now c.args.slots.now) ns) c.in_ok-files.files) c.as_slice.ensures
    c.in_ok-files.ensures

-- the rows are places of slots
within : (g : Over) (c : In_ok-rows g) → AreWithin (length c.args.slots.now) c.in_ok-rows.rows
within g c =
    let n = length c.args.slots.now in
    recursion_from_All (λ k. k < n) c.in_ok-rows.rows (order_below n c.in_ok-rows.rows c.in_ok-rows.ensures)

pub rows_rise-requires-clause-rows : goal.rows_rise-requires-clause-rows
rows_rise-requires-clause-rows g c =
    subst (AreWithin (length c.args.slots.now)) (sym c.as_slice-2.ensures)
    (within g (goal.at.rows_rise-requires-clause-rows g c).In_ok-rows)

pub data_files_rise-requires-clause-rows : goal.data_files_rise-requires-clause-rows
data_files_rise-requires-clause-rows g c =
    subst (AreWithin (length c.args.slots.now)) (sym c.as_slice-then-not-rows_rise.ensures)
    (within g (goal.at.data_files_rise-requires-clause-rows g c).In_ok-rows)

pub put_in_order-requires-clause-rise : goal.put_in_order-requires-clause-rise
put_in_order-requires-clause-rise g c = λ t.
    let cs = contents c.args.entries.now c.args.slots.now in
    subst HaveRisingPaths (ap (λ rows. filter (holds Data) (runs_at cs rows)) c.as_slice-then-not-rows_rise.ensures
    ∙ sym (has g (goal.at.put_in_order-requires-clause-rise g c).In_ok-files).all) (c.in_ok-rise.ensures t)

pub returns-in_err-rise : goal.returns-in_err-rise
returns-in_err-rise g c =
    let all = kept_in (contents c.args.entries.now c.args.slots.now) in
    let p = err_from_is_err_and c.from_residual-in_err-rise.result c.from_residual-in_err-rise.ensures.1 in
    (all, IsPermutation-refl all, rw (p.1, p.2) tt)

pub returns-in_err-rows : goal.returns-in_err-rows
returns-in_err-rows g c =
    let all = kept_in (contents c.args.entries.now c.args.slots.now) in
    let p = err_from_is_err_and c.from_residual.result c.from_residual.ensures.1 in
    (all, IsPermutation-refl all, rw (p.1, p.2) tt)

pub returns-in_err-files : goal.returns-in_err-files
returns-in_err-files g c =
    let all = kept_in (contents c.args.entries.now c.args.slots.now) in
    let p = err_from_is_err_and c.from_residual-in_err-files.result c.from_residual-in_err-files.ensures.1 in
    (all, IsPermutation-refl all, rw (p.1, p.2) tt)

pub returns-in_err-put_in_order : goal.returns-in_err-put_in_order
returns-in_err-put_in_order g c =
    let at = goal.at.returns-in_err-put_in_order g c in
    let xs = runs_at (contents c.args.entries.now c.args.slots.now) c.in_ok-rows.rows in
    let p = err_from_is_err_and c.from_residual-in_err-put_in_order.result
    c.from_residual-in_err-put_in_order.ensures.1 in
    (xs, moved g at.In_ok-rows, rw (p.1, p.2) (c.in_err-put_in_order.ensures.once xs (has g at.In_ok-files)))

pub returns : goal.returns
returns g c =
    let kept = c.args.entries.now in
    let cs = contents kept c.args.slots.now in
    let xs = runs_at cs c.in_ok-rows.rows in
    let at = goal.at.returns g c in
    let here = has g at.In_ok-files in (
      xs,
      moved g at.In_ok-rows,
      elim c.if-not-rows_rise.branch [
        | then-not-rows_rise+in_ok-rise+in_ok-put_in_order w ↦
            let put = w.in_ok-put_in_order.ensures in
            rw w.files-is (put.sorted xs here, put.once xs here)
        | else-not-rows_rise w ↦
            let stand = w.if-not-rows_rise.ensures in
            let sorted : by_path xs ≡ xs = subst (λ (ns : List ℕ). by_path (runs_at cs ns) ≡ runs_at cs ns)
            c.as_slice-2.ensures (stand.sorted refl) in
            let once : twice xs ≡ [] = subst (λ (ns : List ℕ). twice (runs_at cs ns) ≡ []) c.as_slice-2.ensures
            (stand.once refl) in
            rw w.files-is (
              subst (λ (ys : List Entry). HasFilesOf kept ys c.in_ok-files.files) (sym sorted) here,
              ap twice sorted ∙ once,
            )
      ],
    )
