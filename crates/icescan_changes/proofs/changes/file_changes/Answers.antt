use Rattle.std.proofs.Common.{◌≤◌, ◌⊎◌, ◌∙◌, arith, inl, inr, length}
use Rattle.icescan_changes.specs.Changes.{file_changes, file_path, files_told}
use Rattle.icescan_changes.specs.declared.changes.FileChange.TheVariants as change
use Rattle.icescan_changes.proofs.Walking.{walk_ends, walk_on}
use Rattle.icescan_changes.proofs.changes.file_changes.Goals as goal
use Rattle.icescan_changes.proofs.changes.file_changes.Goals.{then-files-test+else-j-len, else-files-test}

pub files-preserved : goal.files-preserved
files-preserved c =
    let earlier = c.args.earlier.now in
    let later = c.args.later.now in
    rw (c.past_earlier-i.ensures, c.past_later-j.ensures)
    (walk_on file_path change.Removed change.Added files_told earlier later c.files.i c.files.j c.file.result
    c.file-in-files.result c.in_ok-order.order c.files.changes.items c.push_first_files.new.changes.items
    (file_changes earlier later) c.file.ensures c.file-in-files.ensures c.in_ok-order.ensures.order
    c.in_ok-order.ensures.told c.files.invariant)

pub returns : goal.returns
returns c =
    let earlier = c.args.earlier.now in
    let later = c.args.later.now in
    let ended : (length earlier ≤ c.files.i) ⊎ (length later ≤ c.files.j) = elim c.files-test.branch [
      | then-files-test+else-j-len w ↦ inr (omega (arith, w.if-j-len.false, w.len-in-files.ensures.counted))
      | else-files-test w ↦ inl (omega (arith, w.files-test.false, c.len.ensures.counted))
    ] in
    c.from_vec.ensures ∙ walk_ends file_path change.Removed change.Added files_told earlier later c.files.i c.files.j
    c.files.changes.items
    c.push_removed_files.new.changes.items c.push_added_files.new.changes.items (file_changes earlier later) ended
    c.in_ok-push_removed_files.ensures c.in_ok-push_added_files.ensures c.files.invariant
