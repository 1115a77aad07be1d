use Rattle.std.proofs.Common.{not, refl, sym, ap, ◌∙◌}
use Rattle.ice_deletes.proofs.Held.{fresh_more, held_more}
use Rattle.ice_deletes.proofs.growth.fresh.Goals as goal
use Rattle.ice_deletes.proofs.growth.fresh.Goals.{then-not-is_held+in_ok-renumbered+in_ok-push, else-not-is_held}

pub files-preserved : goal.files-preserved
files-preserved c = elim c.if-not-is_held.branch [
  | then-not-is_held+in_ok-renumbered+in_ok-push w ↦
      rw (w.fresh-is, w.in_ok-push.ensures.items)
      (fresh_more c.args.held.now c.args.to.now c.args.files.now c.files.file-index c.file-item.result
      c.files.fresh.items w.in_ok-renumbered.field-0 _ c.files-test.true c.file-item.is refl c.files.invariant
      w.in_ok-renumbered.ensures (ap not (sym c.is_held.ensures ∙ w.if-not-is_held.true)))
  | else-not-is_held w ↦
      rw w.fresh-is
      (held_more c.args.held.now c.args.to.now c.args.files.now c.files.file-index c.file-item.result
      c.files.fresh.items _ c.files-test.true c.file-item.is refl c.files.invariant
      (ap not (sym c.is_held.ensures ∙ w.if-not-is_held.false)))
]
