-- Plans by numbers.
use Rattle.std.proofs.Common.{◌≡◌, refl}
use Rattle.ice_state.specs.Segments.{Segmented}
use Rattle.ice_state.specs.declared.plan.NumberedPlan.{NumberedPlan}
use Rattle.ice_state.specs.Lines.{lines_of, IsPlanned}

-- the same numbers are planned alike
module _ (kept : Segmented) (p q : NumberedPlan) (files : q.files.items ≡ p.files.items)
    (deletes : q.deletes.items ≡ p.deletes.items) (places : q.places ≡ p.places) where
  pub planned_alike : IsPlanned kept p → IsPlanned kept q
  planned_alike is = record {
    files = rw files is.files;
    deletes = rw deletes is.deletes;
    lines = rw (files, deletes, places) is.lines;
  }

  pub lines_alike : lines_of kept q ≡ lines_of kept p
  lines_alike = rw (files, deletes, places) refl
