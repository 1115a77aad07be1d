use Rattle.std.proofs.Common.{List, ◌≡◌, subst}
use Rattle.std.specs.declared.cmp.Ordering.TheVariants.{Equal}
use Rattle.std.proofs.lemmas.Cmp.{tied_itself}
use Rattle.std.proofs.lemmas.List.Sorted.{ranks_by}
use Rattle.ice_value.specs.declared.cell.Cell.{Cell}
use Rattle.ice_value.specs.Cells.{cell_cmp}
use Rattle.ice_value.specs.Equality.{cell_cmp_total, cell_cmp_same, tuple_cmp_total, tuple_cmp_equal}
use Rattle.ice_value.proofs.Orders.{of_one_kind, of_kinds}
use Rattle.ice_value.proofs.cell.total_order_of_cells.Goals as goal

pub returns-clause-cells : goal.returns-clause-cells
returns-clause-cells c = cell_cmp_total

pub returns-clause-same_cells : goal.returns-clause-same_cells
returns-clause-same_cells c =
    λ a b. (
      cell_cmp_same a b,
      λ e. let P : Cell → Type 0 = λ v. cell_cmp a v ≡ Equal in
          subst P e (tied_itself cell_cmp_total a),
    )

pub returns-clause-tuples : goal.returns-clause-tuples
returns-clause-tuples c = tuple_cmp_total

pub returns-clause-same_tuples : goal.returns-clause-same_tuples
returns-clause-same_tuples c = tuple_cmp_equal

pub returns-clause-of_one_kind : goal.returns-clause-of_one_kind
returns-clause-of_one_kind c = of_one_kind

pub returns-clause-of_kinds : goal.returns-clause-of_kinds
returns-clause-of_kinds c = of_kinds

pub returns-clause-sortable : goal.returns-clause-sortable
returns-clause-sortable c = ranks_by tuple_cmp_total (λ (t : List Cell). t)
