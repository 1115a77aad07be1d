use Rattle.std.proofs.Common.{sym, ◌∙◌}
use Rattle.std.proofs.lemmas.Result.{err_from_is_err_and}
use Rattle.ice_manifest_fields.specs.Seen.{fields_seen}
use Rattle.ice_manifest_reading.proofs.Cells.{fit_fails, fit_passes, fits_end}
use Rattle.ice_manifest_reading.proofs.tuple.check_cells.Goals as goal

pub returns-in_err-check_cell_at : goal.returns-in_err-check_cell_at
returns-in_err-check_cell_at c =
    let p = err_from_is_err_and c.from_residual.result c.from_residual.ensures.1 in
    rw (p.1, p.2) (sym (sym c.partition.invariant ∙ fit_fails c.args.partition.now (fields_seen c.args.fields.now)
    c.partition.wanted-index c.wanted-item.result _ c.partition-test.true c.wanted-item.is
    c.in_err-check_cell_at.ensures))

pub partition-preserved : goal.partition-preserved
partition-preserved c = sym (fit_passes c.args.partition.now (fields_seen c.args.fields.now) c.partition.wanted-index
    c.wanted-item.result _ c.partition-test.true c.wanted-item.is c.in_ok-check_cell_at.ensures) ∙ c.partition.invariant

pub returns : goal.returns
returns c = sym (fits_end c.args.partition.now (fields_seen c.args.fields.now) c.partition.wanted-index
    c.partition-test.false) ∙ c.partition.invariant
