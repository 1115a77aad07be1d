use Rattle.std.proofs.Common.{◌≡◌, ◌≤◌, ◌*◌, ◌^◌, pos, drop}
use Rattle.std.specs.Prelude.{◌+ℤ◌}
use Rattle.ice_manifest.specs.Adding.{lent}
use Rattle.ice_manifest.specs.NewRows.{records_in}
use Rattle.ice_manifest.proofs.new_row.records_in.Given as goal

abbrev pub invariant-files : goal.invariant-files
invariant-files l = record {
  total : pos l.records +ℤ records_in (lent (drop l.file-index l.files)) ≡ records_in (lent l.files);
  few : l.records ≤ l.file-index * 2 ^ 40;
}
