use Rattle.std.proofs.Common.{◌≡◌, ◌++◌, take}
use Rattle.ice_value.specs.declared.file_bounds.FileBounds.{FileBounds}
use Rattle.icescan_audit_findings.specs.ColumnFlaws.{columns_flaws}
use Rattle.icescan_audit_findings.specs.ColumnsSaid.{AreMapsOf}
use Rattle.icescan_audit_findings.proofs.columns.push_flaws_found.Given as goal

abbrev pub invariant-columns : goal.invariant-columns
invariant-columns l = (file : FileBounds) → AreMapsOf file l.fn.maps → record {
  maps : AreMapsOf file l.maps;
  flaws : l.flaws.items ≡ l.fn.flaws.items ++ columns_flaws file (take l.column-index l.columns);
}
