use Rattle.std.proofs.Common.{◌≡◌, ◌++◌, ◌≤◌, length, take}
use Rattle.ice_value.specs.declared.file_bounds.FileBounds.{FileBounds}
use Rattle.icescan_audit_findings.specs.ColumnFlaws.{columns_flaws}
use Rattle.icescan_audit_findings.specs.ColumnsSaid.{AreMapsOf}
use Rattle.icescan_audit_findings.specs.Places.{HasFlawed}
use Rattle.icescan_audit_findings.proofs.Standing.{ArePassed}
use Rattle.icescan_audit_findings.proofs.columns.push_flaws_found_at.Given as goal

-- the columns in front of one were looked at, or nothing is wrong with them
abbrev pub invariant-places : goal.invariant-places
invariant-places l = record {
  low : l.from ≤ length l.columns;
  passed : ArePassed l.columns l.places l.place-index l.from;
  told : (file : FileBounds) → AreMapsOf file l.fn.maps → HasFlawed file l.columns l.places → record {
    maps : AreMapsOf file l.maps;
    flaws : l.flaws.items ≡ l.fn.flaws.items ++ columns_flaws file (take l.from l.columns);
  };
}
