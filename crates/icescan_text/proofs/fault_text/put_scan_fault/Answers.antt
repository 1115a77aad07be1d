use Rattle.std.proofs.Common.{rules, SFits, w32}
use Rattle.std.proofs.Math.Facts.{to_z-of_z}
use Rattle.icescan_text.specs.FaultTexts.{scan_text}
use Rattle.icescan_text.proofs.fault_text.put_scan_fault.Goals as goal

pub returns-in-NoSuchSpec : goal.returns-in-NoSuchSpec
unfolding scan_text
returns-in-NoSuchSpec g c = let fits : SFits w32 c.in-NoSuchSpec.id = search rules in rw c.in-NoSuchSpec.is
    (simp to_z-of_z at c.put_named_int.ensures)
