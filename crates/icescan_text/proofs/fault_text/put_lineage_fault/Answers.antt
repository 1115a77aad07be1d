use Rattle.std.proofs.Common.{rules, SFits, w64}
use Rattle.std.proofs.Math.Facts.{to_z-of_z}
use Rattle.icescan_text.specs.FaultTexts.{lineage_text}
use Rattle.icescan_text.proofs.fault_text.put_lineage_fault.Goals as goal

pub returns-in-NotAppended : goal.returns-in-NotAppended
unfolding lineage_text
returns-in-NotAppended g c = let fits : SFits w64 c.in-NotAppended.id = search rules in rw c.in-NotAppended.is
    (simp to_z-of_z at c.put_named_long.ensures)

pub returns-in-NotAncestor : goal.returns-in-NotAncestor
unfolding lineage_text
returns-in-NotAncestor g c = rw c.in-NotAncestor.is c.write_all.ensures
