use Rattle.std.proofs.Common.{rules, SFits, w64}
use Rattle.std.proofs.Math.Facts.{to_z-of_z}
use Rattle.icescan_print.proofs.table_lines.put_named_id.Goals as goal

pub returns-in-Some : goal.returns-in-Some
returns-in-Some g c = let fits : SFits w64 c.in-Some.id = search rules in
    rw c.in-Some.is (simp to_z-of_z at c.put_named_long.ensures)
