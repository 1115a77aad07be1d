use Rattle.std.proofs.Common.{rules, SFits, w32}
use Rattle.std.proofs.Math.Facts.{to_z-of_z}
use Rattle.icescan_print.specs.TableTexts.{spec_line}
use Rattle.icescan_print.proofs.table_lines.SpecTableLine.put_line.Goals as goal

pub returns : goal.returns
unfolding spec_line
returns g c = let fits : SFits w32 c.args.self.now.id = search rules in rw c.as_slice-fields.ensures at
    (simp to_z-of_z at c.put_counted.ensures)
