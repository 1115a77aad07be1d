use Rattle.std.proofs.Common.{rules, SFits, w64}
use Rattle.std.proofs.Math.Facts.{to_z-of_z}
use Rattle.icescan_text.specs.FaultTexts.{meta_text}
use Rattle.icescan_text.proofs.fault_text.put_meta_fault.Goals as goal

pub returns-in-Version : goal.returns-in-Version
unfolding meta_text
returns-in-Version g c = let fits : SFits w64 c.in-Version.n = search rules in
    rw c.in-Version.is (simp to_z-of_z at c.put_named_long.ensures)

pub returns-in-IdTwice : goal.returns-in-IdTwice
unfolding meta_text
returns-in-IdTwice g c = let fits : SFits w64 c.in-IdTwice.id = search rules in
    rw c.in-IdTwice.is (simp to_z-of_z at c.put_named_long-in-IdTwice.ensures)

pub returns-in-UnknownType : goal.returns-in-UnknownType
unfolding meta_text
returns-in-UnknownType g c = rw c.in-UnknownType.is (rw c.as_bytes.ensures at c.put_named_path.ensures)
