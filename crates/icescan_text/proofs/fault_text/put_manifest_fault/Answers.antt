use Rattle.std.proofs.Common.{rules, SFits, w32}
use Rattle.std.proofs.Math.Facts.{to_z-of_z}
use Rattle.icescan_print.proofs.Writes.{wrote_more, wrote_less}
use Rattle.icescan_text.specs.FaultTexts.{manifest_text}
use Rattle.icescan_text.proofs.fault_text.put_manifest_fault.Goals as goal

pub returns-in_err-write_all-in-Avro : goal.returns-in_err-write_all-in-Avro
unfolding manifest_text
returns-in_err-write_all-in-Avro g c = rw c.in-Avro.is (wrote_less _ _ _ _ _ _ _ _ c.from_residual.ensures.0
    c.in_err-write_all-in-Avro.ensures)

pub returns-in_ok-write_all-in-Avro : goal.returns-in_ok-write_all-in-Avro
unfolding manifest_text
returns-in_ok-write_all-in-Avro g c = rw c.in-Avro.is (wrote_more _ _ _ _ _ _ _ _ _ c.in_ok-write_all-in-Avro.ensures
    c.put_avro_fault.ensures)

pub returns-in-MissingField : goal.returns-in-MissingField
unfolding manifest_text
returns-in-MissingField g c = let fits : SFits w32 c.in-MissingField.id = search rules in rw c.in-MissingField.is
    (simp to_z-of_z at c.put_named_int.ensures)

pub returns-in-WrongFieldType : goal.returns-in-WrongFieldType
unfolding manifest_text
returns-in-WrongFieldType g c = let fits : SFits w32 c.in-WrongFieldType.id = search rules in rw c.in-WrongFieldType.is
    (simp to_z-of_z at c.put_named_int-in-WrongFieldType.ensures)

pub returns-in-OutOfRange : goal.returns-in-OutOfRange
unfolding manifest_text
returns-in-OutOfRange g c = let fits : SFits w32 c.in-OutOfRange.id = search rules in rw c.in-OutOfRange.is
    (simp to_z-of_z at c.put_named_int-in-OutOfRange.ensures)

pub returns-in-BadStatus : goal.returns-in-BadStatus
unfolding manifest_text
returns-in-BadStatus g c = rw c.in-BadStatus.is c.write_all-in-BadStatus.ensures

pub returns-in-BadContent : goal.returns-in-BadContent
unfolding manifest_text
returns-in-BadContent g c = rw c.in-BadContent.is c.write_all-in-BadContent.ensures

pub returns-in-NoSequence : goal.returns-in-NoSequence
unfolding manifest_text
returns-in-NoSequence g c = rw c.in-NoSequence.is c.write_all-in-NoSequence.ensures

pub returns-in-FloatPartition : goal.returns-in-FloatPartition
unfolding manifest_text
returns-in-FloatPartition g c = let fits : SFits w32 c.in-FloatPartition.id = search rules in rw c.in-FloatPartition.is
    (simp to_z-of_z at c.put_named_int-in-FloatPartition.ensures)
