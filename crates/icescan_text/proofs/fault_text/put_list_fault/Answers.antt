use Rattle.std.proofs.Common.{rules, SFits, w32}
use Rattle.std.proofs.Math.Facts.{to_z-of_z}
use Rattle.icescan_print.proofs.Writes.{wrote_more, wrote_less}
use Rattle.icescan_text.specs.FaultTexts.{list_text}
use Rattle.icescan_text.proofs.fault_text.put_list_fault.Goals as goal

pub returns-in_err-write_all-in-Avro : goal.returns-in_err-write_all-in-Avro
unfolding list_text
returns-in_err-write_all-in-Avro g c = rw c.in-Avro.is (wrote_less _ _ _ _ _ _ _ _ c.from_residual.ensures.0
    c.in_err-write_all-in-Avro.ensures)

pub returns-in_ok-write_all-in-Avro : goal.returns-in_ok-write_all-in-Avro
unfolding list_text
returns-in_ok-write_all-in-Avro g c = rw c.in-Avro.is (wrote_more _ _ _ _ _ _ _ _ _ c.in_ok-write_all-in-Avro.ensures
    c.put_avro_fault.ensures)

pub returns-in-MissingField : goal.returns-in-MissingField
unfolding list_text
returns-in-MissingField g c = let fits : SFits w32 c.in-MissingField.id = search rules in rw c.in-MissingField.is
    (simp to_z-of_z at c.put_named_int.ensures)

pub returns-in-WrongFieldType : goal.returns-in-WrongFieldType
unfolding list_text
returns-in-WrongFieldType g c = let fits : SFits w32 c.in-WrongFieldType.id = search rules in rw c.in-WrongFieldType.is
    (simp to_z-of_z at c.put_named_int-in-WrongFieldType.ensures)

pub returns-in-OutOfRange : goal.returns-in-OutOfRange
unfolding list_text
returns-in-OutOfRange g c = let fits : SFits w32 c.in-OutOfRange.id = search rules in rw c.in-OutOfRange.is
    (simp to_z-of_z at c.put_named_int-in-OutOfRange.ensures)

pub returns-in-BadContent : goal.returns-in-BadContent
unfolding list_text
returns-in-BadContent g c = rw c.in-BadContent.is c.write_all-in-BadContent.ensures

pub returns-in-ManifestTwice : goal.returns-in-ManifestTwice
unfolding list_text
returns-in-ManifestTwice g c = rw c.in-ManifestTwice.is (rw c.as_bytes.ensures at c.put_named_path.ensures)

pub returns-in-TooManyRows : goal.returns-in-TooManyRows
unfolding list_text
returns-in-TooManyRows g c = rw c.in-TooManyRows.is c.write_all-in-TooManyRows.ensures
