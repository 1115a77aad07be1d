use Rattle.icescan_print.proofs.Writes.{wrote_more, wrote_less}
use Rattle.icescan_text.specs.FaultTexts.{avro_text}
use Rattle.icescan_text.proofs.fault_text.put_avro_fault.Goals as goal

pub returns-in_err-write_all-in-Schema : goal.returns-in_err-write_all-in-Schema
unfolding avro_text
returns-in_err-write_all-in-Schema g c = rw c.in-Schema.is (wrote_less _ _ _ _ _ _ _ _ c.from_residual.ensures.0
    c.in_err-write_all-in-Schema.ensures)

pub returns-in_ok-write_all-in-Schema : goal.returns-in_ok-write_all-in-Schema
unfolding avro_text
returns-in_ok-write_all-in-Schema g c = rw c.in-Schema.is (wrote_more _ _ _ _ _ _ _ _ _
    c.in_ok-write_all-in-Schema.ensures c.put_schema_fault.ensures)

pub returns-in-Truncated : goal.returns-in-Truncated
unfolding avro_text
returns-in-Truncated g c = rw c.in-Truncated.is c.put_named_number.ensures

pub returns-in-BadNumber : goal.returns-in-BadNumber
unfolding avro_text
returns-in-BadNumber g c = rw c.in-BadNumber.is c.write_all-in-BadNumber.ensures

pub returns-in-BlockSize : goal.returns-in-BlockSize
unfolding avro_text
returns-in-BlockSize g c = rw c.in-BlockSize.is c.write_all-in-BlockSize.ensures

pub returns-in-BadBoolean : goal.returns-in-BadBoolean
unfolding avro_text
returns-in-BadBoolean g c = rw c.in-BadBoolean.is c.write_all-in-BadBoolean.ensures

pub returns-in-TooManyItems : goal.returns-in-TooManyItems
unfolding avro_text
returns-in-TooManyItems g c = rw c.in-TooManyItems.is c.write_all-in-TooManyItems.ensures
