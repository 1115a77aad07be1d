use Rattle.std.proofs.Common.{rules, SFits, w32}
use Rattle.std.proofs.Math.Facts.{to_z-of_z}
use Rattle.icescan_text.specs.FaultTexts.{prepare_text}
use Rattle.icescan_text.proofs.fault_text.put_prepare_fault.Goals as goal

pub returns-in-PathTaken : goal.returns-in-PathTaken
unfolding prepare_text
returns-in-PathTaken g c = rw c.in-PathTaken.is (rw c.as_bytes.ensures at c.put_named_path.ensures)

pub returns-in-PathTwice : goal.returns-in-PathTwice
unfolding prepare_text
returns-in-PathTwice g c = rw c.in-PathTwice.is (rw c.as_bytes-in-PathTwice.ensures at
    c.put_named_path-in-PathTwice.ensures)

pub returns-in-WrongTuple : goal.returns-in-WrongTuple
unfolding prepare_text
returns-in-WrongTuple g c = rw c.in-WrongTuple.is (rw c.as_bytes-in-WrongTuple.ensures at
    c.put_named_path-in-WrongTuple.ensures)

pub returns-in-BadFile : goal.returns-in-BadFile
unfolding prepare_text
returns-in-BadFile g c = rw c.in-BadFile.is (rw c.as_bytes-in-BadFile.ensures at c.put_named_path-in-BadFile.ensures)

pub returns-in-Empty : goal.returns-in-Empty
unfolding prepare_text
returns-in-Empty g c = rw c.in-Empty.is c.write_all-in-Empty.ensures

pub returns-in-TooManyRows : goal.returns-in-TooManyRows
unfolding prepare_text
returns-in-TooManyRows g c = rw c.in-TooManyRows.is c.write_all-in-TooManyRows.ensures

pub returns-in-OutOfOrder : goal.returns-in-OutOfOrder
unfolding prepare_text
returns-in-OutOfOrder g c = rw c.in-OutOfOrder.is c.write_all-in-OutOfOrder.ensures

pub returns-in-NoSuchSpec : goal.returns-in-NoSuchSpec
unfolding prepare_text
returns-in-NoSuchSpec g c =
    let fits : SFits w32 c.in-NoSuchSpec.id = search rules in
    rw c.in-NoSuchSpec.is (simp to_z-of_z at c.put_named_int.ensures)
