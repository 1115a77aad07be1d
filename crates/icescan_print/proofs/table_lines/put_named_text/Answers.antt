use Rattle.icescan_print.proofs.table_lines.put_named_text.Goals as goal

pub returns-in-Some : goal.returns-in-Some
returns-in-Some g c = rw c.in-Some.is (rw c.as_bytes.ensures at c.put_named_path.ensures)
