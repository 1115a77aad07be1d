use Rattle.icescan_print.proofs.Writes.{wrote_more}
use Rattle.icescan_text.proofs.fault_text.put_member.Goals as goal

pub returns : goal.returns
returns g c = wrote_more _ _ _ _ _ _ _ _ _ c.in_ok-write_all.ensures (rw (c.as_bytes.ensures.value, c.name.ensures) at
    c.write_all-2.ensures)
