use Rattle.std.proofs.Common.{}
use Rattle.icescan_parts.proofs.running.part_file.Goals as goal

pub returns-clause-given : goal.returns-clause-given
returns-clause-given g c =
    let all = rw (c.deref-2.ensures.value, c.in_ok-text.ensures, c.deref.ensures.value)
    at c.in_ok-write_all.ensures.all in
    (c.in_ok-lines.lines.items, c.in_ok-lines.ensures.given, all)
