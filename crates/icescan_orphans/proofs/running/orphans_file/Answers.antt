use Rattle.std.proofs.Common.{}
use Rattle.icescan_orphans.proofs.running.orphans_file.Goals as goal

pub returns-clause-given : goal.returns-clause-given
returns-clause-given g c =
    let lines = rw c.deref.ensures.value at c.in_ok-lines.ensures in
    let all = rw (c.deref-3.ensures.value, c.in_ok-text.ensures, c.deref-2.ensures.value, lines)
    at c.in_ok-write_all.ensures.all in
    (c.in_ok-found.found.items, c.in_ok-found.ensures.given, all)
