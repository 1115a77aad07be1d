use Rattle.std.proofs.Common.{}
use Rattle.icescan_orphans.proofs.running.strays_at.Goals as goal

pub returns-clause-given : goal.returns-clause-given
returns-clause-given g c =
    let told = rw c.deref.ensures.value at c.in_ok-told.ensures in
    let known = rw (c.deref-3.ensures.value, c.deref-4.ensures.value, told) at c.in_ok-known.ensures in
    let left = rw (known, c.deref-5.ensures.value) at c.in_ok-left.ensures in
    record {
      found = c.in_ok-found.found.items;
      lines = c.in_ok-lines.lines.items;
      more = c.in_ok-more.more.items;
      reached = c.in_ok-lines.ensures.given;
      are = left;
    }
