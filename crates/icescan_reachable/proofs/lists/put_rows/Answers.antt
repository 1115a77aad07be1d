use Rattle.std.proofs.Common.{}
use Rattle.icescan_reachable.proofs.lists.put_rows.Goals as goal

pub returns-clause-given : goal.returns-clause-given
returns-clause-given g c = (c.in_ok-more.more.items, c.in_ok-more.ensures.given, c.in_ok-put_more.ensures)
