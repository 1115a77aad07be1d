use Rattle.std.proofs.Common.{}
use Rattle.icescan_parts.proofs.Split.{apart, no_more, together}
use Rattle.icescan_parts.proofs.laws.parts_are_apart.Goals as goal

pub returns : goal.returns
returns c = record { apart = apart; together = together; no_more = no_more }
