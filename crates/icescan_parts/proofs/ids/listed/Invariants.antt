use Rattle.std.proofs.Common.{◌≡◌, take}
use Rattle.icescan_parts.specs.Ids.{listed}
use Rattle.icescan_parts.proofs.ids.listed.Given as goal

-- the text of the ids so far
abbrev pub invariant-ids : goal.invariant-ids
invariant-ids l = l.text.items ≡ listed (take l.id-index l.ids)
