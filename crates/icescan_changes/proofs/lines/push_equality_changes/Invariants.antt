use Rattle.std.proofs.Common.{◌≡◌, ◌++◌, take}
use Rattle.std.specs.List.{flat_map}
use Rattle.icescan_changes.specs.Texts.{equality_change}
use Rattle.icescan_changes.proofs.lines.push_equality_changes.Given as goal

-- the lines so far
abbrev pub invariant-changes : goal.invariant-changes
invariant-changes l = l.text.items ≡ l.fn.text.items ++ flat_map equality_change (take l.change-index l.changes)
