use Rattle.std.proofs.Common.{◌≡◌, ◌++◌, take}
use Rattle.std.specs.List.{flat_map}
use Rattle.icescan_changes.specs.Texts.{change_text}
use Rattle.icescan_changes.proofs.lines.push_lines.Given as goal

-- the lines so far
abbrev pub invariant-changes : goal.invariant-changes
invariant-changes l = l.text.items ≡ l.fn.text.items ++ flat_map change_text (take l.change-index l.changes)
