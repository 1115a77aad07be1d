use Rattle.std.proofs.Common.{◌≡◌, take}
use Rattle.std.specs.List.{count_by}
use Rattle.icescan_changes.specs.Texts.{is_kind}
use Rattle.icescan_changes.proofs.lines.count_kind.Given as goal

-- how many so far
abbrev pub invariant-changes : goal.invariant-changes
invariant-changes l = l.count ≡ count_by (is_kind l.kind) (take l.change-index l.changes)
