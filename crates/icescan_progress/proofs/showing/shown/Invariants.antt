use Rattle.std.proofs.Common.{◌≡◌, take}
use Rattle.std.specs.List.{flat_map}
use Rattle.icescan_progress.specs.Hints.{shown_line}
use Rattle.icescan_progress.proofs.showing.shown.Given as goal

abbrev pub invariant-lines : goal.invariant-lines
invariant-lines l = l.text.items ≡ flat_map shown_line (take l.line-index l.lines)
