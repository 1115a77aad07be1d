use Rattle.std.proofs.Common.{◌≡◌, ◌++◌, take}
use Rattle.std.specs.List.{flat_map}
use Rattle.icescan_progress.specs.Hints.{shown_byte}
use Rattle.icescan_progress.proofs.showing.push_line.Given as goal

abbrev pub invariant-bytes : goal.invariant-bytes
invariant-bytes l = l.text.items ≡ l.initial.text.items ++ flat_map shown_byte (take l.byte-index l.line)
