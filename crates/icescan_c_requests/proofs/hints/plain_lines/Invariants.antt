use Rattle.std.proofs.Common.{◌≡◌, take}
use Rattle.std.specs.List.{flat_map}
use Rattle.icescan_c_requests.specs.Hints.{plain_line}
use Rattle.icescan_c_requests.proofs.hints.plain_lines.Given as goal

abbrev pub invariant-lines : goal.invariant-lines
invariant-lines l = l.text.items ≡ flat_map plain_line (take l.line-index l.lines)
