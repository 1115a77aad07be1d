use Rattle.std.proofs.Common.{◌≡◌, ◌++◌, take}
use Rattle.std.specs.Prelude.{map}
use Rattle.icescan_c_requests.specs.Hints.{plain_byte}
use Rattle.icescan_c_requests.proofs.hints.push_line.Given as goal

abbrev pub invariant-bytes : goal.invariant-bytes
invariant-bytes l = l.text.items ≡ l.initial.text.items ++ map plain_byte (take l.byte-index l.line)
