use Rattle.std.proofs.Common.{◌≡◌, take, false}
use Rattle.icescan_print.specs.Escaping.{escaped}
use Rattle.icescan_print.proofs.escape.has_escaped.Given as goal

-- where none was found the bytes so far stand as they are
abbrev pub invariant-bytes : goal.invariant-bytes
invariant-bytes l = record {
  plain : l.has ≡ false → escaped (take l.i l.bytes) ≡ take l.i l.bytes;
}
