use Rattle.std.proofs.Common.{◌≡◌, ◌+◌, length, []}
use Rattle.ice_filter.specs.Lexing.{hex_from}
use Rattle.ice_filter.proofs.lexer.hex.Given as goal

abbrev pub invariant-bytes : goal.invariant-bytes
invariant-bytes l = record {
  found : hex_from l.found l.count l.rest ≡ hex_from [] 2 l.fn.bytes;
  counted : l.count + length l.rest ≡ 2 + length l.fn.bytes;
}

abbrev pub decreases-bytes : goal.decreases-bytes
decreases-bytes l = length l.rest
