use Rattle.std.proofs.Common.{◌≡◌, ◌+◌, length, []}
use Rattle.ice_filter.specs.Lexing.{quoted_from}
use Rattle.ice_filter.proofs.lexer.unquoted.Given as goal

abbrev pub invariant-bytes : goal.invariant-bytes
invariant-bytes l = record {
  found : quoted_from l.quote l.text l.count l.rest ≡ quoted_from l.quote [] 1 l.fn.bytes;
  counted : l.count + length l.rest ≡ 1 + length l.fn.bytes;
}

abbrev pub decreases-bytes : goal.decreases-bytes
decreases-bytes l = length l.rest
