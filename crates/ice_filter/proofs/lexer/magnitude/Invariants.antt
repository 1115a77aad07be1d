use Rattle.std.proofs.Common.{◌≡◌, ◌≤◌, length}
use Rattle.ice_filter.specs.Lexing.{magnitude_from}
use Rattle.ice_filter.proofs.lexer.magnitude.Given as goal

abbrev pub invariant-digits : goal.invariant-digits
invariant-digits l = record {
  found : magnitude_from l.number l.rest ≡ magnitude_from 0 l.fn.digits;
  fits : l.number ≤ 0x8000_0000_0000_0000;
}

abbrev pub decreases-digits : goal.decreases-digits
decreases-digits l = length l.rest
