use Rattle.std.proofs.Common.{◌≡◌, ◌+◌, length}
use Rattle.ice_filter.specs.Lexing.{run_from, is_name_byte}
use Rattle.ice_filter.proofs.lexer.name_length.Given as goal

abbrev pub invariant-bytes : goal.invariant-bytes
invariant-bytes l = record {
  found : run_from is_name_byte l.count l.rest ≡ run_from is_name_byte 0 l.fn.bytes;
  counted : l.count + length l.rest ≡ length l.fn.bytes;
}

abbrev pub decreases-bytes : goal.decreases-bytes
decreases-bytes l = length l.rest
