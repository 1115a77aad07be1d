use Rattle.std.proofs.Common.{◌≡◌, ◌-◌, ◌≤◌, length, drop}
use Rattle.ice_filter.specs.Automaton.{state_of}
use Rattle.ice_filter.specs.Grammar.{limits}
use Rattle.ice_filter.specs.Lexing.{tokens_from}
use Rattle.ice_filter.specs.Parsing.{add_part, outcome}
use Rattle.ice_filter.proofs.parser.Parser.read.Given as goal

-- what follows leads to what the whole text leads to
abbrev pub invariant-tokens : goal.invariant-tokens
invariant-tokens l = record {
  within : l.at ≤ length l.bytes;
  found : outcome add_part limits (length l.bytes) (state_of l.self) (tokens_from l.at 0 (drop l.at l.bytes))
      ≡ outcome add_part limits (length l.bytes) (state_of l.fn.self) (tokens_from 0 0 l.bytes);
}

abbrev pub decreases-tokens : goal.decreases-tokens
decreases-tokens l = length l.bytes - l.at
