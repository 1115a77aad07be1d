use Rattle.std.proofs.Common.{◌≡◌, ◌∙◌, ◌+◌, ◌<◌, ◌≤◌, false, sym, arith, rules, length, length-drop, drop, get_or}
use Rattle.std.proofs.lemmas.Result.{err_from_is_err_and}
use Rattle.ice_filter.specs.Automaton.{state_of}
use Rattle.ice_filter.specs.Grammar.{limits}
use Rattle.ice_filter.specs.Lexing.{Sized, tokens_from, is_separator}
use Rattle.ice_filter.specs.Parsing.{add_part, finish, outcome}
use Rattle.ice_filter.specs.Reads.{IsFront}
use Rattle.ice_filter.proofs.Tokens.{separator_at, token_on, goes_on, stops, ends_here}
use Rattle.ice_filter.proofs.parser.Parser.read.Goals as goal

pub tokens-preserved-then-is_separator : goal.tokens-preserved-then-is_separator
tokens-preserved-then-is_separator c = record {
  within = omega arith;
  found = rw (← separator_at c.as_bytes-bytes.result.now c.tokens.at (omega arith) (search rules))
      c.tokens.invariant.found;
}

pub tokens-preserved : goal.tokens-preserved
tokens-preserved c =
    let bs = c.as_bytes-bytes.result.now in
    let x : Sized = (c.in_ok-token.token, c.in_ok-token.size) in
    let lt : c.tokens.at < length bs = omega arith in
    let sep : is_separator (get_or bs c.tokens.at 0) ≡ false = search rules in
    let front : IsFront x (drop c.tokens.at bs) = rw c.behind.ensures at c.in_ok-token.ensures.found in
    let t = token_on bs c.tokens.at x lt sep front c.in_ok-token.ensures.size.0 in
    let room : c.in_ok-token.size ≤ length (drop c.tokens.at bs) = rw c.behind.ensures at
    c.in_ok-token.ensures.size.1 in
    record {
      within = omega (arith, length-drop c.tokens.at bs);
      found = sym (goes_on add_part limits (length bs) c.tokens.at (state_of c.tokens.self) (state_of c.step.new.self)
          c.in_ok-token.token (tokens_from (c.tokens.at + c.in_ok-token.size) 0 (drop (c.tokens.at + c.in_ok-token.size)
          bs)) c.in_ok-step.ensures) ∙ rw t at c.tokens.invariant.found;
    }

pub returns-in_err-step : goal.returns-in_err-step
returns-in_err-step c =
    let bs = c.as_bytes-bytes.result.now in
    let x : Sized = (c.in_ok-token.token, c.in_ok-token.size) in
    let lt : c.tokens.at < length bs = omega arith in
    let sep : is_separator (get_or bs c.tokens.at 0) ≡ false = search rules in
    let front : IsFront x (drop c.tokens.at bs) = rw c.behind.ensures at c.in_ok-token.ensures.found in
    let t = token_on bs c.tokens.at x lt sep front c.in_ok-token.ensures.size.0 in
    let p = err_from_is_err_and c.from_residual-in_err-step.result c.from_residual-in_err-step.ensures.1 in
    let told = rw t at c.tokens.invariant.found in
    rw (p.1, p.2, ← c.as_bytes-bytes.ensures.value) (λ ne. sym told ∙ stops add_part limits (length bs) c.tokens.at
    (state_of c.tokens.self) c.in_err-step.field-0.0 c.in_ok-token.token
    (tokens_from (c.tokens.at + c.in_ok-token.size) 0 (drop (c.tokens.at + c.in_ok-token.size) bs))
    (c.in_err-step.ensures ne))

pub returns : goal.returns
returns c =
    let bs = c.as_bytes-bytes.result.now in
    let le : length bs ≤ c.tokens.at = omega arith in
    let e : finish add_part (length bs) (state_of c.tokens.self) ≡ outcome add_part limits (length bs)
    (state_of c.args.self.now) (tokens_from 0 0 bs) = sym (ends_here add_part limits (length bs) c.tokens.at
    (state_of c.tokens.self) bs le) ∙ c.tokens.invariant.found in
    rw (← c.as_bytes-bytes.ensures.value, ← e) c.finish.ensures
