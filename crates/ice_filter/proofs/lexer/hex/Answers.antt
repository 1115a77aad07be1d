use Rattle.std.proofs.Common.{sym, ◌∙◌, arith, rules, length-drop}
use Rattle.ice_filter.proofs.Quotes.{pair_on}
use Rattle.ice_filter.proofs.lexer.hex.Goals as goal

pub bytes-preserved : goal.bytes-preserved
bytes-preserved c = record {
  found = rw (c.in_ok-push.ensures.ok, c.nibble.ensures.value, c.nibble-in-len2-up.ensures.value, c.behind-rest.ensures)
      (sym (pair_on c.bytes.count c.bytes.found c.bytes.rest.now (omega arith) (search rules) (search rules)
      (search rules)) ∙ c.bytes.invariant.found);
  counted = rw c.behind-rest.ensures (omega (arith, length-drop 2 c.bytes.rest.now));
}
