use Rattle.std.proofs.Common.{sym, ◌∙◌, arith, rules, length-drop}
use Rattle.ice_filter.proofs.Quotes.{plain_on, doubled_on}
use Rattle.ice_filter.proofs.lexer.unquoted.Goals as goal

pub bytes-preserved-then-byte-quote : goal.bytes-preserved-then-byte-quote
bytes-preserved-then-byte-quote c = record {
  found = rw (c.in_ok-push.ensures.ok, c.behind-rest.ensures) (sym (plain_on c.args.quote c.bytes.count c.bytes.text
      c.bytes.rest.now (omega arith) (search rules)) ∙ c.bytes.invariant.found);
  counted = rw c.behind-rest.ensures (omega (arith, length-drop 1 c.bytes.rest.now));
}

pub bytes-preserved : goal.bytes-preserved
bytes-preserved c = record {
  found = rw (c.in_ok-push-2.ensures.ok, c.behind-rest-then-next-quote.ensures)
      (sym (doubled_on c.args.quote c.bytes.count c.bytes.text c.bytes.rest.now (omega arith) (search rules)
      (search rules)) ∙ c.bytes.invariant.found);
  counted = rw c.behind-rest-then-next-quote.ensures (omega (arith, length-drop 2 c.bytes.rest.now));
}
