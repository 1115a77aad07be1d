use Rattle.icescan_forms.proofs.Escapes.{short_escape, long_escape}
use Rattle.icescan_forms.proofs.quotes.put_escape.Goals as goal

pub returns-in-Some : goal.returns-in-Some
returns-in-Some g c = rw (short_escape c.args.byte c.in-Some.letter c.escape_letter.result c.in-Some.is
    c.escape_letter.ensures) c.put.ensures

pub returns-in-None : goal.returns-in-None
returns-in-None g c =
    let sent = rw (c.hex_digit.ensures, c.hex_digit-in-None.ensures) at c.put-in-None.ensures in
    rw (long_escape c.args.byte c.escape_letter.result c.in-None.is c.escape_letter.ensures c.requires) sent
