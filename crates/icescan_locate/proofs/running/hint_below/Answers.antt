use Rattle.std.proofs.Common.{Some}
use Rattle.icescan_locate.proofs.running.hint_below.Goals as goal

pub returns-in-Ok-clause-given : goal.returns-in-Ok-clause-given
returns-in-Ok-clause-given g c = (
  Some c.in-Ok.bytes.items,
  rw
      (c.as_str.ensures.value, c.in_ok-path.ensures) at c.in-Ok.ensures.given,
  rw c.deref.ensures.value at
      c.hint_of.ensures,
)
