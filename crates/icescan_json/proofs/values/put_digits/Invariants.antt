use Rattle.std.proofs.Common.{take, Ok}
use Rattle.json.specs.Print.{escape}
use Rattle.icescan_json.specs.Values.{hex_text}
use Rattle.icescan_print.specs.Written.{Sent}
use Rattle.icescan_json.proofs.values.put_digits.Given as goal

-- the texts so far were sent
abbrev pub invariant-loop-byte : goal.invariant-loop-byte
invariant-loop-byte g l = Sent g.S.Sink.taken g.S.Sink.may_fail l.fn.sink l.fn.page (Ok tt) l.sink l.page
    (escape (hex_text (take l.byte-index l.bytes)))
