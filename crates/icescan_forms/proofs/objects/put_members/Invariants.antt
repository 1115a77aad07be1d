use Rattle.std.proofs.Common.{take, Ok}
use Rattle.icescan_forms.specs.ObjectTexts.{members_sent}
use Rattle.icescan_print.specs.Written.{Sent}
use Rattle.icescan_forms.proofs.objects.put_members.Given as goal

-- the texts so far were sent
abbrev pub invariant-loop-i : goal.invariant-loop-i
invariant-loop-i g l = Sent g.S.Sink.taken g.S.Sink.may_fail l.fn.sink l.fn.page (Ok tt) l.sink l.page
    (members_sent (take l.i l.members))
