-- What calls on books and desks answer, as replies of a machine.
use Rattle.std.specs.Prelude.{◌≡◌, List, length, Result, Ok, Err}
use Rattle.ice_catalog_book.specs.declared.book.Conflict.{Conflict}
use Rattle.ice_catalog.specs.declared.event.Reply.{Reply}
use Rattle.ice_catalog.specs.declared.event.Reply.TheVariants as reply
use Rattle.ice_desk.specs.declared.fault.PlanFault.{PlanFault}
use Rattle.ice_desk.specs.declared.fault.PlanFault.TheVariants as plan
use Rattle.ice_state.specs.Lines.{OwnedLine}
use Rattle.ice_catalog_versions.specs.Histories.{History}
use Rattle.ice_catalog_changes.specs.declared.change.Commit.{Commit}
use Rattle.ice_catalog_versions.specs.declared.receipt.Receipt.{Receipt}
use Rattle.ice_catalog_laws.specs.Counts.{followed_by}

-- the history goes on from the base by some commits, or by none
abbrev pub GoesOnFrom : History → History → Type 0
GoesOnFrom base h = (more : List Commit) × (h ≡ followed_by base more)

-- what a machine replies where a book with this history answers so
abbrev pub reply_to : History → Result Receipt Conflict → Reply
reply_to h (Ok receipt) = reply.Committed receipt
reply_to h (Err conflict) = reply.Conflict (length h.journal)

-- A plan is the plan of the reply, and so is a fault of finishing. Other faults don't speak of finishing.
abbrev pub IsOfReply : Result (List OwnedLine) PlanFault → Reply → Type 0
IsOfReply (Ok lines) r = r ≡ reply.Planned lines
IsOfReply (Err (plan.Finish fault)) r = r ≡ reply.Unfinished fault
IsOfReply (Err (plan.Absent path)) r = Unit {0}
IsOfReply (Err (plan.Device path)) r = Unit {0}
IsOfReply (Err plan.Memory) r = Unit {0}
IsOfReply (Err plan.Workers) r = Unit {0}
