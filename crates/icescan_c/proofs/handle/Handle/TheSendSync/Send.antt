-- A handle may go to another thread, since what it holds may.
use mir.Raw.{raw}
use base.Shift.{Keyless}
use denote.Memory.{lone}
use denote.RawPtr.{Ptr}
use denote.Struct.Struct.{exits_of}
use denote.Struct.Owning.{shape, fields, to}
use denote.Param.Send.{IsSend, AllSend, owning_send, struct_send, sendable}
use Rattle.std.proofs.Crossing as heap
use Rattle.std_alloc.proofs.SendSync.{quiet, lies}
use Rattle.std_heap.proofs.Global.TheSendSync as handle
use Rattle.std.specs.Global.{Global}
use Rattle.std.specs.declared.option.Option.{Option}
use Rattle.std.specs.declared.option.Option.TheVariants.{None, Some}
use Rattle.icescan_c.specs.Handles.{held_at}
use Rattle.icescan_c.specs.contracts.held.Held as held
use Rattle.icescan_c.proofs.held.Held.TheSendSync.{the_send as held_send}
use Rattle.icescan_c.specs.contracts.handle.Handle.{the_row, the_type}

owned : (a : Global) (p : Ptr) (s : Option held.the_row.Denot) → Keyless (held_at a p s)
owned a p None = tt
owned a p (Some x) = (lies held.the_row held_send p x, heap.frees.frees a (raw (lone held.the_row.mir)) p)

pub send : IsSend the_row
send =
    let all : AllSend (fields the_type) = (search sendable, (handle.the_field_send, tt)) in
    owning_send the_type all (λ d. owned d.alloc d.at d.held)
    (λ k. quiet (to the_type) (exits_of k (fields the_type)) ((struct_send (shape the_type) all).leaving k))
