-- What a handle owns: nothing where it is null, and else the box that it points to.
use base.Fml.{Fml, feq}
use base.Stored.{Coded}
use denote.RawPtr.{Ptr, null_ptr}
use Rattle.std.specs.Box.Ownership.{box_owns}
use Rattle.std.specs.Global.{Global}
use Rattle.std.specs.declared.option.Option.{Option}
use Rattle.std.specs.declared.option.Option.TheVariants.{None, Some}
use Rattle.std_heap.specs.contracts.GlobalAllocator.TheImpl.{ghosts}
use Rattle.core.specs.contracts.option.Option as optional
use Rattle.icescan_c.specs.contracts.held.Held.{the_row}

abbrev pub held_at : Global → Ptr → Option the_row.Denot → Fml
held_at alloc p None = feq Ptr p null_ptr
held_at alloc p (Some x) = box_owns (ghosts.dealloc_token alloc) the_row p x

abbrev pub held_coded : Coded (Option the_row.Denot)
held_coded = (optional.the_row the_row).coded
