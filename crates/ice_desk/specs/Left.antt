-- How many tickets were left.
use Rattle.std.specs.Prelude.{ℕ, ◌+◌}
use Rattle.ice_desk.specs.declared.left.Left.{Left}
use Rattle.ice_desk.specs.declared.left.Served.{Served}
use Rattle.ice_desk.specs.declared.left.Served.TheVariants.{Taken, Absent, Device, Memory, Marked}

-- a ticket that was not taken counts under its cause
abbrev pub counted : Left → Served → Left
counted left Taken = left
counted left Absent = record left { absent = left.absent + 1 }
counted left Device = record left { device = left.device + 1 }
counted left Memory = record left { memory = left.memory + 1 }
counted left Marked = record left { marked = left.marked + 1 }

-- how many tickets were left because a read or a take failed
abbrev pub failed : Left → ℕ
failed left = left.absent + left.device + left.memory

abbrev pub all_left : Left → ℕ
all_left left = failed left + left.marked

-- what two left together
abbrev pub left_by_both : Left → Left → Left
left_by_both a b = record {
  absent = a.absent + b.absent;
  device = a.device + b.device;
  memory = a.memory + b.memory;
  marked = a.marked + b.marked;
}
