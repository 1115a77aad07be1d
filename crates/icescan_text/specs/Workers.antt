-- How many workers there may be.
use Rattle.std.specs.Prelude.{ℕ, Result, Err, nat_le, ◌&&◌, if◌then◌else◌}
use Rattle.icescan_text.specs.declared.fault.RunFault.{RunFault}
use Rattle.icescan_text.specs.declared.fault.RunFault.TheVariants as run

-- what is answered by so many workers: there have to be from 1 to 64, and before that is settled nothing else is
abbrev pub by_workers : {A : Type 0} → ℕ → Result A RunFault → Result A RunFault
by_workers workers read = if nat_le 1 workers && nat_le workers 64 then read else Err run.Workers
