-- The fault of a wanted file.
use Rattle.std.proofs.Common.{◌≡◌, refl}
use Rattle.ice_desk.specs.Faults.{of_wanted as as_plan}
use Rattle.ice_desk.specs.declared.fault.WantedFault.{WantedFault}
use Rattle.ice_desk.specs.declared.fault.WantedFault.TheVariants as wanted
use Rattle.icescan_text.specs.Faults.{of_plan, of_wanted}

-- it is the plan's, and that the program's
pub by_plan : (fault : WantedFault) → of_plan (as_plan fault) ≡ of_wanted fault
by_plan (wanted.Absent path) = refl
by_plan (wanted.Device path) = refl
by_plan wanted.Memory = refl
