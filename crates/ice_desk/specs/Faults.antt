-- What a plan by workers makes of the faults of its parts.
use Rattle.ice_state.specs.declared.fault.FinishFault.{FinishFault}
use Rattle.ice_state.specs.declared.fault.FinishFault.TheVariants as finish
use Rattle.ice_desk.specs.declared.fault.PlanFault.{PlanFault}
use Rattle.ice_desk.specs.declared.fault.PlanFault.TheVariants as plan
use Rattle.ice_desk.specs.declared.fault.WantedFault.{WantedFault}
use Rattle.ice_desk.specs.declared.fault.WantedFault.TheVariants as wanted

abbrev pub of_wanted : WantedFault → PlanFault
of_wanted (wanted.Absent path) = plan.Absent path
of_wanted (wanted.Device path) = plan.Device path
of_wanted wanted.Memory = plan.Memory

-- want of memory is the plan's own
abbrev pub of_finish : FinishFault → PlanFault
of_finish finish.Memory = plan.Memory
of_finish fault = plan.Finish fault
