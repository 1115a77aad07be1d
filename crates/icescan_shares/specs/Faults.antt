-- Why the bytes of a state are refused, as the program's refusal.
use Rattle.std.specs.Prelude.{◌≡◌, ◌⊎◌, ℕ, List}
use Rattle.ice_state_bytes.specs.declared.fault.StateFault.{StateFault}
use Rattle.ice_state_bytes.specs.declared.fault.StateFault.TheVariants as state
use Rattle.icescan_text.specs.declared.fault.RunFault.{RunFault}
use Rattle.icescan_text.specs.declared.fault.RunFault.TheVariants as run
use Rattle.icescan_text.specs.declared.state_flaw.StateFlaw.TheVariants as flaw

-- the refusal names the state's file
abbrev pub of_state : List ℕ → StateFault → RunFault
of_state path state.NotAState = run.State path flaw.NotAState
of_state path state.OtherVersion = run.State path flaw.OtherVersion
of_state path state.Damaged = run.State path flaw.Damaged
of_state path state.OtherScan = run.State path flaw.OtherScan
of_state path state.NotOfScan = run.State path flaw.NotOfScan
of_state path state.Memory = run.Memory

-- that, or memory ran out for its text
abbrev pub IsOfState : List ℕ → StateFault → RunFault → Type 0
IsOfState path fault refusal = (refusal ≡ run.Memory) ⊎ (refusal ≡ of_state path fault)
