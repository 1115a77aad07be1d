-- Why a folder could not be looked at.
use Rattle.std.specs.Prelude.{◌≡◌, ℕ, List}
use Rattle.icescan_text.specs.declared.fault.RunFault.{RunFault}
use Rattle.icescan_text.specs.declared.fault.RunFault.TheVariants as run

-- it is not there, looking at it or at something below it failed, or memory ran out
abbrev pub IsOfFolder : List ℕ → RunFault → Type 0
IsOfFolder folder (run.Absent path) = path ≡ folder
IsOfFolder folder (run.Device path) = path ≡ folder
IsOfFolder folder run.Memory = Unit {0}
IsOfFolder folder _ = ⊥
