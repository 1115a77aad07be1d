-- What reading the manifests of some rows answers.
use Rattle.std.specs.Prelude.{◌≡◌, ◌≤◌, ◌*◌, ◌^◌, ℕ, List, length, Option, Some, Result, Ok, IfOk, IfErr, IsErrOf}
use Rattle.icescan_audit_findings.specs.declared.basis.Basis.{Basis}
use Rattle.ice_desk.specs.Given.{Giving}
use Rattle.ice_desk.specs.Wanted.{paths_of}
use Rattle.ice_desk.specs.Worlds.{EndsAt}
use Rattle.ice_manifest_reading.specs.declared.row.Row.{Row}
use Rattle.ice_state.specs.Contents.{World}
use Rattle.icescan_text.specs.Reads.{MayEnd}
use Rattle.icescan_text.specs.declared.fault.RunFault.{RunFault}
use Rattle.icescan_text.specs.declared.fault.RunFault.TheVariants as run
use Rattle.icescan_audit.specs.AnyFiles.{IsReadOf, MayStop}
use Rattle.icescan_audit.specs.Audits.{rows_audit}
use Rattle.icescan_audit.specs.declared.audit.Reading.{Reading}

-- The answer of reading the manifests of these rows, over files that tell this world, or none, and of which
-- reads give this: what is read of them one after the other, or the first refusal.
pub record ReadsRows (told : Option World) (may_fail : List ℕ → Type 0) (gives : Giving) (basis : Basis)
    (rows : List Row) (result : Result Reading RunFault) : Type 0 where
  pub found : (world : World) → told ≡ Some world → IfOk result (λ read. rows_audit world basis rows ≡ Ok read)
  pub refused : (world : World) → told ≡ Some world →
      IfErr result (MayEnd (rows_audit world basis rows) (EndsAt world may_fail (paths_of rows)) ⊥)
  pub write : IsErrOf result run.Write → ⊥
  -- over all files
  pub read : IfOk result (IsReadOf gives basis rows)
  pub stops : IfErr result (MayStop told may_fail ⊥)
  pub few : IfOk result (λ read. (read.manifests ≡ length rows) × (read.entries ≤ length rows * 2 ^ 64))
