-- Why a step of these audits may end the run.
use Rattle.std.proofs.Common.{ℕ, List, Option, None, subst}
use Rattle.std.specs.Prelude.{Result, Ok, Err, IfErr, IsErrOf}
use Rattle.ice_desk.specs.Worlds.{HasAt}
use Rattle.ice_state.specs.Contents.{World}
use Rattle.icescan_audit.proofs.AnyFiles.{metadata_stops, read_stops, stops_by}
use Rattle.icescan_audit.specs.AnyFiles.{MayStop}
use Rattle.icescan_audit.specs.Subjects.{IsOfMetadata}
use Rattle.icescan_text.specs.declared.fault.RunFault.{RunFault}
use Rattle.icescan_audit_all.specs.Snapshots.{IsOfBytes}
use Rattle.icescan_text.specs.declared.fault.RunFault.TheVariants as run

module _ (world : Option World) (f : List ℕ → Type 0) where
  pub any_stops : {A : Type 0} (r : Result A RunFault)
      → ((path : List ℕ) → IsErrOf r (run.Absent path) → HasAt world path None)
      → ((path : List ℕ) → IsErrOf r (run.Device path) → f path) → (IsErrOf r run.Write → ⊥)
      → IfErr r (MayStop world f ⊥)
  any_stops (Ok x) absent device write = tt
  any_stops (Err e) absent device write = read_stops world f e absent device write

  -- those of bytes that were read
  pub bytes_stop : (e : RunFault) → IsOfBytes e → MayStop world f ⊥ e
  bytes_stop e own = stops_by world f ⊥ e (λ path is. absurd (let w = subst IsOfBytes is own in cc))
      (λ path is. absurd (subst IsOfBytes is own)) (λ is. absurd (subst IsOfBytes is own))

  pub of_metadata_stops : {A : Type 0} (r : Result A RunFault) → IfErr r IsOfMetadata → IfErr r (MayStop world f ⊥)
  of_metadata_stops (Ok x) h = tt
  of_metadata_stops (Err e) h = metadata_stops world f e h
