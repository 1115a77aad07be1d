-- Why writing an audit's lines of JSON may end the run.
use Rattle.std.proofs.Common.{◌≡◌, ◌≢◌, ◌⊎◌, inl, inr, ℕ, List, Option, subst, sym}
use Rattle.std.specs.Prelude.{Result}
use Rattle.ice_state.specs.Contents.{World}
use Rattle.icescan_audit.specs.AnyFiles.{MayStop}
use Rattle.icescan_text.specs.Reads.{MayEnd}
use Rattle.icescan_text.specs.declared.fault.RunFault.{RunFault}
use Rattle.icescan_text.specs.declared.fault.RunFault.TheVariants as run

pub no_text : {A : Type 0} (r : List ℕ → Type 0) (w : Type 0) (read : Result A RunFault) (e : RunFault)
    → (e ≡ run.Memory) ⊎ (e ≡ run.Write) → (e ≡ run.Write → w) → MayEnd read r w e
no_text r w read e (inl is) h = subst (λ x. MayEnd read r w x) (sym is) tt
no_text r w read e (inr is) h = subst (λ x. MayEnd read r w x) (sym is) (h is)

-- after any refusal but a failed write nothing was written
pub not_written : (e : RunFault) → (e ≡ run.Memory) ⊎ (e ≡ run.Write) → (P : Type 0) → (e ≡ run.Memory → P)
    → e ≢ run.Write → P
not_written e (inl is) P h not_write = h is
not_written e (inr is) P h not_write = absurd (not_write is)

pub writing_stops : (world : Option World) (f : List ℕ → Type 0) (w : Type 0) (e : RunFault)
    → (e ≡ run.Memory) ⊎ (e ≡ run.Write) → (e ≡ run.Write → w) → MayStop world f w e
writing_stops world f w e (inl is) h = subst (MayStop world f w) (sym is) tt
writing_stops world f w e (inr is) h = subst (MayStop world f w) (sym is) (h is)
