-- What an output has where nothing was written.
use Rattle.std.proofs.Common.{◌≡◌, ◌⊎◌, inl, inr, ℕ, List, Option, ap}
use Rattle.std.specs.Prelude.{◌≢◌, Result, Ok, Err, IfErr, IsErrOf}
use Rattle.icescan_text.specs.declared.fault.RunFault.{RunFault}
use Rattle.icescan_text.specs.declared.fault.RunFault.TheVariants as run

-- a refusal is of memory, before the first byte, or of a write
pub unwritten : (result : Result Unit RunFault) (o o' : Option (List ℕ))
    → IfErr result (λ e. (e ≡ run.Memory) ⊎ (e ≡ run.Write)) → (IsErrOf result run.Memory → o' ≡ o)
    → IfErr result (λ fault. fault ≢ run.Write → o' ≡ o)
unwritten (Ok x) o o' causes nothing = tt
unwritten (Err e) o o' (inl is) nothing = λ other. nothing (ap Err is)
unwritten (Err e) o o' (inr is) nothing = λ other. absurd (other is)
