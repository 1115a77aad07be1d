-- What reading files that are in memory ends with.
use Rattle.std.proofs.Common.{◌≡◌, ◌≢◌, ℕ, List, refl}
use Rattle.std.specs.Prelude.{Result, Ok, Err, OnOk}
use Rattle.icescan_c_requests.specs.Texts.{as_memory}
use Rattle.icescan_text.specs.Reads.{MayEnd}
use Rattle.icescan_text.specs.declared.fault.RunFault.{RunFault}
use Rattle.icescan_text.specs.declared.fault.RunFault.TheVariants as run

-- a refusal but want of memory is that of the reading, where no read fails and writing takes memory alone
pub ends : {A : Type 0} (read : Result A RunFault) (f : List ℕ → Type 0) (w : Type 0) (e : RunFault)
    → MayEnd read f w e → ((path : List ℕ) → e ≡ run.Device path → ⊥) → e ≢ run.Write → e ≢ run.Memory
    → read ≡ Err (as_memory e)
ends read f w run.Memory h device write memory = absurd (memory refl)
ends read f w run.Write h device write memory = absurd (write refl)
ends read f w (run.Device path) h device write memory = absurd (device path refl)
ends read f w (run.Words t) h device write memory = h
ends read f w run.Input h device write memory = h
ends read f w (run.Bundle n) h device write memory = h
ends read f w (run.Absent path) h device write memory = h
ends read f w (run.List g) h device write memory = h
ends read f w (run.Scan g) h device write memory = h
ends read f w (run.Finish g) h device write memory = h
ends read f w (run.Metadata g) h device write memory = h
ends read f w (run.Filter g) h device write memory = h
ends read f w (run.Drill g) h device write memory = h
ends read f w (run.Locate g) h device write memory = h
ends read f w (run.Lineage g) h device write memory = h
ends read f w (run.State path flaw) h device write memory = h
ends read f w (run.Change g) h device write memory = h
ends read f w (run.Prepare g) h device write memory = h
ends read f w (run.Conflict path) h device write memory = h
ends read f w run.Workers h device write memory = h

pub on_ok : {T E A B : Type 0} (r : Result T E) → (A → B) → OnOk r A → OnOk r B
on_ok (Ok x) f h = f h
on_ok (Err e) f h = tt
