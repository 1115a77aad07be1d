-- What reading for memory ends with.
use Rattle.std.proofs.Common.{◌≡◌, ◌≢◌, refl}
use Rattle.std.specs.Prelude.{Result, Err}
use Rattle.icescan_text.specs.Reads.{MayEnd}
use Rattle.icescan_text.specs.declared.fault.RunFault.{RunFault}
use Rattle.icescan_text.specs.declared.fault.RunFault.TheVariants as run
use Rattle.icescan_c_requests.specs.Texts.{as_memory}

-- a refusal but want of memory is that of the reading, where no file is read
pub told : {A : Type 0} (read : Result A RunFault) (e : RunFault) → MayEnd read (λ _. ⊥) (Unit {0}) e
    → as_memory e ≢ run.Memory → read ≡ Err (as_memory e)
told read run.Memory h not = absurd (not refl)
told read run.Write h not = absurd (not refl)
told read (run.Device path) h not = absurd h
told read (run.Words t) h not = h
told read run.Input h not = h
told read (run.Bundle n) h not = h
told read (run.Absent path) h not = h
told read (run.List f) h not = h
told read (run.Scan f) h not = h
told read (run.Finish f) h not = h
told read (run.Metadata f) h not = h
told read (run.Filter f) h not = h
told read (run.Drill f) h not = h
told read (run.Locate f) h not = h
told read (run.Lineage f) h not = h
told read (run.State path flaw) h not = h
told read (run.Change f) h not = h
told read (run.Prepare f) h not = h
told read (run.Conflict path) h not = h
told read run.Workers h not = h
