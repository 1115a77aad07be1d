-- What a call wrote that writes one text.
use Rattle.std.specs.Prelude.{◌≡◌, ◌⊎◌, ℕ, List, Option, Result, OnOk, IfErr, IsErrOf}
use Rattle.icescan_print.specs.Written.{Appends, AppendsFront}
use Rattle.icescan_text.specs.declared.fault.RunFault.{RunFault}
use Rattle.icescan_text.specs.declared.fault.RunFault.TheVariants as run

-- a call wrote all of a text and nothing else, or refused: out of memory, and then nothing was written, or where a
-- write failed, and then a front of the text was
pub record WroteOrRefused {X : Type 0} (taken : X → Option (List ℕ)) (may_fail : X → Type 0) (old : X)
    (result : Result Unit RunFault) (new : X) (text : List ℕ) : Type 0 where
  pub all : OnOk result (Appends (taken old) (taken new) text)
  pub causes : IfErr result (λ e. (e ≡ run.Memory) ⊎ (e ≡ run.Write))
  pub nothing : IsErrOf result run.Memory → taken new ≡ taken old
  pub front : IsErrOf result run.Write → AppendsFront (taken old) (taken new) text
  pub cause : IsErrOf result run.Write → may_fail old
