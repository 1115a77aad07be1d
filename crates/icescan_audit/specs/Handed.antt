-- Audits whose files are handed in: each step is the one of `audit_of` that reads this file.
use Rattle.std.specs.Prelude.{ℕ, List, Option, Some, None, Result, Ok, Err, slice_get}
use Rattle.contract_words.specs.Outcome.{◌>>=◌}
use Rattle.ice_manifest_reading.specs.Lists.{rows_of}
use Rattle.ice_manifest_reading.specs.declared.row.Row.{Row}
use Rattle.ice_state.specs.declared.fault.FinishFault.TheVariants as finish
use Rattle.icescan_audit_findings.specs.Bases.{among}
use Rattle.icescan_audit_findings.specs.declared.basis.Basis.{Basis}
use Rattle.icescan_audit_findings.specs.declared.totals.SaidTotal.{SaidTotal}
use Rattle.icescan_text.specs.Faults.{of_list}
use Rattle.icescan_text.specs.Reads.{as_run}
use Rattle.icescan_text.specs.declared.fault.RunFault.{RunFault}
use Rattle.icescan_text.specs.declared.fault.RunFault.TheVariants as run
use Rattle.icescan_audit.specs.Audits.{all_known, joined, nothing, row_audit, whole}
use Rattle.icescan_audit.specs.JsonLines.{audit_objects}
use Rattle.icescan_audit.specs.declared.audit.Reading.{Reading}
use Rattle.icescan_audit.specs.declared.subject.Subject.{Subject}

-- what the entries are held against, the totals that the snapshot says, the rows, and what was read of the first ones
pub record Handed : Type 0 where
  pub basis : Basis
  pub said : List SaidTotal
  pub rows : List Row
  pub read : Reading

-- the manifest list has these bytes
unfoldable pub opened : Subject → List ℕ → Result Handed RunFault
opened subject list = do
  rows ← as_run of_list (rows_of list)
  _ ← all_known subject.basis.specs rows
  Ok (record { basis = among rows subject.basis; said = subject.said; rows = rows; read = nothing })

-- the manifest of a row has these bytes
abbrev pub read_row : Basis → Option Row → Reading → List ℕ → Result Reading RunFault
read_row basis None before manifest = Ok before
read_row basis (Some row) before manifest =
    row_audit (λ path. Some manifest) basis row >>= λ read. Ok (joined before read)

-- the manifest of the next row has these bytes
unfoldable pub read_on : Basis → List Row → Reading → List ℕ → Result Reading RunFault
read_on basis rows before manifest = read_row basis (slice_get rows before.manifests) before manifest

unfoldable pub took : Handed → List ℕ → Result Handed RunFault
took audit manifest = do
  read ← read_on audit.basis audit.rows audit.read manifest
  Ok (record { basis = audit.basis; said = audit.said; rows = audit.rows; read = read })

-- all manifests were handed in, or the first that was not
abbrev pub or_missing : Option Row → Result Unit RunFault
or_missing None = Ok tt
or_missing (Some row) = Err (run.Finish (finish.Missing row.path))

abbrev pub all_handed : List Row → ℕ → Result Unit RunFault
all_handed rows handed = or_missing (slice_get rows handed)

-- what was found, as lines of JSON
unfoldable pub told_in : Handed → Result (List ℕ) RunFault
told_in audit = do
  _ ← all_handed audit.rows audit.read.manifests
  Ok (audit_objects (whole audit.said audit.read))
