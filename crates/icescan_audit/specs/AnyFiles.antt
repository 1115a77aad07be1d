-- What an audit says over any files, also those that tell no world, as they may change from one read to the next.
use Rattle.std.specs.Prelude.{◌≡◌, ℕ, List, [], ◌∷◌, length, Option, Some, None, Result, Ok, IfOk, IsErrOf}
use Rattle.icescan_audit_findings.specs.Bases.{among}
use Rattle.icescan_audit_findings.specs.Telling.{faults}
use Rattle.icescan_audit_findings.specs.declared.basis.Basis.{Basis}
use Rattle.ice_desk.specs.Given.{Giving}
use Rattle.ice_desk.specs.Worlds.{HasAt}
use Rattle.ice_manifest_reading.specs.declared.row.Row.{Row}
use Rattle.ice_meta.specs.declared.metadata.Target.{Target}
use Rattle.icescan_print.specs.Written.{Appends, AppendsFront}
use Rattle.ice_state.specs.Contents.{World}
use Rattle.icescan_text.specs.Reads.{AreRowsGiven}
use Rattle.icescan_text.specs.declared.fault.RunFault.{RunFault}
use Rattle.icescan_text.specs.declared.fault.RunFault.TheVariants as run
use Rattle.icescan_audit.specs.Audits.{all_known, joined, nothing, row_audit, whole}
use Rattle.icescan_audit.specs.Subjects.{subject_of}
use Rattle.icescan_audit.specs.Texts.{audit_text}
use Rattle.icescan_audit.specs.declared.audit.Audit.{Audit}
use Rattle.icescan_audit.specs.declared.audit.Reading.{Reading}
use Rattle.icescan_audit.specs.declared.subject.Subject.{Subject}

-- this was read of a row's manifest, of bytes that a read of its path gave
abbrev pub IsReadOfRow : Giving → Basis → Row → Reading → Type 0
IsReadOfRow gives basis row read = (bytes : List ℕ) × gives row.path (Some bytes)
    × (row_audit (λ path. Some bytes) basis row ≡ Ok read)

-- this was read of the manifests of these rows, one after the other
abbrev pub IsReadOf : Giving → Basis → List Row → Reading → Type 0
IsReadOf gives basis [] read = read ≡ nothing
IsReadOf gives basis (row ∷ rows) read = (first : Reading) × (others : Reading) × IsReadOfRow gives basis row first
    × IsReadOf gives basis rows others × (read ≡ joined first others)

-- An audit of a snapshot of the table whose metadata these are the bytes of: a read gave the manifest list, whose rows'
-- specs the table has, and of each row's manifest a read gave the bytes.
pub record IsAnAudit (gives : Giving) (metadata : List ℕ) (target : Target) (audit : Audit) : Type 0 where
  pub subject : Subject
  pub rows : List Row
  pub read : Reading
  pub asked : subject_of metadata target ≡ Ok subject
  pub listed : AreRowsGiven gives subject.list rows
  pub known : all_known subject.basis.specs rows ≡ Ok tt
  pub manifests : IsReadOf gives (among rows subject.basis) rows read
  pub is : audit ≡ whole subject.said read

-- what was written is the text of such an audit, which has so many faults
abbrev pub WroteAnAudit : Giving → List ℕ → Target → ℕ → Option (List ℕ) → Option (List ℕ) → Type 0
WroteAnAudit gives metadata target count output output' = (audit : Audit) × IsAnAudit gives metadata target audit
    × (count ≡ length (faults audit.findings)) × Appends output output' (audit_text audit)

-- What was written: the text of an audit, which has so many faults, and after a failed write a front of such a text.
pub record WritesAnAudit (gives : Giving) (metadata : List ℕ) (target : Target) (result : Result ℕ RunFault)
    (output output' : Option (List ℕ)) : Type 0 where
  pub all : IfOk result (λ count. WroteAnAudit gives metadata target count output output')
  pub front : IsErrOf result run.Write → (audit : Audit) × IsAnAudit gives metadata target audit
      × AppendsFront output output' (audit_text audit)

-- What a refusal tells: a file that is called absent is not there, a read failed at a path where it may, and a write
-- failed that may fail.
abbrev pub MayStop : Option World → (List ℕ → Type 0) → Type 0 → RunFault → Type 0
MayStop world may_fail_at write_may_fail (run.Absent path) = HasAt world path None
MayStop world may_fail_at write_may_fail (run.Device path) = may_fail_at path
MayStop world may_fail_at write_may_fail run.Write = write_may_fail
MayStop world may_fail_at write_may_fail fault = Unit {0}
