-- Audits of snapshots of metadata that was read are audits of its bytes.
use Rattle.std.proofs.Common.{◌≡◌, ◌∙◌, ℕ, ℤ, List, map, refl}
use Rattle.std.specs.Prelude.{Ok}
use Rattle.std.specs.List.{All}
use Rattle.ice_desk.specs.Given.{Giving}
use Rattle.ice_manifest_reading.specs.declared.row.Row.{Row}
use Rattle.ice_meta.specs.Targets.{Described, metadata_of}
use Rattle.ice_meta.specs.declared.metadata.Target.{Target}
use Rattle.ice_meta.specs.declared.metadata.Target.TheVariants as target
use Rattle.icescan_audit.specs.AnyFiles.{IsAnAudit}
use Rattle.icescan_audit.specs.Subjects.{subject_in, subject_of}
use Rattle.icescan_audit.specs.declared.audit.Audit.{Audit}
use Rattle.icescan_audit.specs.declared.subject.Subject.{Subject}
use Rattle.icescan_text.specs.Reads.{AreRowsGiven}
use Rattle.icescan_audit_all.specs.Snapshots.{AreAudits, HasRows, IsAuditOf, IsFound, ids_of}
use Rattle.icescan_audit_all.specs.declared.audits.SnapshotAudit.{SnapshotAudit}

subject_asked : (metadata : List ℕ) (d : Described) (of : Target) → metadata_of metadata ≡ Ok d
    → subject_of metadata of ≡ subject_in d.json d.table of
unfolding subject_of
subject_asked metadata d of is = rw is refl

is_audit : (gives : Giving) (metadata : List ℕ) (d : Described) (id : ℤ) (audit : Audit) → metadata_of metadata ≡ Ok d
    → IsAuditOf gives d id audit → IsAnAudit gives metadata (target.Snapshot id) audit
is_audit gives metadata d id audit is h = record {
  subject = h.subject;
  rows = h.rows;
  read = h.read;
  asked = subject_asked metadata d (target.Snapshot id) is ∙ h.asked;
  listed = h.listed;
  known = h.known;
  manifests = h.manifests;
  is = h.is;
}

has_rows : (gives : Giving) (metadata : List ℕ) (d : Described) (id : ℤ) (rows : List Row) → metadata_of metadata ≡ Ok d
    → ((subject : Subject) × (subject_in d.json d.table (target.Snapshot id) ≡ Ok subject)
    × AreRowsGiven gives subject.list rows) → HasRows gives metadata (target.Snapshot id) rows
has_rows gives metadata d id rows is h = (h.0, subject_asked metadata d (target.Snapshot id) is ∙ h.1, h.2)

pub are_audits : (gives : Giving) (metadata : List ℕ) (d : Described) (audits : List SnapshotAudit)
    → metadata_of metadata ≡ Ok d → map (λ (a : SnapshotAudit). a.snapshot) audits ≡ ids_of d.table
    → All (IsFound gives d) audits → AreAudits gives metadata audits
are_audits gives metadata d audits is all each = record {
  d = d;
  asked = is;
  all = all;
  each = λ k x low. is_audit gives metadata d _ _ is (each k x low).0;
  listed = λ k x low. has_rows gives metadata d _ _ is (each k x low).1;
}
