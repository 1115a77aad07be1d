-- What is read for the audits of all snapshots of a table, over any files.
use Rattle.std.specs.Prelude.{◌≡◌, ◌⊎◌, ℕ, ℤ, Bool, List, [], ◌∷◌, ◌++◌, Some, Ok, map, nat_lt}
use Rattle.std.specs.List.{All, Contains}
use Rattle.ice_desk.specs.Given.{Giving}
use Rattle.ice_manifest_reading.specs.declared.row.Row.{Row}
use Rattle.ice_meta.specs.Targets.{Described, bound_specs, metadata_of, schema_with}
use Rattle.ice_meta.specs.declared.metadata.Target.{Target}
use Rattle.ice_meta.specs.declared.metadata.Target.TheVariants as target
use Rattle.ice_meta.specs.declared.schema.Schema.{Schema}
use Rattle.ice_meta.specs.declared.snapshot.Snapshot.{Snapshot}
use Rattle.ice_meta.specs.declared.table.Table.{Table}
use Rattle.icescan_audit.specs.AnyFiles.{IsAnAudit, IsReadOf, IsReadOfRow, MayStop}
use Rattle.icescan_audit.specs.Audits.{all_known, row_audit, whole}
use Rattle.icescan_audit.specs.Subjects.{column_ids, subject_in, subject_of, typed_columns}
use Rattle.icescan_audit.specs.declared.audit.Audit.{Audit}
use Rattle.icescan_audit.specs.declared.audit.Reading.{Reading}
use Rattle.icescan_audit.specs.declared.subject.Subject.{Subject}
use Rattle.icescan_audit_findings.specs.Bases.{among, have_deletes}
use Rattle.icescan_audit_findings.specs.declared.basis.Basis.{Basis}
use Rattle.icescan_text.specs.Reads.{AreRowsGiven}
use Rattle.icescan_text.specs.declared.fault.RunFault.{RunFault}
use Rattle.icescan_audit_all.specs.declared.audits.SnapshotAudit.{SnapshotAudit}
use Rattle.icescan_audit_all.specs.declared.kept.Kept.{Kept}
use Rattle.icescan_audit_all.specs.declared.kept.Known.{Known}
use Rattle.icescan_audit_all.specs.declared.listed.Listed.{Listed}
use Rattle.icescan_audit_all.specs.declared.wanted.Class.{Class}

-- ---- the audits

-- an audit of the snapshot of this id of a table that is described so
pub record IsAuditOf (gives : Giving) (d : Described) (id : ℤ) (audit : Audit) : Type 0 where
  pub subject : Subject
  pub rows : List Row
  pub read : Reading
  pub asked : subject_in d.json d.table (target.Snapshot id) ≡ Ok subject
  pub listed : AreRowsGiven gives subject.list rows
  pub known : all_known subject.basis.specs rows ≡ Ok tt
  pub manifests : IsReadOf gives (among rows subject.basis) rows read
  pub is : audit ≡ whole subject.said read

abbrev pub ids_of : Table → List ℤ
ids_of table = map (λ (s : Snapshot). s.id) table.snapshots

-- these are the rows of the manifest list of a snapshot
abbrev pub HasRows : Giving → List ℕ → Target → List Row → Type 0
HasRows gives metadata target rows =
    (subject : Subject) × (subject_of metadata target ≡ Ok subject) × AreRowsGiven gives subject.list rows

-- Audits of all snapshots, in the order of the metadata, of the table whose metadata these are the bytes of: each is an
-- audit of its snapshot as `icescan_audit` has it, and beside it are the rows of the snapshot's manifest list.
pub record AreAudits (gives : Giving) (metadata : List ℕ) (audits : List SnapshotAudit) : Type 0 where
  pub d : Described
  pub asked : metadata_of metadata ≡ Ok d
  pub all : map (λ (a : SnapshotAudit). a.snapshot) audits ≡ ids_of d.table
  pub each : All (λ (a : SnapshotAudit). IsAnAudit gives metadata (target.Snapshot a.snapshot) a.audit) audits
  pub listed : All (λ (a : SnapshotAudit). HasRows gives metadata (target.Snapshot a.snapshot) a.rows) audits

-- ---- for proofs: what is read for them

-- the rows of a snapshot's manifest list, and whether a manifest of it has deletes
pub record AreRowsOf (gives : Giving) (d : Described) (of : Target) (rows : List Row) (has_deletes : Bool) : Type 0
  where
    pub subject : Subject
    pub asked : subject_in d.json d.table of ≡ Ok subject
    pub listed : AreRowsGiven gives subject.list rows
    pub known : all_known subject.basis.specs rows ≡ Ok tt
    pub deletes : has_deletes ≡ have_deletes rows

-- of what was found of a snapshot
abbrev pub IsFound : Giving → Described → SnapshotAudit → Type 0
IsFound gives d a = IsAuditOf gives d a.snapshot a.audit × ((subject : Subject)
    × (subject_in d.json d.table (target.Snapshot a.snapshot) ≡ Ok subject) × AreRowsGiven gives subject.list a.rows)

-- of what was found of all snapshots, in the order of the metadata
pub record AreAllFound (gives : Giving) (d : Described) (audits : List SnapshotAudit) : Type 0 where
  pub each : All (IsFound gives d) audits
  pub all : map (λ (a : SnapshotAudit). a.snapshot) audits ≡ ids_of d.table

abbrev pub IsListed : Giving → Described → Listed → Type 0
IsListed gives d l = AreRowsOf gives d (target.Snapshot l.snapshot) l.rows l.has_deletes

-- what the manifests of a snapshot of this number are held against, under a schema
abbrev pub basis_under : Schema → Table → Bool → ℕ → Basis
basis_under schema table has_deletes number = record {
  specs = bound_specs schema table;
  columns = column_ids schema;
  typed = typed_columns schema;
  last = table.last_sequence_number;
  snapshot = number;
  has_deletes = has_deletes;
}

-- the same of a snapshot as new as the table
abbrev pub IsBasis : Described → ℤ → Bool → Basis → Type 0
IsBasis d id has_deletes basis = (schema : Schema) × (schema_with id d.table ≡ Some schema)
    × (basis ≡ basis_under schema d.table has_deletes d.table.last_sequence_number)

abbrev pub IsClass : Described → Class → Type 0
IsClass d c = IsBasis d c.schema c.has_deletes c.basis

abbrev pub reading_kept : Kept → Reading
reading_kept k = record { manifests = 1; entries = k.entries; findings = k.findings; live = k.live }

-- this was read of the row's manifest
pub record IsKept (gives : Giving) (d : Described) (k : Kept) : Type 0 where
  pub basis : Basis
  pub is : IsBasis d k.schema k.has_deletes basis
  pub read : IsReadOfRow gives basis k.row (reading_kept k)

-- what is known was read, and the basis is one of a snapshot of the same schema
pub record IsKnown (gives : Giving) (known : Known) (basis : Basis) : Type 0 where
  pub d : Described
  pub schema : Schema
  pub kept : All (IsKept gives d) known.kept.now
  pub named : schema_with known.schema d.table ≡ Some schema
  pub is : basis ≡ basis_under schema d.table basis.has_deletes basis.snapshot

-- this was read of a row's manifest, which has these bytes, for the snapshots of a class
pub record IsReadFor (class : Class) (row : Row) (bytes : List ℕ) (k : Kept) : Type 0 where
  pub schema : k.schema ≡ class.schema
  pub deletes : k.has_deletes ≡ class.has_deletes
  pub row_is : k.row ≡ row
  pub read : row_audit (λ path. Some bytes) class.basis row ≡ Ok (reading_kept k)

-- it was put last, or nothing was
abbrev pub IsPutFor : Class → Row → List ℕ → List Kept → List Kept → Type 0
IsPutFor class row bytes old new = (new ≡ old) ⊎ ((k : Kept) × IsReadFor class row bytes k × (new ≡ old ++ k ∷ []))

-- what was read for other snapshots is what would be read for this one
pub record IsAlike (known : Known) (basis : Basis) (row : Row) (k : Kept) : Type 0 where
  pub has : Contains known.kept.now k
  pub schema : k.schema ≡ known.schema
  pub deletes : k.has_deletes ≡ basis.has_deletes
  pub row_is : k.row ≡ row
  pub number : nat_lt basis.last row.sequence_number ≡ nat_lt basis.snapshot row.sequence_number

-- the faults of bytes that were read
abbrev pub IsOfBytes : RunFault → Type 0
IsOfBytes fault = MayStop (Some (λ path. Some [])) (λ path. ⊥) ⊥ fault
