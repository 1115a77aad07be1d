-- Totals of the live files of a snapshot, and those that its summary says otherwise.
use Rattle.std.specs.Prelude.{◌≡◌, ◌≢◌, ℤ, pos, ◌+ℤ◌, List, [], ◌∷◌}
use Rattle.std.specs.List.{Contains}
use Rattle.ice_manifest_reading.specs.declared.entry.Entry.{Entry}
use Rattle.ice_manifest_reading.specs.declared.entry.Live.{Live}
use Rattle.ice_manifest_reading.specs.declared.row.Row.{Row}
use Rattle.ice_meta.specs.declared.spec.Spec.{Spec}
use Rattle.ice_state.specs.Contents.{World}
use Rattle.ice_state.specs.Snapshots.{live}
use Rattle.icescan_audit_findings.specs.Totals.{adds}
use Rattle.icescan_audit_findings.specs.declared.totals.FalseTotal.{FalseTotal}
use Rattle.icescan_audit_findings.specs.declared.totals.SaidTotal.{SaidTotal}
use Rattle.icescan_audit_findings.specs.declared.totals.Total.{Total}

-- what the file of an entry adds to a total
abbrev pub entry_adds : Total → Entry → ℤ
entry_adds total x = adds total x.file.content x.file.record_count x.file.file_size

-- what the files of live entries come to
abbrev pub live_total : Total → List Live → ℤ
live_total total [] = pos 0
live_total total (l ∷ ls) = entry_adds total l.entry +ℤ live_total total ls

-- what the live files under these rows come to
abbrev pub total_under : World → List Spec → Total → List Row → ℤ
total_under world specs total [] = pos 0
total_under world specs total (row ∷ rows) =
    live_total total (live world specs row) +ℤ total_under world specs total rows

-- the summary says so, and the live files under these rows come to this, which is another number
pub record IsFalseUnder (world : World) (specs : List Spec) (rows : List Row) (said : List SaidTotal)
    (x : FalseTotal) : Type 0 where
  pub is_said : Contains said (record { total = x.total; number = x.said })
  pub is_counted : x.counted ≡ total_under world specs x.total rows
  pub other : pos x.said ≢ x.counted
