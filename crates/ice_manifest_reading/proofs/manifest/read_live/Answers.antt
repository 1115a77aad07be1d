use Rattle.std.proofs.Common.{◌≡◌, ℤ, to_z, of_z, w32, w64, refl, ap, ◌∙◌, rules}
use Rattle.std.proofs.lemmas.Int.{to_z-of_z}
use Rattle.std.proofs.lemmas.Result.{err_from_is_err_and}
use Rattle.ice_manifest_layouts.specs.Seen.{file_seen}
use Rattle.ice_manifest_reading.specs.declared.data_file.DataFile.{DataFile}
use Rattle.ice_manifest_reading.proofs.Found.{Numbered, live_goes}
use Rattle.ice_manifest_reading.proofs.Said.{columns_read}
use Rattle.ice_manifest_reading.proofs.Counting.{rows_read}
use Rattle.ice_manifest_reading.proofs.manifest.read_live.Goals as goal

pub returns-in_err-view-clause-told : goal.returns-in_err-view-clause-told
returns-in_err-view-clause-told g c =
    let row = c.args.source.now.row.now in
    let spec = c.args.source.now.spec.now in
    let numbered : Numbered row spec c.args.status c.args.entry.now c.in-Some.file c.args.source.now.unpartitioned
    c.snapshot_at-snapshot_id.result c.in_ok-sequence_number.sequence_number
    c.in_ok-file_sequence_number.file_sequence_number = record {
      open_is = c.args.source.now.known;
      snapshot_is = c.snapshot_at-snapshot_id.ensures;
      sequence_is = c.in_ok-sequence_number.ensures;
      file_sequence_is = c.in_ok-file_sequence_number.ensures;
      is_file = c.in-Some.ensures.0;
      same = c.in-Some.ensures.1;
      partition_is = c.requires.partition;
    } in
    let goes = live_goes row spec c.args.position c.args.status c.args.entry.now c.in-Some.file
    c.args.source.now.unpartitioned c.snapshot_at-snapshot_id.result c.in_ok-sequence_number.sequence_number
    c.in_ok-file_sequence_number.file_sequence_number numbered in
    let p = err_from_is_err_and c.from_residual-in_err-view.result c.from_residual-in_err-view.ensures.1 in
    rw (p.1, p.2) (λ other. rw (goes, c.in_err-view.ensures other) refl)

pub returns-in_err-view-clause-gathered : goal.returns-in_err-view-clause-gathered
returns-in_err-view-clause-gathered g c =
    let row = c.args.source.now.row.now in
    let spec = c.args.source.now.spec.now in
    let numbered : Numbered row spec c.args.status c.args.entry.now c.in-Some.file c.args.source.now.unpartitioned
    c.snapshot_at-snapshot_id.result c.in_ok-sequence_number.sequence_number
    c.in_ok-file_sequence_number.file_sequence_number = record {
      open_is = c.args.source.now.known;
      snapshot_is = c.snapshot_at-snapshot_id.ensures;
      sequence_is = c.in_ok-sequence_number.ensures;
      file_sequence_is = c.in_ok-file_sequence_number.ensures;
      is_file = c.in-Some.ensures.0;
      same = c.in-Some.ensures.1;
      partition_is = c.requires.partition;
    } in
    let goes = live_goes row spec c.args.position c.args.status c.args.entry.now c.in-Some.file
    c.args.source.now.unpartitioned c.snapshot_at-snapshot_id.result c.in_ok-sequence_number.sequence_number
    c.in_ok-file_sequence_number.file_sequence_number numbered in
    let p = err_from_is_err_and c.from_residual-in_err-view.result c.from_residual-in_err-view.ensures.1 in
    rw (p.1, p.2) (λ other. rw (goes, c.in_err-view.ensures other) refl)

pub returns-clause-told : goal.returns-clause-told
returns-clause-told g c =
    let row = c.args.source.now.row.now in
    let spec = c.args.source.now.spec.now in
    let numbered : Numbered row spec c.args.status c.args.entry.now c.in-Some.file c.args.source.now.unpartitioned
    c.snapshot_at-snapshot_id.result c.in_ok-sequence_number.sequence_number
    c.in_ok-file_sequence_number.file_sequence_number = record {
      open_is = c.args.source.now.known;
      snapshot_is = c.snapshot_at-snapshot_id.ensures;
      sequence_is = c.in_ok-sequence_number.ensures;
      file_sequence_is = c.in_ok-file_sequence_number.ensures;
      is_file = c.in-Some.ensures.0;
      same = c.in-Some.ensures.1;
      partition_is = c.requires.partition;
    } in
    let goes = live_goes row spec c.args.position c.args.status c.args.entry.now c.in-Some.file
    c.args.source.now.unpartitioned c.snapshot_at-snapshot_id.result c.in_ok-sequence_number.sequence_number
    c.in_ok-file_sequence_number.file_sequence_number numbered in
    let spec_id : to_z w32 (of_z w32 row.spec_id) ≡ row.spec_id = to_z-of_z w32 row.spec_id (search rules) in
    let snapshot : to_z w64 (of_z w64 c.snapshot_at-snapshot_id.result) ≡ c.snapshot_at-snapshot_id.result =
    to_z-of_z w64 c.snapshot_at-snapshot_id.result (search rules) in
    let columns = columns_read row.content c.in-Some.file.entry.now.partition.now (file_seen c.in-Some.file)
    c.in_ok-view.view c.in_ok-view.ensures.0 c.in_ok-view.ensures.1 in
    rw (goes, c.in_ok-view.ensures.1) (simp (spec_id, snapshot) at
    c.in_ok-put_live.ensures.told c.in_ok-view.ensures.0 columns)

pub returns-clause-gathered : goal.returns-clause-gathered
returns-clause-gathered g c =
    let row = c.args.source.now.row.now in
    let spec = c.args.source.now.spec.now in
    let numbered : Numbered row spec c.args.status c.args.entry.now c.in-Some.file c.args.source.now.unpartitioned
    c.snapshot_at-snapshot_id.result c.in_ok-sequence_number.sequence_number
    c.in_ok-file_sequence_number.file_sequence_number = record {
      open_is = c.args.source.now.known;
      snapshot_is = c.snapshot_at-snapshot_id.ensures;
      sequence_is = c.in_ok-sequence_number.ensures;
      file_sequence_is = c.in_ok-file_sequence_number.ensures;
      is_file = c.in-Some.ensures.0;
      same = c.in-Some.ensures.1;
      partition_is = c.requires.partition;
    } in
    let goes = live_goes row spec c.args.position c.args.status c.args.entry.now c.in-Some.file
    c.args.source.now.unpartitioned c.snapshot_at-snapshot_id.result c.in_ok-sequence_number.sequence_number
    c.in_ok-file_sequence_number.file_sequence_number numbered in
    let spec_id : to_z w32 (of_z w32 row.spec_id) ≡ row.spec_id = to_z-of_z w32 row.spec_id (search rules) in
    let snapshot : to_z w64 (of_z w64 c.snapshot_at-snapshot_id.result) ≡ c.snapshot_at-snapshot_id.result =
    to_z-of_z w64 c.snapshot_at-snapshot_id.result (search rules) in
    let columns = columns_read row.content c.in-Some.file.entry.now.partition.now (file_seen c.in-Some.file)
    c.in_ok-view.view c.in_ok-view.ensures.0 c.in_ok-view.ensures.1 in
    rw (goes, c.in_ok-view.ensures.1) (simp (spec_id, snapshot) at
    c.in_ok-put_live.ensures.gathered c.in_ok-view.ensures.0 columns)

pub returns-in_err-put_live-clause-told : goal.returns-in_err-put_live-clause-told
returns-in_err-put_live-clause-told g c =
    let row = c.args.source.now.row.now in
    let spec = c.args.source.now.spec.now in
    let numbered : Numbered row spec c.args.status c.args.entry.now c.in-Some.file c.args.source.now.unpartitioned
    c.snapshot_at-snapshot_id.result c.in_ok-sequence_number.sequence_number
    c.in_ok-file_sequence_number.file_sequence_number = record {
      open_is = c.args.source.now.known;
      snapshot_is = c.snapshot_at-snapshot_id.ensures;
      sequence_is = c.in_ok-sequence_number.ensures;
      file_sequence_is = c.in_ok-file_sequence_number.ensures;
      is_file = c.in-Some.ensures.0;
      same = c.in-Some.ensures.1;
      partition_is = c.requires.partition;
    } in
    let goes = live_goes row spec c.args.position c.args.status c.args.entry.now c.in-Some.file
    c.args.source.now.unpartitioned c.snapshot_at-snapshot_id.result c.in_ok-sequence_number.sequence_number
    c.in_ok-file_sequence_number.file_sequence_number numbered in
    let spec_id : to_z w32 (of_z w32 row.spec_id) ≡ row.spec_id = to_z-of_z w32 row.spec_id (search rules) in
    let snapshot : to_z w64 (of_z w64 c.snapshot_at-snapshot_id.result) ≡ c.snapshot_at-snapshot_id.result =
    to_z-of_z w64 c.snapshot_at-snapshot_id.result (search rules) in
    let columns = columns_read row.content c.in-Some.file.entry.now.partition.now (file_seen c.in-Some.file)
    c.in_ok-view.view c.in_ok-view.ensures.0 c.in_ok-view.ensures.1 in
    let p = err_from_is_err_and c.from_residual-in_err-put_live.result c.from_residual-in_err-put_live.ensures.1 in
    rw (p.1, p.2) (λ other. rw (goes, c.in_ok-view.ensures.1) (simp (spec_id, snapshot) at
    c.in_err-put_live.ensures.told c.in_ok-view.ensures.0 columns other))

pub returns-in_err-put_live-clause-gathered : goal.returns-in_err-put_live-clause-gathered
returns-in_err-put_live-clause-gathered g c =
    let row = c.args.source.now.row.now in
    let spec = c.args.source.now.spec.now in
    let numbered : Numbered row spec c.args.status c.args.entry.now c.in-Some.file c.args.source.now.unpartitioned
    c.snapshot_at-snapshot_id.result c.in_ok-sequence_number.sequence_number
    c.in_ok-file_sequence_number.file_sequence_number = record {
      open_is = c.args.source.now.known;
      snapshot_is = c.snapshot_at-snapshot_id.ensures;
      sequence_is = c.in_ok-sequence_number.ensures;
      file_sequence_is = c.in_ok-file_sequence_number.ensures;
      is_file = c.in-Some.ensures.0;
      same = c.in-Some.ensures.1;
      partition_is = c.requires.partition;
    } in
    let goes = live_goes row spec c.args.position c.args.status c.args.entry.now c.in-Some.file
    c.args.source.now.unpartitioned c.snapshot_at-snapshot_id.result c.in_ok-sequence_number.sequence_number
    c.in_ok-file_sequence_number.file_sequence_number numbered in
    let spec_id : to_z w32 (of_z w32 row.spec_id) ≡ row.spec_id = to_z-of_z w32 row.spec_id (search rules) in
    let snapshot : to_z w64 (of_z w64 c.snapshot_at-snapshot_id.result) ≡ c.snapshot_at-snapshot_id.result =
    to_z-of_z w64 c.snapshot_at-snapshot_id.result (search rules) in
    let columns = columns_read row.content c.in-Some.file.entry.now.partition.now (file_seen c.in-Some.file)
    c.in_ok-view.view c.in_ok-view.ensures.0 c.in_ok-view.ensures.1 in
    let p = err_from_is_err_and c.from_residual-in_err-put_live.result c.from_residual-in_err-put_live.ensures.1 in
    rw (p.1, p.2) (λ other. rw (goes, c.in_ok-view.ensures.1) (simp (spec_id, snapshot) at
    c.in_err-put_live.ensures.gathered c.in_ok-view.ensures.0 columns other))

pub returns-clause-rows : goal.returns-clause-rows
returns-clause-rows g c =
    let row = c.args.source.now.row.now in
    let view = c.in_ok-view.view in
    let same : c.view.inside.record_count ≡ view.record_count = ap (λ (d : DataFile). d.record_count) c.view.view_is in
    let fits : to_z w64 (of_z w64 view.record_count) ≡ view.record_count =
    to_z-of_z w64 view.record_count (search rules) in
    ap (λ (z : ℤ). to_z w64 (of_z w64 z)) same ∙ fits
    ∙ rows_read row.content c.in-Some.file.entry.now.partition.now c.args.entry.now c.in-Some.file view
    c.in_ok-view.ensures.0 c.in-Some.ensures.0 c.in-Some.ensures.1 c.in_ok-view.ensures.1
