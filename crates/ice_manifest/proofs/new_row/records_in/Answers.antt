use Rattle.std.proofs.Common.{pos, arith}
use Rattle.ice_manifest.specs.declared.new_file.NewFile.{NewFile}
use Rattle.ice_manifest.specs.Adding.{IsAmount}
use Rattle.ice_manifest.proofs.WrittenItems.{all_at}
use Rattle.ice_manifest.proofs.NewRow.{records_on, as_many}
use Rattle.ice_manifest.proofs.new_row.records_in.Goals as goal

pub with_records-records-requires-clause-room : goal.with_records-records-requires-clause-room
with_records-records-requires-clause-room c = omega (arith, as_many c.args.files.now)

pub with_records-records-requires-clause-amount : goal.with_records-records-requires-clause-amount
with_records-records-requires-clause-amount c = all_at (λ (f : NewFile). IsAmount f.record_count) c.args.files.now
    c.files.file-index c.file-item.result c.files-test.true c.file-item.is c.requires.amounts

pub files-preserved : goal.files-preserved
files-preserved c = record {
  total = records_on c.args.files.now c.files.file-index c.file-item.result (pos c.files.records) _ _ c.files-test.true
      c.file-item.is c.with_records-records.ensures.sum c.files.invariant.total;
  few = omega arith;
}
