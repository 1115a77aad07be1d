use Rattle.ice_manifest.proofs.WrittenItems.{all_at}
use Rattle.ice_manifest.proofs.manifest_writing.with_files.Goals as goal

pub entry_datum-requires : goal.entry_datum-requires
entry_datum-requires c = all_at _ c.args.files.now c.files.file-index c.file-item.result c.files-test.true
    c.file-item.is c.requires
