use Rattle.std.proofs.Common.{w64, rules}
use Rattle.ice_manifest_reading.specs.Lending.{lent}
use Rattle.ice_state_sections.specs.Parts.{long}
use Rattle.ice_state_sections.proofs.Added.{again}
use Rattle.ice_state_sections.proofs.EntriesAdded.{file_added}
use Rattle.ice_state_sections.proofs.entry_writing.add_file.Goals as goal

pub returns : goal.returns
returns c =
    let count = again w64 long c.args.entry.now.record_count _ _ (search rules) c.in_ok-bytes-5.ensures in
    let size = again w64 long c.args.entry.now.file_size _ _ (search rules) c.in_ok-bytes-6.ensures in
    file_added c.args.known.now (lent c.args.entry.now).file _ _ _ _ _ _ _ _ _ c.in_ok-bytes.ensures
    c.in_ok-bytes-2.ensures c.in_ok-bytes-3.ensures c.in_ok-bytes-4.ensures count size c.in_ok-bytes-7.ensures
    c.in_ok-add_referenced.ensures
