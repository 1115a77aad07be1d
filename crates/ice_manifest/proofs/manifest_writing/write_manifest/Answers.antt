use Rattle.std.proofs.Common.{◌≡◌, ℕ, Vec, Global, Ok, map}
use Rattle.avro_file.specs.Files.{opened_at, reader_of}
use Rattle.avro_file.specs.Writing.{in_order}
use Rattle.avro_file.proofs.Filed.{if_ok}
use Rattle.ice_manifest_reading.specs.declared.row.Row.{Row}
use Rattle.ice_manifest.specs.Adding.{lent}
use Rattle.ice_manifest_reading.specs.Manifests.{entries_of}
use Rattle.ice_manifest.specs.WrittenTypes.{written_tree}
use Rattle.ice_manifest.specs.WrittenValues.{entry_value}
use Rattle.ice_manifest.specs.Writing.{schema_text, manifest_type, manifest_properties, new_entries}
use Rattle.ice_manifest.proofs.Tuples.{their_tuples}
use Rattle.ice_manifest.proofs.FileSpelled.{entries_are_of, entries_within_limits}
use Rattle.ice_manifest.proofs.EntriesAgain.{entries_again}
use Rattle.ice_manifest.proofs.manifest_writing.write_manifest.Goals as goal

pub with_files-requires : goal.with_files-requires
with_files-requires c = their_tuples c.args.heading.now (lent c.args.files.now) c.requires.files.each

pub returns-clause-bytes : goal.returns-clause-bytes
returns-clause-bytes c =
    let h = c.args.heading.now in
    let ps = in_order (schema_text (manifest_type h)) (manifest_properties h) in
    c.finish.ensures.exact ps h.sync (map (entry_value h) (lent c.args.files.now)) (c.in_ok-writer-2.ensures.exact ps
    h.sync c.in_ok-writer.ensures.exact)

pub returns-clause-holds : goal.returns-clause-holds
returns-clause-holds c =
    let h = c.args.heading.now in
    let fs = lent c.args.files.now in
    let ps = in_order (schema_text (manifest_type h)) (manifest_properties h) in
    let t = written_tree (manifest_type h) in
    c.finish.ensures.holds ps t (map (entry_value h) fs) (c.in_ok-writer-2.ensures.given ps t
    c.in_ok-writer.ensures.given) (entries_are_of h fs c.requires.heading c.requires.files.each
    c.in_ok-writer-2.ensures.fits c.in_ok-writer-2.ensures.snapshot)

pub returns-clause-read_back : goal.returns-clause-read_back
returns-clause-read_back c =
    let h = c.args.heading.now in
    let fs = lent c.args.files.now in
    let ps = in_order (schema_text (manifest_type h)) (manifest_properties h) in
    let t = written_tree (manifest_type h) in
    if_ok (λ (v : Vec ℕ Global). opened_at v.items ≡ Ok (reader_of t (map (entry_value h) fs)))
    (λ (v : Vec ℕ Global). (row : Row) → row.content ≡ h.content → entries_of row h.spec v.items ≡ Ok
    (new_entries row h 0 fs)) c.finish.result (λ v opened row same.
    entries_again row h fs v.items same opened c.requires.heading c.requires.files.each c.in_ok-writer-2.ensures.fits)
    (c.finish.ensures.read_back ps t (map (entry_value h) fs) (c.in_ok-writer-2.ensures.given ps t
    c.in_ok-writer.ensures.given) (entries_are_of h fs c.requires.heading c.requires.files.each
    c.in_ok-writer-2.ensures.fits c.in_ok-writer-2.ensures.snapshot)
    (entries_within_limits h fs c.requires.files.each))
