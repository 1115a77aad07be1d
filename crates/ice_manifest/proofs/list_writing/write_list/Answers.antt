use Rattle.std.proofs.Common.{◌≡◌, ◌∷◌, [], ℕ, Vec, Global, Ok, map}
use Rattle.avro_file.specs.Files.{opened_at, reader_of}
use Rattle.avro_file.specs.Writing.{in_order}
use Rattle.avro_file.proofs.Filed.{if_ok}
use Rattle.ice_manifest_reading.specs.Lists.{rows_of}
use Rattle.ice_manifest.specs.WrittenTypes.{written_tree}
use Rattle.ice_manifest.specs.WrittenSchemas.{list_type}
use Rattle.ice_manifest.specs.WrittenValues.{row_value}
use Rattle.ice_manifest.specs.Writing.{schema_text, version_property}
use Rattle.ice_manifest.proofs.RowsAgain.{rows_are_of, rows_within_limits, rows_again}
use Rattle.ice_manifest.proofs.list_writing.write_list.Goals as goal

pub returns-clause-bytes : goal.returns-clause-bytes
returns-clause-bytes c =
    let ps = in_order (schema_text list_type) (version_property ∷ []) in
    c.finish.ensures.exact ps c.args.sync (map row_value c.args.rows.now) (c.in_ok-writer.ensures.exact ps c.args.sync
    c.in_ok-without_rows.ensures.exact)

pub returns-clause-holds : goal.returns-clause-holds
returns-clause-holds c = λ readable.
    let ps = in_order (schema_text list_type) (version_property ∷ []) in
    let t = written_tree list_type in
    c.finish.ensures.holds ps t (map row_value c.args.rows.now) (c.in_ok-writer.ensures.given ps t
    c.in_ok-without_rows.ensures.given) (rows_are_of c.args.rows.now c.in_ok-writer.ensures.fits readable)

pub returns-clause-read_back : goal.returns-clause-read_back
returns-clause-read_back c = λ readable rising few.
    let ps = in_order (schema_text list_type) (version_property ∷ []) in
    let t = written_tree list_type in
    let rows = c.args.rows.now in
    if_ok (λ (v : Vec ℕ Global). opened_at v.items ≡ Ok (reader_of t (map row_value rows)))
    (λ (v : Vec ℕ Global). rows_of v.items ≡ Ok rows) c.finish.result (λ v opened.
    rows_again rows v.items opened c.in_ok-writer.ensures.fits readable rising few)
    (c.finish.ensures.read_back ps t (map row_value rows) (c.in_ok-writer.ensures.given ps t
    c.in_ok-without_rows.ensures.given) (rows_are_of rows c.in_ok-writer.ensures.fits readable)
    (rows_within_limits rows readable))
