use Rattle.std.proofs.Common.{ℕ, ℤ, subst, w64, to_z, of_z, rules}
use Rattle.std.proofs.lemmas.Int.{to_z-of_z}
use Rattle.ice_manifest_reading.specs.Lending.{lent}
use Rattle.ice_state_sections.specs.Files.{file}
use Rattle.ice_state_sections.specs.Entries.{seen, snapshot}
use Rattle.ice_state_sections.specs.Written.{Adds}
use Rattle.ice_state_sections.proofs.EntriesAdded.{entry_added, known_of}
use Rattle.ice_state_sections.proofs.entry_writing.add_entry.Goals as goal

pub returns : goal.returns
returns c =
    let row = c.args.row.now in
    let spec = c.args.spec.now in
    let e = lent c.args.entry.now in
    let k = known_of row spec (seen c.args.before) e c.requires in
    let own = to_z-of_z w64 c.args.entry.now.snapshot_id (search rules) in
    let same = to_z-of_z w64 c.args.before.snapshot_id (search rules) in
    let put = subst (λ (z : ℤ). Adds (snapshot z) (to_z w64 (of_z w64 c.args.entry.now.snapshot_id))
    c.in_ok-bytes.bytes.items c.in_ok-bytes-2.bytes.items) same c.in_ok-bytes-2.ensures in
    let of = subst (λ (z : ℤ). Adds (snapshot c.args.before.snapshot_id) z c.in_ok-bytes.bytes.items
    c.in_ok-bytes-2.bytes.items) own put in
    let said = subst (λ (n : ℕ). Adds (file n c.args.before.path.now) e.file c.in_ok-bytes-4.bytes.items
    c.in_ok-add_file.field-0.items) k.values c.in_ok-add_file.ensures in
    entry_added row spec (seen c.args.before) e _ _ _ _ _ _ c.requires k.spec_id k.unpartitioned c.in_ok-bytes.ensures
    of c.in_ok-bytes-3.ensures c.in_ok-bytes-4.ensures said
