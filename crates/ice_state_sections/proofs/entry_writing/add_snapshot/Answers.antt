use Rattle.std.proofs.Common.{◌≡◌, ℤ, subst, sym, ap, ◌∙◌, w64, to_z}
use Rattle.std.proofs.lemmas.Int.{to_z-of_z}
use Rattle.ice_state_sections.specs.Parts.{long}
use Rattle.ice_state_sections.specs.Entries.{snapshot}
use Rattle.ice_state_sections.specs.Written.{Adds}
use Rattle.ice_state_sections.proofs.Added.{again}
use Rattle.ice_state_sections.proofs.EntriesAdded.{snapshot_same, snapshot_other}
use Rattle.ice_state_sections.proofs.entry_writing.add_snapshot.Goals as goal

pub returns : goal.returns
returns c = snapshot_other c.args.same c.args.snapshot_id _ _ _ c.in_ok-bytes.ensures
    (again w64 long c.args.snapshot_id _ _ c.ranges.snapshot_id c.in_ok-add_long.ensures)

pub returns-then-snapshot_id-same : goal.returns-then-snapshot_id-same
returns-then-snapshot_id-same c =
    let is_same : c.args.same ≡ c.args.snapshot_id =
    sym (to_z-of_z w64 c.args.same c.ranges.same) ∙ ap (to_z w64) (sym c.if-snapshot_id-same.true)
    ∙ to_z-of_z w64 c.args.snapshot_id c.ranges.snapshot_id in
    subst (λ (z : ℤ). Adds (snapshot c.args.same) z c.args.bytes.items c.in_ok-add_truth.field-0.items) is_same
    (snapshot_same c.args.same _ _ c.in_ok-add_truth.ensures)
