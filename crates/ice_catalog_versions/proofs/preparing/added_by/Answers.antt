use Rattle.std.proofs.Common.{List, sym, ap, ◌∙◌, subst}
use Rattle.std.specs.List.{AllByRecursion}
use Rattle.ice_meta.specs.Targets.{Described, described}
use Rattle.ice_catalog_changes.specs.declared.change.Commit.{Commit}
use Rattle.ice_manifest_reading.specs.declared.row.Row.{Row}
use Rattle.ice_catalog_versions.specs.Adding.{CanWrite, files_over, added, manifests_from, next_rows}
use Rattle.ice_catalog_versions.specs.Adding.{next_sequence}
use Rattle.ice_catalog_versions.specs.Groups.{Group, groups}
use Rattle.ice_catalog_versions.specs.Live.{AreReadBack, IsReadBack}
use Rattle.ice_catalog_versions.specs.Seen.{all_seen}
use Rattle.ice_catalog_versions.specs.States.{State}
use Rattle.ice_catalog_versions.proofs.Accepting.{last_below, can_write}
use Rattle.ice_catalog_versions.proofs.preparing.added_by.Goals as goal

pub added_files-requires-clause-last : goal.added_files-requires-clause-last
added_files-requires-clause-last c =
    let s : State = record {
      metadata = described c.args.metadata.now.json c.args.metadata.now.table;
      world = c.args.world.now;
    } in
    let commit : Commit = record { change = c.args.change.now; ids = c.args.ids.now } in
    last_below s commit c.requires.accepted

pub added_files-requires-clause-writable : goal.added_files-requires-clause-writable
added_files-requires-clause-writable c =
    let m : Described = described c.args.metadata.now.json c.args.metadata.now.table in
    let s : State = record { metadata = m; world = c.args.world.now } in
    let commit : Commit = record { change = c.args.change.now; ids = c.args.ids.now } in
    subst (AllByRecursion (CanWrite m c.args.ids.now)) (sym (ap all_seen c.deref.ensures.value ∙ c.requires.groups))
    (can_write s commit c.requires.accepted c.args.metadata.now.says)

pub returns-clause-files : goal.returns-clause-files
unfolding added
returns-clause-files c =
    let m : Described = described c.args.metadata.now.json c.args.metadata.now.table in
    c.in_ok-files.ensures.files
    ∙ (ap (files_over c.args.accepted.rows.items m c.args.ids.now) (ap all_seen c.deref.ensures.value ∙
    c.requires.groups)
    ∙ ap (λ rows. files_over rows m c.args.ids.now (groups c.args.change.now)) c.requires.rows)

pub returns-clause-read : goal.returns-clause-read
returns-clause-read c =
    let m : Described = described c.args.metadata.now.json c.args.metadata.now.table in
    subst (λ (gs : List Group). AllByRecursion IsReadBack (manifests_from m c.args.ids.now 0 gs))
    (ap all_seen c.deref.ensures.value ∙ c.requires.groups) c.in_ok-files.ensures.read

pub returns-clause-list : goal.returns-clause-list
returns-clause-list c =
    let m : Described = described c.args.metadata.now.json c.args.metadata.now.table in
    let seq = next_sequence c.args.metadata.now.table in
    let ids = c.args.ids.now in
    let of_groups = subst (λ (gs : List Group). AreReadBack (next_rows c.args.accepted.rows.items seq
    (manifests_from m ids 0 gs)) ids) (ap all_seen c.deref.ensures.value ∙ c.requires.groups)
    c.in_ok-files.ensures.list in
    subst (λ (rows : List Row). AreReadBack (next_rows rows seq (manifests_from m ids 0 (groups c.args.change.now)))
    ids) c.requires.rows of_groups
