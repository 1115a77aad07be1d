use Rattle.std.proofs.Common.{◌≡◌, ◌+◌, ◌++◌, ◌∷◌, drop, map, ap, ◌∙◌, subst, sym}
use Rattle.ice_meta.specs.Targets.{Described, described}
use Rattle.ice_catalog_versions.specs.Adding.{manifest_of, manifests_from, file_of, row_of, next_sequence}
use Rattle.std.specs.List.{AllByRecursion}
use Rattle.ice_catalog_versions.specs.Live.{IsReadBack}
use Rattle.ice_catalog_versions.specs.Seen.{seen, all_seen}
use Rattle.ice_catalog_versions.proofs.Manifests.{seen_more, moved}
use Rattle.ice_catalog_versions.proofs.adding.add_manifests.Goals as goal

pub groups-preserved : goal.groups-preserved
groups-preserved c =
    let m : Described = described c.args.metadata.now.json c.args.metadata.now.table in
    let ids = c.args.ids.now in
    let n = c.groups.number in
    let group = c.index-groups-number.result in
    let row = row_of (next_sequence c.args.metadata.now.table) in
    let step = seen_more c.args.groups.now n group c.groups-test.true c.index-groups-number.is in
    let rest = manifests_from m ids (n + 1) (all_seen (drop (n + 1) c.args.groups.now)) in
    let all : manifest_of m ids n (seen group) ∷ rest ≡ manifests_from m ids n (all_seen (drop n c.args.groups.now)) =
    ap (manifests_from m ids n) (sym step) in
    let number = c.next_sequence-sequence.ensures ∙ ap next_sequence c.table.ensures in
    record {
      rows = moved row c.groups.additions.rows.items c.add_group.new.additions.rows.items _
          (manifest_of m ids n (seen group)) rest
          (rw number at c.in_ok-add_group.ensures.rows) (ap (λ ms. c.groups.additions.rows.items ++ map row ms) all ∙
          c.groups.invariant.rows);
      files = moved file_of c.groups.additions.files.items c.add_group.new.additions.files.items _
          (manifest_of m ids n (seen group)) rest
          c.in_ok-add_group.ensures.files (ap (λ ms. c.groups.additions.files.items ++ map file_of ms) all ∙
          c.groups.invariant.files);
      read = λ others. c.groups.invariant.read (subst (AllByRecursion IsReadBack) all (
        c.in_ok-add_group.ensures.read,
        others,
      ));
      writable = (rw step at c.groups.invariant.writable).1;
    }
