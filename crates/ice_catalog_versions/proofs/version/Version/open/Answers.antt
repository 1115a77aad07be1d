use Rattle.std.proofs.Common.{◌≡◌, [], Some, ap, ◌∙◌, sym, subst, map}
use Rattle.std.specs.Arc.{arc_value}
use Rattle.ice_meta.specs.Targets.{described}
use Rattle.ice_catalog_versions.specs.declared.opening.Opening.{Opening}
use Rattle.ice_catalog_versions.specs.Histories.{History, state_of}
use Rattle.ice_catalog_versions.specs.Live.{IsGrown}
use Rattle.ice_catalog_versions.proofs.Replays.{state_at_start}
use Rattle.ice_catalog_versions.proofs.version.Version.open.Goals as goal

pub invariant_of-result : goal.invariant_of-result
invariant_of-result c =
    let o : Opening = record { bytes = c.args.bytes.now; world = c.args.world } in
    let m = c.in_ok-metadata.metadata in
    let p : arc_value c.in_ok-opening.opening ≡ o =
    c.in_ok-opening.ensures.ok ∙ ap (λ bs. let o : Opening = record { bytes = bs; world = c.args.world } in o)
    (c.from_vec-bytes.ensures ∙ c.in_ok-from_slice.ensures.items) in
    let files : c.args.world ≡ c.in_ok-files.files = sym c.in_ok-files.ensures in
    let empty : map (λ e. arc_value e) c.new-2.result.items ≡ [] = ap (map (λ e. arc_value e)) c.new-2.ensures.items in
    let own : ◌≡◌ {A = History} (record {
      opening = arc_value c.in_ok-opening.opening;
      journal = map (λ e. arc_value e)
          c.new-2.result.items;
    }) (record { opening = o; journal = [] }) = λ i. record {
      opening = p i;
      journal = empty i;
    } in (
      ap state_of own
          ∙ (state_at_start o (described m.json m.table) c.in_ok-metadata.ensures
          ∙ λ i. Some (record { metadata = described m.json m.table; world = files i })),
      subst IsGrown (sym own) tt,
    )
