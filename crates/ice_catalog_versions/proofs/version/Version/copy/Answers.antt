use Rattle.std.proofs.Common.{◌≡◌, Some, ap, ◌∙◌, sym, subst, map}
use Rattle.std.specs.Arc.{arc_value}
use Rattle.ice_catalog_versions.specs.Histories.{History, state_of}
use Rattle.ice_catalog_versions.specs.Live.{IsGrown}
use Rattle.ice_catalog_versions.proofs.version.Version.copy.Goals as goal

pub invariant_of-result : goal.invariant_of-result
invariant_of-result c =
    let h : History = record {
      opening = arc_value c.in_ok-opening.opening;
      journal = map (λ e. arc_value e)
          c.in_ok-journal.journal.items;
    } in
    let o : arc_value c.in_ok-opening.opening ≡ c.args.self.now.opening = c.in_ok-opening.ensures ∙ ap
    (λ (h : History). h.opening) c.self.view_is in
    let same : h ≡ c.args.self.now = λ i. record { opening = o i; journal = c.in_ok-journal.ensures i } in
    let own = same ∙ sym c.self.view_is in (
      ap state_of own ∙ (c.self.invariant.0 ∙ λ i. Some (record {
        metadata = sym c.in_ok-metadata.ensures i;
        world = sym c.in_ok-world.ensures i;
      })),
      subst IsGrown (sym own) c.self.invariant.1,
    )
