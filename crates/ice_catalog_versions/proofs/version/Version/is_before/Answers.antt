use Rattle.std.proofs.Common.{◌≡◌, ◌-◌, ap, ◌∙◌, sym, map, take}
use Rattle.std.specs.Arc.{arc_value}
use Rattle.ice_catalog_versions.specs.Histories.{before}
use Rattle.ice_catalog_versions.proofs.Replays.{is_base}
use Rattle.ice_catalog_versions.proofs.version.Version.is_before.Goals as goal

pub returns-then-is_same : goal.returns-then-is_same
returns-then-is_same c =
    let xs = c.self.inside.journal.items in
    let ys = c.next.inside.journal.items in
    let k = c.len-earlier.result - 1 in
    let n = ap (λ m. m - 1) (c.len-earlier.ensures ∙ c.next.inside.journal.ok.0) in
    let opening = sym c.deref.ensures ∙ (c.is_same.ensures.0 c.if-is_same.true ∙ c.deref-2.ensures) in
    let h = is_base (λ e. arc_value e) (arc_value c.self.inside.opening) (arc_value c.next.inside.opening) xs ys k n
    opening in
    let there : map (λ e. arc_value e) c.deref-then-is_same.result.now ≡ map (λ e. arc_value e) xs =
    ap (map (λ e. arc_value e)) c.deref-then-is_same.ensures.value in
    let here : map (λ e. arc_value e) (take k c.deref-then-is_same-2.result.now) ≡ map (λ e. arc_value e) (take k ys) =
    ap (λ zs. map (λ e. arc_value e) (take k zs)) c.deref-then-is_same-2.ensures.value in (
      λ e. sym c.self.view_is ∙ (h.0 (sym there ∙ (c.are_same.ensures.0 e ∙ here)) ∙ ap before c.next.view_is),
      λ e. c.are_same.ensures.1 (there ∙ (h.1 (c.self.view_is ∙ (e ∙ sym (ap before c.next.view_is))) ∙ sym here)),
    )
