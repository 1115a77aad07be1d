use Rattle.std.proofs.Common.{◌≡◌, ℕ, List, Global, nat_eq, sym, ◌∙◌, ap}
use Rattle.std.specs.FinMap as map
use Rattle.std.specs.Arc.{arc_value}
use Rattle.std.specs.Ordering.{nat_cmp}
use Rattle.std.specs.Cmp.Lexicographic.{slice_cmp}
use Rattle.ice_catalog_versions.specs.Pairs.{pairs}
use Rattle.ice_catalog_versions.proofs.Worlds.{same_sorted, same_pairs}
use Rattle.std.specs.Cmp.Lexicographic.{pointwise}
use Rattle.std.proofs.lemmas.Slice.Eq.{bytes_eq-Decides}
use Rattle.ice_catalog_versions.proofs.world.World.is_same.Goals as goal

pub returns : goal.returns
returns c =
    let es = c.self.inside.files.entries in
    let fs = c.other.inside.files.entries in
    let f = λ (a : _). arc_value {X = List ℕ} {Z = Global} a in
    let same = same_pairs f (λ a b. pointwise nat_eq (f a) (f b)) (λ a b. bytes_eq-Decides (f a) (f b)) es fs in
    let maps : map.from_sorted {R = slice_cmp nat_cmp} (pairs f es) ≡ map.from_sorted (pairs f fs)
    → pairs f es ≡ pairs f fs = same_sorted (pairs f es) (pairs f fs) c.self.invariant c.other.invariant in (
      λ e. sym c.self.view_is ∙ (ap map.from_sorted (same.0 (sym c.eq.ensures ∙ e)) ∙ c.other.view_is),
      λ e. c.eq.ensures ∙ same.1 (maps (c.self.view_is ∙ (e ∙ sym c.other.view_is))),
    )
