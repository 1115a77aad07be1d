use Rattle.std.proofs.Common.{ℕ, List, Some, Global, sym, ◌∙◌, ap}
use Rattle.std.specs.FinMap as map
use Rattle.std.specs.Arc.{arc_value}
use Rattle.std.specs.Option.{option_map}
use Rattle.std.specs.Ordering.{nat_cmp}
use Rattle.std.specs.Cmp.Lexicographic.{slice_cmp}
use Rattle.std.specs.FinMap.{get-from_sorted}
use Rattle.ice_catalog_versions.specs.Pairs.{pairs}
use Rattle.ice_catalog_versions.proofs.Worlds.{pairs_find}
use Rattle.ice_catalog_versions.proofs.world.World.get.Goals as goal

pub returns-in-Some : goal.returns-in-Some
returns-in-Some c =
    let f = λ (a : _). arc_value {X = List ℕ} {Z = Global} a in
    ap Some (c.as_slice.ensures ∙ c.deref.ensures)
    ∙ (ap (option_map f) c.in-Some.ensures.value
    ∙ (pairs_find f c.args.path.now c.self.inside.files.entries
    ∙ (sym (get-from_sorted (slice_cmp nat_cmp) (pairs f c.self.inside.files.entries) c.args.path.now c.self.invariant)
    ∙ ap (λ m. map.get m c.args.path.now) c.self.view_is)))

pub returns-in-None : goal.returns-in-None
returns-in-None c =
    let f = λ (a : _). arc_value {X = List ℕ} {Z = Global} a in
    ap (option_map f) c.in-None.ensures.value
    ∙ (pairs_find f c.args.path.now c.self.inside.files.entries
    ∙ (sym (get-from_sorted (slice_cmp nat_cmp) (pairs f c.self.inside.files.entries) c.args.path.now c.self.invariant)
    ∙ ap (λ m. map.get m c.args.path.now) c.self.view_is))
