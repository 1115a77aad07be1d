use Rattle.std.specs.Arc.{arc_value}
use Rattle.ice_catalog_versions.proofs.Worlds.{pairs_clone}
use Rattle.ice_catalog_versions.proofs.world.World.copy.Goals as goal

pub invariant_of-result : goal.invariant_of-result
invariant_of-result c = rw (pairs_clone (λ a. arc_value a) _ (λ a b h. h) c.self.inside.files.entries
    c.in_ok-clone.field-0.entries c.in_ok-clone.ensures.cases) c.self.invariant

pub returns : goal.returns
returns c = rw (pairs_clone (λ a. arc_value a) _ (λ a b h. h) c.self.inside.files.entries c.in_ok-clone.field-0.entries
    c.in_ok-clone.ensures.cases) c.self.view_is
