use Rattle.std.proofs.Common.{string_bytes, ◌∙◌, ap}
use Rattle.std.specs.FinMap as map
use Rattle.std.specs.Arc.{arc_value}
use Rattle.ice_catalog_versions.specs.Pairs.{pairs}
use Rattle.ice_catalog_versions.proofs.Worlds.{put_is_insert, sorted_put, pairs_insert}
use Rattle.ice_catalog_versions.proofs.world.World.put.Goals as goal

pub invariant_of-self-2 : goal.invariant_of-self-2
invariant_of-self-2 c =
    rw (
      c.in_ok-insert.ensures.entries,
      pairs_insert (λ a. arc_value a) c.in_ok-key.key c.in_ok-value.value
          c.self.inside.files.entries,
    )
    (sorted_put (string_bytes c.in_ok-key.key) (arc_value c.in_ok-value.value) (pairs (λ a. arc_value a)
    c.self.inside.files.entries) c.self.invariant)

pub returns-clause-ok : goal.returns-clause-ok
returns-clause-ok c =
    rw (
      c.in_ok-insert.ensures.entries,
      pairs_insert (λ a. arc_value a) c.in_ok-key.key c.in_ok-value.value
          c.self.inside.files.entries,
    )
    (put_is_insert (string_bytes c.in_ok-key.key) (arc_value c.in_ok-value.value) (pairs (λ a. arc_value a)
    c.self.inside.files.entries) c.self.invariant
    ∙ (ap (λ m. map.insert m (string_bytes c.in_ok-key.key) (arc_value c.in_ok-value.value)) c.self.view_is ∙ cc
    (c.in_ok-key.ensures.ok, c.in_ok-value.ensures.ok, c.from_vec.ensures)))
