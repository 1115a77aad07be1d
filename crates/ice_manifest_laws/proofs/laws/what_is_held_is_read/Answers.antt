use Rattle.ice_manifest_laws.proofs.Held.{rows_held, live_held, entries_held}
use Rattle.ice_manifest_laws.proofs.laws.what_is_held_is_read.Goals as goal

pub returns : goal.returns
returns c = record {
  list = λ s vs bytes short held few. rows_held s vs bytes (c.held_is_read.ensures.read s vs bytes short held few);
  manifest = λ row spec s vs bytes short held few.
      entries_held row spec s vs bytes (c.held_is_read.ensures.read s vs bytes short held few);
  bounds = λ row spec s vs bytes short held few.
      live_held row spec s vs bytes (c.held_is_read.ensures.read s vs bytes short held few);
}
