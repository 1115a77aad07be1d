use Rattle.std.proofs.Common.{refl}
use Rattle.ice_manifest_values.proofs.items.ItemsAhead.next.Goals as goal

pub next_by-requires : goal.next_by-requires
next_by-requires c = λ p. refl
