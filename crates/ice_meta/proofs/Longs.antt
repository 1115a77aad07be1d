-- The numbers of the code are longs.
use Rattle.std.proofs.Common.{w64, SFits}
use Rattle.std.specs.Prelude.{ℤ, pos, negsuc}
use Rattle.ice_meta.specs.Committing.{IsLong}

pub is_long : (z : ℤ) → SFits w64 z → IsLong z
is_long (pos n) h = h.sfits
is_long (negsuc n) h = h.sfits
