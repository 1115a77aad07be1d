-- Ids of 32 bits.
use Rattle.std.proofs.Common.{◌≡◌, true, w32, w64, SFits}
use Rattle.std.proofs.lemmas.Bool.{ltb-true}
use Rattle.ice_value.specs.Bounds.{fits_int}
use Rattle.std.specs.Prelude.{ℤ, pos, negsuc}
use Rattle.ice_meta.specs.Committing.{IsLong}
use Rattle.ice_manifest.specs.Adding.{IsId}

pub is_id : (z : ℤ) → SFits w32 z → IsId z
is_id (pos n) h = h.sfits
is_id (negsuc n) h = h.sfits

pub is_long : (z : ℤ) → SFits w64 z → IsLong z
is_long (pos n) h = h.sfits
is_long (negsuc n) h = h.sfits

-- a number that a type of 32 bits has
pub within_int : (z : ℤ) → fits_int z ≡ true → SFits w32 z
within_int (pos n) h = record { sfits = ltb-true n 0x8000_0000 h }
within_int (negsuc n) h = record { sfits = ltb-true n 0x8000_0000 h }
