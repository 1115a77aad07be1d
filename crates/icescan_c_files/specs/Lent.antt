-- What lies where something was lent.
use Rattle.std.specs.Prelude.{◌≡◌, ℕ, ℤ, List, length, Some}
use Rattle.icescan_c_lent.specs.declared.lent.Bytes.{Bytes}
use Rattle.icescan_c_lent.specs.declared.lent.Ids.{Ids}

-- these bytes lie where the pointer points, and are as many as is told
abbrev pub AreLent : Bytes → List ℕ → Type 0
AreLent lent bytes = (lent.bytes ≡ Some bytes) × (lent.len ≡ length bytes)

-- the same of ids
abbrev pub AreIdsLent : Ids → List ℤ → Type 0
AreIdsLent lent ids = (lent.ids ≡ Some ids) × (lent.len ≡ length ids)
