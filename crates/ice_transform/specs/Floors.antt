-- Whole numbers rounded down (Apache Iceberg table spec v2, "Partition Transforms": `v - (((v % W) + W) % W)`, and
-- hours, days, months and years "from 1970-01-01", of which the negative ones are rounded down too).
use Rattle.std.specs.Prelude.{◌≡◌, ℤ, ◌+ℤ◌, ◌*ℤ◌, ◌≤ℤ◌, ◌<ℤ◌, Option, None, Some, if◌then◌else◌}
use Rattle.std.specs.Int.{int_div_euclid}
use Rattle.ice_value.specs.Bounds.{fits_int, fits_long}

-- p is the unit of this size in which v lies: p * size ≤ v < (p + 1) * size
abbrev pub IsUnitOf : ℤ → ℤ → ℤ → Type 0
IsUnitOf size v p = ((p *ℤ size) ≤ℤ v) × (v <ℤ ((p *ℤ size) +ℤ size))

-- p is the multiple of the width with p ≤ v < p + width
abbrev pub IsTruncation : ℤ → ℤ → ℤ → Type 0
IsTruncation width v p = (k : ℤ) × (p ≡ k *ℤ width) × (p ≤ℤ v) × (v <ℤ (p +ℤ width))

-- the unit in which v lies
abbrev pub floor_div : ℤ → ℤ → ℤ
floor_div size v = int_div_euclid v size

-- the greatest multiple of the width up to v
abbrev pub floor_to : ℤ → ℤ → ℤ
floor_to width v = floor_div width v *ℤ width

-- the number, where it fits 64 bits
abbrev pub long_if : ℤ → Option ℤ
long_if z = if fits_long z then Some z else None

-- the number, where it fits 32 bits
abbrev pub int_if : ℤ → Option ℤ
int_if z = if fits_int z then Some z else None
