-- The number N of `bucket[N]` or W of `truncate[W]` (Apache Iceberg table spec v2, "Partition Transforms").
use Rattle.std.specs.Prelude.{ℕ, ◌&&◌, Option, None, Some, if◌then◌else◌, nat_lt}

-- the number, where it is from 1 to 2147483647
abbrev pub parameter_if : ℕ → Option ℕ
parameter_if n = if nat_lt 0 n && nat_lt n 0x8000_0000 then Some n else None
