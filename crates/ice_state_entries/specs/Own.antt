-- Records: what an entry has of its own, and the numbers of what it shares.
use Rattle.std.specs.Prelude.{ℕ, ℤ, List, Option}

pub record Own : Type 0 where
  pub position : ℕ
  pub record_count : ℤ
  pub file_size : ℤ
  pub common : ℕ
  pub origin : ℕ
  pub referenced : Option ℕ

-- a record with its path
abbrev pub Row : Type 0
Row = List ℕ × Own
