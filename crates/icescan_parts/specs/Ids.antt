-- Ids as a text lists them.
use Rattle.std.specs.Prelude.{ℕ, ℤ, List, codes}
use Rattle.std.specs.List.{flat_map}
use Rattle.icescan_print.specs.Pieces.{named_signed}

-- ids in decimal, each behind a comma
abbrev pub listed : List ℤ → List ℕ
listed ids = flat_map (λ id. named_signed (codes ",") id) ids
