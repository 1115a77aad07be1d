-- The pieces that texts are made of: a name with the number or path that it is about.
use Rattle.std.specs.Prelude.{ℕ, ℤ, List, ◌++◌}
use Rattle.std.specs.Fmt.{decimal, signed_decimal}
use Rattle.icescan_print.specs.Escaping.{escaped}

abbrev pub named_number : List ℕ → ℕ → List ℕ
named_number name n = name ++ decimal n

abbrev pub named_signed : List ℕ → ℤ → List ℕ
named_signed name n = name ++ signed_decimal n

abbrev pub named_path : List ℕ → List ℕ → List ℕ
named_path name path = name ++ escaped path
