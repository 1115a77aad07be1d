-- The field paths to what a summary of a manifest list's row says. Apache Iceberg table spec v2, "Manifest Lists".
use Rattle.std.specs.Prelude.{ℤ, pos, List, [], ◌∷◌}

abbrev pub summary_field_paths : List (List ℤ)
summary_field_paths = (pos 509 ∷ []) ∷ (pos 518 ∷ []) ∷ (pos 510 ∷ []) ∷ (pos 511 ∷ []) ∷ []
