-- What a manifest list says of one partition field (Apache Iceberg table spec v2, "Manifest Lists": field_summary).
use Rattle.std.specs.Prelude.{ℕ, Bool, ◌&&◌, List, Option}
use Rattle.std.specs.Option.{option_eq}
use Rattle.std.specs.Str.{bytes_eq}
use Rattle.std.proofs.Math.Bool.{beq}

pub record FieldSummary : Type 0 where
  pub contains_null : Bool
  pub contains_nan : Option Bool
  pub lower : Option (List ℕ)
  pub upper : Option (List ℕ)

-- summaries that agree in every field
abbrev pub same_summary : FieldSummary → FieldSummary → Bool
same_summary a b =
    beq a.contains_null b.contains_null && (option_eq beq a.contains_nan b.contains_nan
    && (option_eq bytes_eq a.lower b.lower && option_eq bytes_eq a.upper b.upper))
