-- Bounds of texts and of byte strings whose bytes are in order do not cross.
use Rattle.std.proofs.Common.{◌≡◌, ◌==◌, ℕ, Bool, true, false, cond, not, ◌&&◌, List, length, refl, Option, Some, None}
use Rattle.std.specs.Cmp.Lexicographic.{slice_cmp}
use Rattle.std.specs.Option.{option_map}
use Rattle.std.specs.Ordering.{is_gt, nat_cmp}
use Rattle.std.specs.Str.{is_utf8}
use Rattle.ice_project.specs.Limits.{limit}
use Rattle.ice_value.specs.declared.cell.Cell.{Cell}
use Rattle.ice_value.specs.declared.cell.Cell.TheVariants.{Bytes, Text}
use Rattle.ice_value.specs.declared.column_type.ColumnType.{ColumnType}
use Rattle.ice_value.specs.declared.column_type.ColumnType.TheVariants.{Binary, Boolean, Date, Decimal, Double, Fixed}
use Rattle.ice_value.specs.declared.column_type.ColumnType.TheVariants.{Float, Int, Long, String, Time, Timestamp}
use Rattle.ice_value.specs.declared.column_type.ColumnType.TheVariants.{Timestamptz, Uuid}
use Rattle.icescan_audit_findings.specs.ColumnFlaws.{is_past}
use Rattle.icescan_audit_findings.specs.ColumnsSaid.{is_of_bytes}

-- the first bytes do not come behind the others
abbrev AreInOrder : List ℕ → List ℕ → Type 0
AreInOrder low high = not (is_gt (slice_cmp nat_cmp low high)) ≡ true

of_not : (b : Bool) → not b ≡ true → b ≡ false
of_not true h = absurd cc
of_not false h = refl

texts : (a b : Bool) (low high : List ℕ) → AreInOrder low high
    → is_past (cond {A = Option Cell} a (Some (Text low)) None) (cond {A = Option Cell} b (Some (Text high)) None)
    ≡ false
texts true true low high h = of_not (is_gt (slice_cmp nat_cmp low high)) h
texts true false low high h = refl
texts false b low high h = refl

byte_strings : (a b : Bool) (low high : List ℕ) → AreInOrder low high
    → is_past (option_map Bytes (cond {A = Option (List ℕ)} a (Some low) None))
    (option_map Bytes (cond {A = Option (List ℕ)} b (Some high) None)) ≡ false
byte_strings true true low high h = of_not (is_gt (slice_cmp nat_cmp low high)) h
byte_strings true false low high h = refl
byte_strings false b low high h = refl

pub none_past : (t : ColumnType) (low high : List ℕ) → (is_of_bytes t && not (is_gt (slice_cmp nat_cmp low high))) ≡ true
    → is_past (limit t (Some low)) (limit t (Some high)) ≡ false
none_past String low high h = texts (is_utf8 low) (is_utf8 high) low high h
none_past (Fixed size) low high h = byte_strings (length low == size) (length high == size) low high h
none_past Binary low high h = byte_strings true true low high h
none_past Boolean low high h = absurd cc
none_past Int low high h = absurd cc
none_past Long low high h = absurd cc
none_past Float low high h = absurd cc
none_past Double low high h = absurd cc
none_past Date low high h = absurd cc
none_past Time low high h = absurd cc
none_past Timestamp low high h = absurd cc
none_past Timestamptz low high h = absurd cc
none_past Uuid low high h = absurd cc
none_past (Decimal precision scale) low high h = absurd cc
