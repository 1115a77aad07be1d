-- The order of values of one type (Apache Iceberg table spec v2, "Scan planning": bounds are compared as values;
-- strings and binary values by unsigned bytes, false before true).
use Rattle.std.specs.Prelude.{Bool, true, false, ℕ, Option, None, Some, List, unwrap_or}
use Rattle.std.specs.declared.cmp.Ordering.{Ordering}
use Rattle.std.specs.declared.cmp.Ordering.TheVariants.{Less, Equal, Greater}
use Rattle.std.specs.Ordering.{nat_cmp, int_cmp, int_eq, is_le, is_some_and}
use Rattle.std.specs.Cmp.Lexicographic.{slice_cmp, pointwise}
use Rattle.std.specs.Str.{bytes_eq}
use Rattle.std.proofs.Math.Bool.{beq}
use Rattle.ice_value.specs.declared.cell.Cell.{Cell}
use Rattle.ice_value.specs.declared.cell.Cell.TheVariants.{Null, Bool as Flag, Whole, Text, Bytes}

-- false comes before true
abbrev pub flag_cmp : Bool → Bool → Ordering
flag_cmp false false = Equal
flag_cmp false true = Less
flag_cmp true false = Greater
flag_cmp true true = Equal

-- the order of two cells of one kind
abbrev pub order : Cell → Cell → Option Ordering
order (Flag a) (Flag b) = Some (flag_cmp a b)
order (Whole a) (Whole b) = Some (int_cmp a b)
order (Text a) (Text b) = Some (slice_cmp nat_cmp a b)
order (Bytes a) (Bytes b) = Some (slice_cmp nat_cmp a b)
order _ _ = None

-- the cell is there, and keeps bytes of its own: a text or a byte string
abbrev pub KeepsBytes : Option Cell → Type 0
KeepsBytes (Some (Text text)) = Unit {0}
KeepsBytes (Some (Bytes bytes)) = Unit {0}
KeepsBytes _ = ⊥

-- neither cell is null, and both are truths, whole numbers, texts or byte strings
abbrev pub AreOfOneKind : Cell → Cell → Type 0
AreOfOneKind (Flag a) (Flag b) = Unit {0}
AreOfOneKind (Whole a) (Whole b) = Unit {0}
AreOfOneKind (Text a) (Text b) = Unit {0}
AreOfOneKind (Bytes a) (Bytes b) = Unit {0}
AreOfOneKind _ _ = ⊥

-- both cells are null, or of one kind with one value
abbrev pub same_cell : Cell → Cell → Bool
same_cell Null Null = true
same_cell (Flag a) (Flag b) = beq a b
same_cell (Whole a) (Whole b) = int_eq a b
same_cell (Text a) (Text b) = bytes_eq a b
same_cell (Bytes a) (Bytes b) = bytes_eq a b
same_cell _ _ = false

-- as many cells, the same at each place
abbrev pub same_tuple : List Cell → List Cell → Bool
same_tuple a b = pointwise same_cell a b

-- both cells are of one kind, and the first isn't greater
abbrev pub is_at_most : Cell → Cell → Bool
is_at_most a b = is_some_and is_le (order a b)

-- the place of a cell's kind among the kinds: null, truths, whole numbers, texts, byte strings
abbrev pub kind_of : Cell → ℕ
kind_of Null = 0
kind_of (Flag a) = 1
kind_of (Whole a) = 2
kind_of (Text a) = 3
kind_of (Bytes a) = 4

-- the order of any two cells: within a kind that of the values, else that of the kinds
abbrev pub cell_cmp : Cell → Cell → Ordering
cell_cmp a b = unwrap_or (order a b) (nat_cmp (kind_of a) (kind_of b))

-- the order of tuples: that of the first cells that differ, and what ends first comes first
abbrev pub tuple_cmp : List Cell → List Cell → Ordering
tuple_cmp a b = slice_cmp cell_cmp a b
