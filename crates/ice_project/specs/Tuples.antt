-- The test of a partition tuple.
use Rattle.std.specs.Prelude.{ℕ, Bool, true, false, List, Option, None, Some, if◌then◌else◌, nat_eq}
use Rattle.std.specs.List.{list_any, list_all, slice_get, starts_with}
use Rattle.std.specs.declared.cmp.Ordering.{Ordering}
use Rattle.std.specs.Ordering.{is_lt, is_le, is_gt, is_ge, is_eq, is_ne}
use Rattle.ice_value.specs.Cells.{order}
use Rattle.ice_value.specs.declared.cell.Cell.{Cell}
use Rattle.ice_value.specs.declared.cell.Cell.TheVariants as cells
use Rattle.ice_filter.specs.Rows.{is_null}
use Rattle.ice_filter.specs.Trees.{tree_of, meaning}
use Rattle.ice_filter.specs.declared.bound.Test.{Test}
use Rattle.ice_filter.specs.declared.bound.Test.TheVariants.{Less, AtMost, More, AtLeast, Among, NotAmong, IsNull}
use Rattle.ice_filter.specs.declared.bound.Test.TheVariants.{IsPresent, StartsWith}
use Rattle.ice_project.specs.declared.part_filter.FieldTest.{FieldTest}
use Rattle.ice_project.specs.declared.part_filter.PartFilter.{PartFilter}

-- cells of different kinds pass every comparison
abbrev pub passes : (Ordering → Bool) → Option Ordering → Bool
passes test None = true
passes test (Some o) = test o

abbrev pub may_begin : Cell → List ℕ → Bool
may_begin (cells.Text text) s = starts_with nat_eq text s
may_begin _ s = true

abbrev pub is_null_test : Test → Bool
is_null_test IsNull = true
is_null_test _ = false

-- what a test says of a partition value that isn't null
abbrev pub may_present : Test → Cell → Bool
may_present (Less v) p = passes is_lt (order p v)
may_present (AtMost v) p = passes is_le (order p v)
may_present (More v) p = passes is_gt (order p v)
may_present (AtLeast v) p = passes is_ge (order p v)
may_present (Among vs) p = list_any (λ v. passes is_eq (order p v)) vs
may_present (NotAmong vs) p = list_all (λ v. passes is_ne (order p v)) vs
may_present IsNull p = false
may_present IsPresent p = true
may_present (StartsWith s) p = may_begin p s

-- what a test says of a partition value; null meets `is null` alone
abbrev pub may : Test → Cell → Bool
may test p = if is_null p then is_null_test test else may_present test p

-- a missing value meets every test
abbrev pub may_at : Test → Option Cell → Bool
may_at test None = true
may_at test (Some p) = may test p

-- the tuple meets the test of one of its values
abbrev pub field_test_met : List Cell → FieldTest → Bool
field_test_met tuple t = may_at t.test (slice_get tuple t.position)

-- the tuple meets all of these tests
abbrev pub tests_met : List Cell → List FieldTest → Bool
tests_met tuple tests = list_all (field_test_met tuple) tests

-- the tuple meets the filter
abbrev pub part_meets : PartFilter → List Cell → Bool
part_meets part tuple = meaning (tests_met tuple) (tree_of part.parts)
