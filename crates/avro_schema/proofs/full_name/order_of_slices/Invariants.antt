use Rattle.std.proofs.Common.{◌≡◌, length}
use Rattle.std.specs.Ordering.{nat_cmp}
use Rattle.std.specs.Cmp.Lexicographic.{slice_cmp}
use Rattle.avro_schema.proofs.full_name.order_of_slices.Given as goal

-- what is left decides as the whole does
abbrev pub invariant-blocks-2 : goal.invariant-blocks-2
invariant-blocks-2 l = slice_cmp nat_cmp l.first l.second ≡ slice_cmp nat_cmp l.left l.right

abbrev pub decreases-blocks-2 : goal.decreases-blocks-2
decreases-blocks-2 l = length l.first
