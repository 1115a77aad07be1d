-- How many nodes and levels a tree has: each type is a node, also each type of a field, of items, of values and of
-- a branch, and the root is the first level. The measure is our own.
use Rattle.std.specs.Prelude.{ℕ, zero, suc, ◌+◌, max, Option, Some, None}
use Rattle.avro_schema.specs.Tree.{Tree, null, boolean, int, long, float, double, octets, string, fixed, symbols}
use Rattle.avro_schema.specs.Tree.{structure, array, map, union, Fields, no_fields, field, Branches, no_branches}
use Rattle.avro_schema.specs.Tree.{branch}

-- how many nodes are below the root
unfoldable mutual
  pub below : Tree → ℕ
  below null = 0
  below boolean = 0
  below int = 0
  below long = 0
  below float = 0
  below double = 0
  below (octets kind) = 0
  below string = 0
  below (fixed n kind) = 0
  below (symbols n) = 0
  below (structure fs) = in_fields fs
  below (array t id kind) = suc (below t)
  below (map t) = suc (below t)
  below (union bs) = in_branches bs

  pub in_fields : Fields → ℕ
  in_fields no_fields = 0
  in_fields (field id t fs) = suc (below t) + in_fields fs

  pub in_branches : Branches → ℕ
  in_branches no_branches = 0
  in_branches (branch t bs) = suc (below t) + in_branches bs

-- how many levels are below the root
unfoldable mutual
  pub height : Tree → ℕ
  height null = 0
  height boolean = 0
  height int = 0
  height long = 0
  height float = 0
  height double = 0
  height (octets kind) = 0
  height string = 0
  height (fixed n kind) = 0
  height (symbols n) = 0
  height (structure fs) = deepest_field fs
  height (array t id kind) = suc (height t)
  height (map t) = suc (height t)
  height (union bs) = deepest_branch bs

  pub deepest_field : Fields → ℕ
  deepest_field no_fields = 0
  deepest_field (field id t fs) = max (suc (height t)) (deepest_field fs)

  pub deepest_branch : Branches → ℕ
  deepest_branch no_branches = 0
  deepest_branch (branch t bs) = max (suc (height t)) (deepest_branch bs)

abbrev pub nodes : Tree → ℕ
nodes t = suc (below t)

abbrev pub depth : Tree → ℕ
depth t = suc (height t)

-- what is left after so many
abbrev pub left_after : ℕ → ℕ → Option ℕ
left_after left zero = Some left
left_after zero (suc n) = None
left_after (suc left) (suc n) = left_after left n
