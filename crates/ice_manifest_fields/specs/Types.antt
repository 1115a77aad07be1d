-- Which Avro types a field may have. Apache Iceberg table spec v2, "Appendix A: Avro": an int or long is an Avro int or
-- long, a boolean a boolean, a string a string, a binary bytes, a list an array, a struct a record; an optional field
-- is a union with null.
use Rattle.std.specs.Prelude.{Bool, true, false, ◌&&◌, ◌||◌}
use Rattle.avro_schema.specs.declared.schema.ArrayKind.TheVariants as stands_for
use Rattle.avro_schema.specs.Tree.{Tree, null, boolean, int, long, octets, string, structure, array, union, Branches}
use Rattle.avro_schema.specs.Tree.{no_branches, branch}

-- a whole number, of either width
abbrev pub is_whole : Tree → Bool
is_whole int = true
is_whole long = true
is_whole t = false

abbrev pub is_truth : Tree → Bool
is_truth boolean = true
is_truth t = false

abbrev pub is_text : Tree → Bool
is_text string = true
is_text t = false

abbrev pub is_binary : Tree → Bool
is_binary (octets kind) = true
is_binary t = false

-- a list, and no map that is written as one
abbrev pub is_list : Tree → Bool
is_list (array t id stands_for.List) = true
is_list t = false

-- a list or a map by numbers: an array, whether or not it is marked as a map
abbrev pub is_array : Tree → Bool
is_array (array t id kind) = true
is_array t = false

abbrev pub is_record : Tree → Bool
is_record (structure fs) = true
is_record t = false

abbrev pub is_null : Tree → Bool
is_null null = true
is_null t = false

-- each branch is null or as wanted
unfoldable pub each_is : (Tree → Bool) → Branches → Bool
each_is wanted no_branches = true
each_is wanted (branch t ts) = (is_null t || wanted t) && each_is wanted ts

-- some branch is as wanted
unfoldable pub some_is : (Tree → Bool) → Branches → Bool
some_is wanted no_branches = false
some_is wanted (branch t ts) = wanted t || some_is wanted ts

-- whether a field may have the type: a type that is as wanted, or a union of such types and null
unfoldable pub fits : (Tree → Bool) → Tree → Bool
fits wanted (union ts) = each_is wanted ts && some_is wanted ts
fits wanted t = wanted t
