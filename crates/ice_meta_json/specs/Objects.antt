-- Values of JSON, changed member by member and item by item.
use Rattle.std.specs.Prelude.{ℕ, ℤ, List, unwrap_or}
use Rattle.serde_json.specs.Data as json
use Rattle.serde_json.specs.Data.{Data, Items, Members, put}
use Rattle.serde_json.specs.Find.{get, as_array, as_object, of_integer}

abbrev pub whole : ℤ → Data
whole z = json.number (of_integer z)

abbrev pub natural : ℕ → Data
natural n = json.number (json.unsigned n)

abbrev pub no_object : Data
no_object = json.object json.no_members

-- the value of a member; null where it is left out
abbrev pub inside : List ℕ → Data → Data
inside name d = unwrap_or (get name d) json.null

-- the members of an object; another value has none
abbrev pub members_of : Data → Members
members_of d = unwrap_or (as_object d) json.no_members

-- the object in which a member has this value
abbrev pub set : List ℕ → Data → Data → Data
set name x d = json.object (put name x (members_of d))

-- the items of an array; another value has none
abbrev pub items_of : Data → Items
items_of d = unwrap_or (as_array d) json.no_items

abbrev pub at_end : Data → Items → Items
at_end x json.no_items = json.item x json.no_items
at_end x (json.item d ds) = json.item d (at_end x ds)

-- the array with one more item at its end
unfoldable pub one_more : Data → Data → Data
one_more x d = json.array (at_end x (items_of d))
