-- Objects of JSON, each in a line of its own. (10 is the line feed.)
use Rattle.std.specs.Prelude.{ℕ, ℤ, pos, negsuc, List, [], ◌∷◌, ◌++◌, Option, Some, None}
use Rattle.std.specs.Borrow.{Bor}
use Rattle.serde_json.specs.Data.{Num, unsigned, negative, Data, null, boolean, number, string, object}
use Rattle.serde_json.specs.Data.{Members, no_members, member}
use Rattle.serde_json.specs.Written.{compact_text}
use Rattle.icescan_forms.specs.declared.objects.Value.{Value}
use Rattle.icescan_forms.specs.declared.objects.Value.TheVariants.{Null, Truth, Int, Long, Sum, Count, Text}

-- a whole number
abbrev pub num_of : ℤ → Num
num_of (pos n) = unsigned n
num_of (negsuc n) = negative (negsuc n)

abbrev pub number_json : ℤ → Data
number_json z = number (num_of z)

-- how many there are
abbrev pub count_json : ℕ → Data
count_json n = number (unsigned n)

-- a text or an id that may be absent
abbrev pub text_if : Option (List ℕ) → Data
text_if (Some text) = string text
text_if None = null

abbrev pub id_if : Option ℤ → Data
id_if (Some id) = number_json id
id_if None = null

-- members in their order
abbrev pub members_of : List (List ℕ × Data) → Members
members_of [] = no_members
members_of (m ∷ ms) = member m.0 m.1 (members_of ms)

-- the object of these members as serde_json writes it without spaces, and a line feed
unfoldable pub object_line : List (List ℕ × Data) → List ℕ
object_line ms = compact_text (object (members_of ms)) ++ 10 ∷ []

-- a value that is handed over to be written, and a member
abbrev pub value_json : Value → Data
value_json Null = null
value_json (Truth truth) = boolean truth
value_json (Int z) = number_json z
value_json (Long z) = number_json z
value_json (Sum z) = number_json z
value_json (Count n) = count_json n
value_json (Text text) = string text.now

abbrev pub member_of : (Bor (List ℕ) × Value) → List ℕ × Data
member_of m = (m.0.now, value_json m.1)
