-- What an object's attributes say. Avro 1.11.1, "Schema Declaration"; field-id, element-id and the logical type map of
-- an array by the Iceberg table spec, Appendix A, "Avro". Sizes are 0 to 2^31 - 1, and ids are 32-bit whole numbers.
use Rattle.std.specs.Prelude.{ℕ, ℤ, pos, negsuc, ◌^◌, List, [], ◌∷◌, Bool, true, false, Option, Some, None}
use Rattle.std.specs.Prelude.{option_and_then, option_map, if◌then◌else◌, ◌&&◌, codes, nat_lt}
use Rattle.std.specs.Str.{bytes_eq}
use Rattle.serde_json.specs.Data as json
use Rattle.serde_json.specs.Data.{Data, Items}
use Rattle.serde_json.specs.Events.{items_len}
use Rattle.serde_json.specs.Find.{get, as_str, as_array, as_object, as_number, as_i64}
use Rattle.std.specs.Option.{is_some}
use Rattle.avro_schema.specs.Tree.{Tree, null, boolean, int, long, float, double, octets, string}
use Rattle.avro_schema.specs.declared.schema.ArrayKind.{ArrayKind}
use Rattle.avro_schema.specs.declared.schema.ArrayKind.TheVariants as of_array
use Rattle.avro_schema.specs.declared.schema.BytesKind.{BytesKind}
use Rattle.avro_schema.specs.declared.schema.BytesKind.TheVariants as of_bytes
use Rattle.avro_schema.specs.declared.attributes.Kind.{Kind}
use Rattle.avro_schema.specs.declared.attributes.Kind.TheVariants as kind

-- the text at a key
abbrev pub text_in : List ℕ → Data → Option (List ℕ)
text_in key d = option_and_then as_str (get key d)

abbrev pub not_empty : List ℕ → Option (List ℕ)
not_empty [] = None
not_empty (x ∷ s) = Some (x ∷ s)

-- the name that an object gives, unless it is empty
abbrev pub name_in : Data → Option (List ℕ)
name_in d = option_and_then not_empty (text_in (codes "name") d)

abbrev pub is_object : Data → Bool
is_object d = is_some (as_object d)

abbrev pub is_text : Data → Bool
is_text d = is_some (as_str d)

abbrev pub all_items : (Data → Bool) → Items → Bool
all_items test json.no_items = true
all_items test (json.item d ds) = test d && all_items test ds

-- the items at a key, where each passes the test
abbrev pub items_in : (Data → Bool) → List ℕ → Data → Option Items
items_in test key d =
    option_and_then (λ ds. if all_items test ds then Some ds else None) (option_and_then as_array (get key d))

-- whether the logical type is this one
abbrev pub is_word : List ℕ → Option (List ℕ) → Bool
is_word word None = false
is_word word (Some s) = bytes_eq s word

abbrev pub is_logical : List ℕ → Data → Bool
is_logical word d = is_word word (text_in (codes "logicalType") d)

-- what an array's items are
abbrev pub array_kind : Data → ArrayKind
array_kind d = if is_logical (codes "map") d then of_array.Map else of_array.List

-- what bytes of any or of a fixed length are
abbrev pub bytes_kind : Data → BytesKind
bytes_kind d = if is_logical (codes "decimal") d then of_bytes.Decimal else of_bytes.Plain

-- how many symbols an enum has, where they are an array of texts
abbrev pub symbols_in : Data → Option ℕ
symbols_in d = option_map items_len (items_in is_text (codes "symbols") d)

-- the whole number at a key
abbrev pub number_in : List ℕ → Data → Option ℤ
number_in key d = option_and_then as_i64 (option_and_then as_number (get key d))

abbrev pub id_of : ℤ → Option ℤ
id_of (pos n) = if nat_lt n (2 ^ 31) then Some (pos n) else None
id_of (negsuc n) = if nat_lt n (2 ^ 31) then Some (negsuc n) else None

-- the id at a key; any other value there is none
abbrev pub id_in : List ℕ → Data → Option ℤ
id_in key d = option_and_then id_of (number_in key d)

abbrev pub size_of : ℤ → Option ℕ
size_of (pos n) = if nat_lt n (2 ^ 31) then Some n else None
size_of (negsuc n) = None

-- the size of a fixed
abbrev pub size_in : Data → Option ℕ
size_in d = option_and_then size_of (number_in (codes "size") d)

-- the types that have no parts, no size and no name
abbrev pub plain : List ℕ → Option Tree
plain s =
    if bytes_eq s (codes "null") then Some null
    else (if bytes_eq s (codes "boolean") then Some boolean
    else (if bytes_eq s (codes "int") then Some int
    else (if bytes_eq s (codes "long") then Some long
    else (if bytes_eq s (codes "float") then Some float
    else (if bytes_eq s (codes "double") then Some double
    else (if bytes_eq s (codes "bytes") then Some (octets of_bytes.Plain)
    else (if bytes_eq s (codes "string") then Some string else None)))))))

-- what a text says as the type of an object
abbrev pub kind_of : List ℕ → Kind
kind_of s =
    if bytes_eq s (codes "array") then kind.Array
    else (if bytes_eq s (codes "map") then kind.Map
    else (if bytes_eq s (codes "record") then kind.Record
    else (if bytes_eq s (codes "enum") then kind.Enum
    else (if bytes_eq s (codes "fixed") then kind.Fixed
    else (if bytes_eq s (codes "bytes") then kind.Bytes else kind.Word)))))
