-- The JSON of a schema with the members that are read alone.
use Rattle.std.proofs.Common.{◌≡◌, ℕ, zero, suc, ◌-◌, ◌<◌, Bool, true, false, List, Option, None, Some, refl, ap}
use Rattle.std.proofs.Common.{◌∙◌, arith, rules}
use Rattle.std.specs.Prelude.{ℤ, pos, negsuc, codes, option_and_then, option_map, unwrap_or, if◌then◌else◌}
use Rattle.std.specs.Str.{bytes_eq}
use Rattle.serde_json.specs.Data as json
use Rattle.serde_json.specs.View.{view}
use Rattle.serde_json.specs.declared.value.Value.{Null, the_lemmas}
use Rattle.serde_json.specs.Data.{Data, Items}
use Rattle.serde_json.specs.Find.{get, as_bool, as_str, as_number, as_i64}
use Rattle.serde_json.specs.Written.{has_float, items_have_float, compact_text}
use Rattle.ice_meta.specs.declared.fault.Member.{Member}
use Rattle.ice_meta.specs.declared.fault.Member.TheVariants as member
use Rattle.ice_meta.specs.Members.{member_name}
use Rattle.ice_meta_json.specs.Objects.{whole, inside, items_of}
use Rattle.ice_meta.specs.Schemas.{most_levels}
use Rattle.ice_meta.specs.SchemaTexts.{Nested, text_of, number_of, flag_of, type_of, field_of, each_field, fields_of}
use Rattle.ice_meta.specs.SchemaTexts.{struct_of, list_of, map_of, of_name, object_of, nested_in, schema_json}
use Rattle.ice_meta.specs.SchemaTexts.{schema_text}

pub view-Null : view Null ≡ json.null
view-Null = search (rules, the_lemmas)

pub no_level : (n : ℕ) (d : Data) → n ≡ 0 → nested_in n d ≡ json.null
unfolding nested_in
no_level zero d e = refl
no_level (suc n) d e = absurd (omega (arith, e))

pub one_level : (n : ℕ) (d : Data) → 0 < n → nested_in n d ≡ object_of (nested_in (n - 1)) d
unfolding nested_in
one_level zero d some = absurd (omega arith)
one_level (suc n) d some = let k : suc n - 1 ≡ n = omega arith in rw k refl

-- ---- no floats

abbrev NoFloat : Data → Type 0
NoFloat d = has_float d ≡ false

some_text : (o : Option (List ℕ)) → NoFloat (unwrap_or (option_map json.string o) json.null)
some_text None = refl
some_text (Some s) = refl

some_flag : (o : Option Bool) → NoFloat (unwrap_or (option_map json.boolean o) json.null)
some_flag None = refl
some_flag (Some b) = refl

some_number : (o : Option ℤ) → NoFloat (unwrap_or (option_map whole o) json.null)
some_number None = refl
some_number (Some (pos n)) = refl
some_number (Some (negsuc n)) = refl

text_plain : (m : Member) (d : Data) → NoFloat (text_of m d)
text_plain m d = some_text (option_and_then as_str (get (member_name m) d))

flag_plain : (m : Member) (d : Data) → NoFloat (flag_of m d)
flag_plain m d = some_flag (option_and_then as_bool (get (member_name m) d))

number_plain : (m : Member) (d : Data) → NoFloat (number_of m d)
number_plain m d = some_number (option_and_then as_i64 (option_and_then as_number (get (member_name m) d)))

type_plain : (nested : Nested) (d : Data) → ((e : Data) → NoFloat (nested e)) → NoFloat (type_of nested d)
type_plain nested json.null h = refl
type_plain nested (json.boolean b) h = refl
type_plain nested (json.number n) h = refl
type_plain nested (json.string s) h = refl
type_plain nested (json.array ds) h = refl
type_plain nested (json.object ms) h = h (json.object ms)

field_plain : (nested : Nested) (d : Data) → ((e : Data) → NoFloat (nested e)) → NoFloat (field_of nested d)
field_plain nested d h =
    rw (
      number_plain member.Id d,
      text_plain member.Name d,
      flag_plain member.Required d,
      type_plain nested
          (inside (member_name member.Type) d) h,
    ) refl

each_plain : (nested : Nested) (ds : Items) → ((e : Data) → NoFloat (nested e))
    → items_have_float (each_field nested ds) ≡ false
each_plain nested json.no_items h = refl
each_plain nested (json.item d ds) h = rw (field_plain nested d h, each_plain nested ds h) refl

fields_plain : (nested : Nested) (d : Data) → ((e : Data) → NoFloat (nested e)) → NoFloat (fields_of nested d)
fields_plain nested d h = each_plain nested (items_of (inside (member_name member.Fields) d)) h

struct_plain : (nested : Nested) (d : Data) → ((e : Data) → NoFloat (nested e)) → NoFloat (struct_of nested d)
struct_plain nested d h = rw (text_plain member.Type d, fields_plain nested d h) refl

list_plain : (nested : Nested) (d : Data) → ((e : Data) → NoFloat (nested e)) → NoFloat (list_of nested d)
list_plain nested d h = rw (
  text_plain member.Type d,
  number_plain member.ElementId d,
  type_plain nested
      (inside (member_name member.Element) d) h,
) refl

map_plain : (nested : Nested) (d : Data) → ((e : Data) → NoFloat (nested e)) → NoFloat (map_of nested d)
map_plain nested d h =
    rw (
      text_plain member.Type d,
      number_plain member.KeyId d,
      type_plain nested (inside (member_name member.Key) d) h,
      number_plain member.ValueId d,
      type_plain nested (inside (member_name member.Value) d) h,
    ) refl

-- of three, whichever it is
one_of : (a b c : Bool) (x y z : Data) → NoFloat x → NoFloat y → NoFloat z
    → NoFloat (if a then x else (if b then y else (if c then z else json.null)))
one_of true b c x y z h k l = h
one_of false true c x y z h k l = k
one_of false false true x y z h k l = l
one_of false false false x y z h k l = refl

named_plain : (nested : Nested) (o : Option (List ℕ)) (d : Data) → ((e : Data) → NoFloat (nested e))
    → NoFloat (of_name nested o d)
named_plain nested None d h = refl
named_plain nested (Some s) d h =
    one_of (bytes_eq s (codes "struct")) (bytes_eq s (codes "list")) (bytes_eq s (codes "map")) (struct_of nested d)
    (list_of nested d) (map_of nested d) (struct_plain nested d h) (list_plain nested d h) (map_plain nested d h)

nested_plain : (levels : ℕ) (d : Data) → NoFloat (nested_in levels d)
unfolding nested_in
nested_plain zero d = refl
nested_plain (suc levels) d = named_plain (nested_in levels) (option_and_then as_str (get (member_name member.Type) d))
    d (nested_plain levels)

schema_plain : (d : Data) → NoFloat (schema_json d)
unfolding schema_json
schema_plain d = rw (
  text_plain member.Type d,
  number_plain member.SchemaId d,
  fields_plain (nested_in most_levels) d
      (nested_plain most_levels),
) refl

pub text_is : (d e : Data) (text : List ℕ) → e ≡ schema_json d → (has_float e ≡ false → text ≡ compact_text e)
    → text ≡ schema_text d
text_is d e text same said = said (ap has_float same ∙ schema_plain d) ∙ ap compact_text same
