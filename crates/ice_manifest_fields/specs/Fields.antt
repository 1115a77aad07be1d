-- What the fields of an object hold: fields are found by their ids, never by their names, and fields that no id asks
-- for are skipped. Apache Iceberg table spec v2, "Column Projection", "Manifests" and "Appendix A: Avro".
use Rattle.std.specs.Prelude.{ℕ, ℤ, pos, negsuc, ◌^◌, List, [], ◌∷◌, length, Bool, Option, Some, None, Result, Ok, Err}
use Rattle.std.specs.Prelude.{nat_lt, nat_le, is_none, if◌then◌else◌}
use Rattle.contract_words.specs.Outcome.{◌>>=◌}
use Rattle.avro_schema.specs.Tree.{Tree, structure, array}
use Rattle.avro_file.specs.Value.{truth, small, whole, text, run, fields, items, Values, no_values, value}
use Rattle.avro_file.specs.Picking.{Typed, Picked, absent, null_met, present, pick}
use Rattle.ice_manifest_fields.specs.declared.fault.FieldFault.{FieldFault}
use Rattle.ice_manifest_fields.specs.declared.fault.FieldFault.TheVariants.{Missing, OutOfRange}
use Rattle.ice_manifest_fields.specs.Each.{each}
use Rattle.ice_manifest_fields.specs.Schemas.{fields_in, type_at}

-- what stands at the field with this id of a record
abbrev pub at : ℤ → Typed → Picked
at id x = pick (id ∷ []) x

-- the value, where there is one; absent and null are the same
abbrev pub there : Picked → Option Typed
there absent = None
there null_met = None
there (present x) = Some x

-- ---- what a value is

abbrev pub whole_of : Option Typed → Option ℤ
whole_of (Some (t, small z)) = Some z
whole_of (Some (t, whole z)) = Some z
whole_of x = None

abbrev pub truth_of : Option Typed → Option Bool
truth_of (Some (t, truth b)) = Some b
truth_of x = None

abbrev pub text_of : Option Typed → Option (List ℕ)
text_of (Some (t, text s)) = Some s
text_of x = None

abbrev pub binary_of : Option Typed → Option (List ℕ)
binary_of (Some (t, run bs)) = Some bs
binary_of x = None

abbrev pub record_of : Option Typed → Option Typed
record_of (Some (structure fs, fields vs)) = Some (structure fs, fields vs)
record_of x = None

-- the items of a list, each of the type that the list's items have
abbrev pub items_as : Tree → Values → List Typed
items_as t no_values = []
items_as t (value v vs) = (t, v) ∷ items_as t vs

abbrev pub items_of : Option Typed → List Typed
items_of (Some (array t id kind, items vs)) = items_as t vs
items_of x = []

-- ---- what must be there

abbrev pub asked : {A : Type 0} → ℤ → Option A → Result A FieldFault
asked id None = Err (Missing id)
asked id (Some x) = Ok x

-- a whole number of 64 bits
abbrev pub long_at : ℤ → Typed → Result ℤ FieldFault
long_at id x = asked id (whole_of (there (at id x)))

abbrev pub within_32 : ℤ → ℤ → Result ℤ FieldFault
within_32 id (pos n) = if nat_lt n (2 ^ 31) then Ok (pos n) else Err (OutOfRange id)
within_32 id (negsuc n) = if nat_lt n (2 ^ 31) then Ok (negsuc n) else Err (OutOfRange id)

-- a whole number of 32 bits
unfoldable pub int_at : ℤ → Typed → Result ℤ FieldFault
int_at id x = long_at id x >>= within_32 id

abbrev pub not_negative : ℤ → ℤ → Result ℕ FieldFault
not_negative id (pos n) = Ok n
not_negative id (negsuc n) = Err (OutOfRange id)

-- a sequence number, which isn't negative
unfoldable pub number_at : ℤ → Typed → Result ℕ FieldFault
number_at id x = long_at id x >>= not_negative id

-- a path, of at most 65,535 bytes
abbrev pub short_path : ℤ → List ℕ → Result (List ℕ) FieldFault
short_path id s = if nat_le (length s) 65535 then Ok s else Err (OutOfRange id)

unfoldable pub path_at : ℤ → Typed → Result (List ℕ) FieldFault
path_at id x = asked id (text_of (there (at id x))) >>= short_path id

abbrev pub truth_at : ℤ → Typed → Result Bool FieldFault
truth_at id x = asked id (truth_of (there (at id x)))

abbrev pub record_at : ℤ → Typed → Result Typed FieldFault
record_at id x = asked id (record_of (there (at id x)))

-- ---- what version 1 has no field for

-- what is read of the field with this id; or 0, where the record has no such field. A field that is null is there.
abbrev pub unless_absent : {A : Type 0} → A → (ℤ → Typed → Result A FieldFault) → ℤ → Typed → Result A FieldFault
unless_absent zero read id x = if is_none (type_at id (fields_in x.0)) then Ok zero else read id x

-- a whole number of 32 bits, 0 where there is no such field
unfoldable pub int_or_zero : ℤ → Typed → Result ℤ FieldFault
int_or_zero id x = unless_absent (pos 0) int_at id x

-- a sequence number, 0 where there is no such field
unfoldable pub number_or_zero : ℤ → Typed → Result ℕ FieldFault
number_or_zero id x = unless_absent 0 number_at id x

-- ---- what may be there

abbrev pub optional_long : ℤ → Typed → Option ℤ
optional_long id x = whole_of (there (at id x))

abbrev pub if_there : {A B : Type 0} → (A → Result B FieldFault) → Option A → Result (Option B) FieldFault
if_there read None = Ok None
if_there read (Some x) = read x >>= λ y. Ok (Some y)

unfoldable pub optional_int : ℤ → Typed → Result (Option ℤ) FieldFault
optional_int id x = if_there (within_32 id) (optional_long id x)

unfoldable pub optional_number : ℤ → Typed → Result (Option ℕ) FieldFault
optional_number id x = if_there (not_negative id) (optional_long id x)

abbrev pub optional_truth : ℤ → Typed → Option Bool
optional_truth id x = truth_of (there (at id x))

abbrev pub optional_text : ℤ → Typed → Option (List ℕ)
optional_text id x = text_of (there (at id x))

-- a path, of at most 65,535 bytes
unfoldable pub optional_path : ℤ → Typed → Result (Option (List ℕ)) FieldFault
optional_path id x = if_there (short_path id) (optional_text id x)

abbrev pub optional_binary : ℤ → Typed → Option (List ℕ)
optional_binary id x = binary_of (there (at id x))

-- an item of a list of whole numbers of 32 bits
unfoldable pub int_item : ℤ → Typed → Result ℤ FieldFault
int_item id y = asked id (whole_of (there (pick [] y))) >>= within_32 id

-- a list of whole numbers; none where there is no list
unfoldable pub ints_at : ℤ → ℤ → Typed → Result (List ℤ) FieldFault
ints_at id item x = each (int_item item) (items_of (there (at id x)))
