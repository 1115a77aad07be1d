-- What the code's values are.
use Rattle.std.specs.Prelude.{List, Result, Ok, Err}
use Rattle.avro_schema.specs.declared.schema.Field.{Field}
use Rattle.avro_schema.specs.Tree.{Fields}
use Rattle.avro_schema.specs.View.{parts, fields_of}

abbrev pub result_map : {A B E : Type 0} → (A → B) → Result A E → Result B E
result_map f (Ok x) = Ok (f x)
result_map f (Err e) = Err e

-- the fields of a record
abbrev pub fields_seen : List Field → Fields
fields_seen fs = fields_of (parts fs)
