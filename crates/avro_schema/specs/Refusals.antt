-- Which schemas are refused, and which faults are answered for them, by what holds of their JSON.
use Rattle.std.specs.Prelude.{◌≡◌, ℕ, List, Ok, Err}
use Rattle.serde_json.specs.Data.{Data}
use Rattle.avro_schema.specs.declared.fault.SchemaFault.{SchemaFault}
use Rattle.avro_schema.specs.Tree.{Tree}
use Rattle.avro_schema.specs.Texts.{json_of, schema_of}

-- no schema of which this holds is accepted
abbrev pub IsRefused : (Data → Type 0) → Type 0
IsRefused Has = (text : List ℕ) (d : Data) (t : Tree) → json_of text ≡ Ok d → Has d → schema_of text ≡ Ok t → ⊥

-- the fault is answered for schemas of which this holds, and for no others
abbrev pub IsOnlyFor : SchemaFault → (Data → Type 0) → Type 0
IsOnlyFor fault Has = (text : List ℕ) (d : Data) → json_of text ≡ Ok d → schema_of text ≡ Err fault → Has d
