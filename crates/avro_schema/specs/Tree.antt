-- Schemas as trees, without where they lie in memory. Avro 1.11.1, "Schema Declaration".
use Rattle.std.specs.Prelude.{ℕ, ℤ, Option}
use Rattle.avro_schema.specs.declared.schema.ArrayKind.{ArrayKind}
use Rattle.avro_schema.specs.declared.schema.BytesKind.{BytesKind}

mutual
  pub data Tree : Type 0 where
    null : Tree
    boolean : Tree
    int : Tree
    long : Tree
    float : Tree
    double : Tree
    octets : BytesKind → Tree
    string : Tree
    fixed : ℕ → BytesKind → Tree
    symbols : ℕ → Tree
    structure : Fields → Tree
    array : Tree → Option ℤ → ArrayKind → Tree
    map : Tree → Tree
    union : Branches → Tree
    deriving IsSet as Tree-set

  pub data Fields : Type 0 where
    no_fields : Fields
    field : Option ℤ → Tree → Fields → Fields
    deriving IsSet as Fields-set

  pub data Branches : Type 0 where
    no_branches : Branches
    branch : Tree → Branches → Branches
    deriving IsSet as Branches-set
