-- Fronts of data, and files that open.
use Rattle.std.specs.Prelude.{◌≡◌, ℕ, List, ◌++◌, Ok}
use Rattle.avro_schema.specs.Tree.{Tree}
use Rattle.avro_file.specs.Value.{Value}
use Rattle.avro_file.specs.Files.{opened_at, Opened}

-- these data come first among those
abbrev pub IsFrontOf : List Value → List Value → Type 0
IsFrontOf ws vs = (others : List Value) × (vs ≡ ws ++ others)

-- the bytes open as a file of this schema
abbrev pub Opens : Tree → List ℕ → Type 0
Opens s bytes = (o : Opened) × (opened_at bytes ≡ Ok o) × (o.schema ≡ s)
