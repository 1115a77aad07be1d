-- Types whose values end alike.
use Rattle.std.specs.Prelude.{◌≡◌, ℕ}
use Rattle.avro_schema.specs.Tree.{Tree, Fields, Branches}
use Rattle.avro_file_parts.specs.Parts.{Position, behind}
use Rattle.avro_file.specs.Reading.{datum_at, fields_at, branch_at}

-- wherever they are read, values of both end at the same place with as many items left, or meet the same fault
abbrev pub EndAlike : Tree → Tree → Type 0
EndAlike s t = (p : Position) → behind (datum_at s p) ≡ behind (datum_at t p)

-- the same of the values of all fields
abbrev pub FieldsEndAlike : Fields → Fields → Type 0
FieldsEndAlike fs gs = (p : Position) → behind (fields_at fs p) ≡ behind (fields_at gs p)

-- the same of the values of each branch
abbrev pub BranchesEndAlike : Branches → Branches → Type 0
BranchesEndAlike bs cs = (n : ℕ) (p : Position) → behind (branch_at bs n p) ≡ behind (branch_at cs n p)
