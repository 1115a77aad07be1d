-- A reader of objects that stands before one.
-- Avro 1.11.1 specification, 'Object Container Files': a block is a count of objects, their size, and the objects.
use Rattle.std.specs.Prelude.{◌≡◌, ◌≢◌, ℕ, List, Option, Some, None, Result, Ok, Err}
use denote.Ref.{Bor}
use Rattle.avro_file.specs.declared.fault.AvroFault.{AvroFault}
use Rattle.avro_file.specs.declared.container.Objects.{Objects}
use Rattle.avro_file.specs.Reading.{datum_at}
use Rattle.avro_file.specs.Ending.{EndsCounted}
use Rattle.avro_file.specs.Blocks.{max_items}
use Rattle.avro_file.specs.Files.{ahead, type_of, Next}

-- it stands before an object, which begins at the front of these bytes
abbrev pub StandsBefore : Objects → List ℕ → Type 0
StandsBefore o bytes = (o.refused ≡ None) × (o.spot.count ≢ 0) × (o.spot.block.now ≡ bytes)

-- the object there ends at this place of its bytes
abbrev pub EndsAtFront : Objects → ℕ → Type 0
EndsAtFront o end = (bytes : List ℕ) × (left : ℕ) × StandsBefore o bytes
    × EndsCounted (datum_at (type_of o)) bytes 0 max_items end left

-- It goes to the next object, and what is to come stays the same; or it is at the end, or refuses, as next does.
abbrev pub Front : Objects → Result (Option (Bor (List ℕ))) AvroFault → Objects → Type 0
Front old (Ok (Some bytes)) new = StandsBefore new bytes.now × (ahead new ≡ ahead old)
Front old (Ok None) new = Next {X = Unit {0}} (λ x v. ⊥) (ahead old) (Ok None) (ahead new)
Front old (Err e) new = Next {X = Unit {0}} (λ x v. ⊥) (ahead old) (Err e) (ahead new)
