use Rattle.std.proofs.Common.{◌≡◌, ◌≤◌, ◌-◌, ℕ, List, [], length}
use Rattle.avro_schema.specs.Tree.{long}
use Rattle.avro_file.specs.Value.{Value}
use Rattle.avro_file.specs.Ending.{standing}
use Rattle.avro_file.specs.Reading.{with_front, values_at, datum_at}
use Rattle.avro_file.specs.Pairs.{pair}
use Rattle.avro_file.proofs.quick.each_long_pair_end.Given as goal

-- the front is what was passed before
abbrev pub invariant-items : goal.invariant-items
invariant-items l =
    (l.here ≤ length l.bytes)
    × ((left : ℕ) → (front : List Value) × (with_front front (values_at (datum_at (pair long)) (l.count - l.counter)
    (standing l.bytes l.here left)) ≡ with_front [] (values_at (datum_at (pair long)) l.count
    (standing l.bytes l.at left))))
