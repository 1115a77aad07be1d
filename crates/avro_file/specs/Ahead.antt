-- What a reader of objects will give.
-- Avro 1.11.1 specification, 'Object Container Files': a file is a header and blocks of objects up to its end.
use Rattle.std.specs.Prelude.{ℕ, List, length, Option}
use Rattle.avro_file.specs.declared.fault.AvroFault.{AvroFault}
use Rattle.avro_file.specs.Value.{Value}

-- it will give these data, and then the fault, or none at the end of the file; or it has refused, and does so for good
pub data Ahead : Type 0 where
  running : List Value → Option AvroFault → Ahead
  refusing : AvroFault → Ahead

-- how many data are to come
unfoldable pub still_ahead : Ahead → ℕ
still_ahead (running vs ending) = length vs
still_ahead (refusing f) = 0
