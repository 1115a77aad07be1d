-- What the file reader's own types show: a header, and where a reader stands.
-- Avro 1.11.1 specification, 'Object Container Files'.
use Rattle.std.specs.Prelude.{ℕ, List, Option, Some, None}
use denote.Ref.{Bor}
use Rattle.avro_file.specs.declared.blocks.Spot.{Spot}
use Rattle.avro_file.specs.declared.header.Wanted as declared
use Rattle.avro_file.specs.declared.header.Header.{Header}
use Rattle.avro_file.specs.Blocks.{FilePosition}
use Rattle.avro_file.specs.Header.{Wanted, FileHeader}

abbrev pub file_position_of : Spot → FilePosition
file_position_of p = record { count = p.count; block = p.block.now; bytes = p.bytes.now }

abbrev pub now_of : Option (Bor (List ℕ)) → Option (List ℕ)
now_of (Some s) = Some s.now
now_of None = None

abbrev pub wanted_of : declared.Wanted → Wanted
wanted_of w = record { schema = now_of w.schema; codec = now_of w.codec }

abbrev pub header_of_file : Header → FileHeader
header_of_file h = record { wanted = wanted_of h.wanted; sync = h.sync.now; rest = h.rest.now }
