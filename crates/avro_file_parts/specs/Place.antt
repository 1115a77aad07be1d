-- What the value reader's own place shows (Avro 1.11.1 specification, 'Binary Encoding').
use Rattle.avro_file_parts.specs.declared.place.Place.{Place}
use Rattle.avro_file_parts.specs.Parts.{Position}

abbrev pub position_of : Place → Position
position_of p = record { bytes = p.bytes.now; left = p.left }
