-- When two plans tell the same of a file.
use Rattle.std.specs.Prelude.{Bool, ◌==◌, ◌&&◌}
use Rattle.std.specs.Cmp.Lexicographic.{pointwise}
use Rattle.std.specs.Option.{option_eq}
use Rattle.std.specs.Ordering.{int_eq}
use Rattle.std.specs.Str.{bytes_eq}
use Rattle.ice_manifest_reading.specs.declared.entry.Entry.{Entry}
use Rattle.ice_value.specs.Cells.{same_tuple}

-- one path, one partition spec, and the same partition values
abbrev pub same_place : Entry → Entry → Bool
same_place x y = bytes_eq x.file.path y.file.path && int_eq x.spec_id y.spec_id && same_tuple x.file.tuple y.file.tuple

-- as many rows and as many bytes
abbrev pub same_size : Entry → Entry → Bool
same_size x y = int_eq x.file.record_count y.file.record_count && int_eq x.file.file_size y.file.file_size

-- of delete files: the same columns by which they delete, and the same data file that they name, if any
abbrev pub same_ids : Entry → Entry → Bool
same_ids x y = pointwise int_eq x.file.equality_ids y.file.equality_ids
    && option_eq bytes_eq x.file.referenced y.file.referenced

-- The same file: one sequence number, and the rest as above. Where its manifest has it does not count, as manifests are
-- rewritten while their files stay.
abbrev pub same_file : Entry → Entry → Bool
same_file x y = (x.sequence_number == y.sequence_number) && same_place x y && same_size x y && same_ids x y
