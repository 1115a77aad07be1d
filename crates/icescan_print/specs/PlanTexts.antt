-- The program's own text of a plan. (10 is the line feed, 44 the comma.)
use Rattle.std.specs.Prelude.{ℕ, ℤ, ◌+◌, List, [], ◌∷◌, ◌++◌, length, sum_by, codes}
use Rattle.std.specs.List.{flat_map}
use Rattle.std.specs.Fmt.{signed_decimal}
use Rattle.ice_manifest_reading.specs.declared.entry.Entry.{Entry}
use Rattle.ice_state.specs.Lines.{OwnedLine}
use Rattle.icescan_print.specs.Pieces.{named_path, named_signed, named_number}

-- ids with commas between them, or `-`
abbrev pub ids_text : List ℤ → List ℕ
ids_text [] = codes "-"
ids_text (id ∷ ids) = signed_decimal id ++ flat_map (λ i. 44 ∷ signed_decimal i) ids

-- a file's path and sequence number
abbrev pub numbered_path : List ℕ → Entry → List ℕ
numbered_path name x = named_path name x.file.path ++ named_number (codes " seq ") x.sequence_number

-- how many rows and bytes it has
abbrev pub size_text : Entry → List ℕ
size_text x = named_signed (codes " rows ") x.file.record_count ++ named_signed (codes " size ") x.file.file_size

-- what stands behind the path in the line of a data file
abbrev pub file_end : Entry → List ℕ
file_end x = named_number (codes " seq ") x.sequence_number ++ (named_signed (codes " spec ") x.spec_id
    ++ (named_signed (codes " rows ") x.file.record_count ++ (named_signed (codes " size ") x.file.file_size
    ++ 10 ∷ [])))

-- the line of a data file
unfoldable pub file_text : Entry → List ℕ
file_text x = numbered_path (codes "data ") x ++ (named_signed (codes " spec ") x.spec_id ++ (size_text x ++ 10 ∷ []))

-- the line of a position delete file
unfoldable pub position_text : Entry → List ℕ
position_text d = numbered_path (codes "  pos ") d ++ 10 ∷ []

-- the line of an equality delete file
unfoldable pub equality_text : Entry → List ℕ
equality_text d = numbered_path (codes "  eq ") d ++ (codes " ids " ++ (ids_text d.file.equality_ids ++ 10 ∷ []))

-- the lines of the delete files that apply to a data file
abbrev pub deletes_text : OwnedLine → List ℕ
deletes_text l = flat_map position_text l.positions ++ flat_map equality_text l.equalities

-- a data file, and below it the delete files that apply to it
unfoldable pub line_text : OwnedLine → List ℕ
line_text l = file_text l.file ++ deletes_text l

-- how many lines of delete files it has
abbrev pub deletes_of : OwnedLine → ℕ
deletes_of l = length l.positions + length l.equalities

-- the last line: how many data files, and how many lines of delete files
unfoldable pub totals_text : List OwnedLine → List ℕ
totals_text plan = named_number (codes "files ") (length plan)
    ++ (named_number (codes " deletes ") (sum_by deletes_of plan) ++ 10 ∷ [])

-- the data files, and then the last line
unfoldable pub plan_text : List OwnedLine → List ℕ
plan_text plan = flat_map line_text plan ++ totals_text plan
