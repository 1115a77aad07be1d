-- The program's own line of a file that a table reaches, and the text of such lines. (10 is the line feed.)
use Rattle.std.specs.Prelude.{ℕ, Bool, List, [], ◌∷◌, ◌++◌, codes}
use Rattle.std.specs.Cmp.Lexicographic.{slice_cmp}
use Rattle.std.specs.List.{dedup, flat_map}
use Rattle.std.specs.Ordering.{is_lt, nat_cmp}
use Rattle.std.specs.Str.{bytes_eq}
use Rattle.contract_words.specs.Sorting.{sorted}
use Rattle.ice_manifest_reading.specs.declared.entry.Entry.{Entry}
use Rattle.ice_value.specs.declared.file_content.FileContent.{FileContent}
use Rattle.ice_value.specs.declared.file_content.FileContent.TheVariants as holds
use Rattle.icescan_print.specs.Pieces.{named_path}
use Rattle.icescan_reachable.specs.declared.kind.FileKind.{FileKind}
use Rattle.icescan_reachable.specs.declared.kind.FileKind.TheVariants as kind

-- what a file is to the table
abbrev pub kind_word : FileKind → List ℕ
kind_word kind.Metadata = codes "metadata "
kind_word kind.List = codes "list "
kind_word kind.Manifest = codes "manifest "
kind_word kind.Data = codes "data "
kind_word kind.Delete = codes "delete "
kind_word kind.Statistics = codes "statistics "

-- the line of a file: what it is to the table, and its path, escaped
abbrev pub line : FileKind → List ℕ → List ℕ
line kind path = named_path (kind_word kind) path ++ 10 ∷ []

-- what a data file or delete file is
abbrev pub kind_of : FileContent → FileKind
kind_of holds.Data = kind.Data
kind_of holds.PositionDeletes = kind.Delete
kind_of holds.EqualityDeletes = kind.Delete

-- the line of an entry's file
abbrev pub entry_line : Entry → List ℕ
entry_line entry = line (kind_of entry.file.content) entry.file.path

-- lines in the order of their bytes, equal ones once
abbrev pub line_before : List ℕ → List ℕ → Bool
line_before a b = is_lt (slice_cmp nat_cmp a b)

abbrev pub once_in_order : List (List ℕ) → List (List ℕ)
once_in_order lines = dedup bytes_eq (sorted line_before lines)

abbrev pub lines_text : List (List ℕ) → List ℕ
lines_text lines = flat_map (λ text. text) lines
