-- What is said of data files, as parts of a section: content, format, paths, partition values and column ids.
use Rattle.std.specs.Prelude.{ℕ, ◌-◌, List, [], ◌++◌, length, take, drop, true, false, ◌&&◌, Option, Some, None}
use Rattle.std.specs.Prelude.{Ok, Err, nat_le, ◌==◌, if◌then◌else◌}
use Rattle.std.specs.Prelude.{ℤ}
use Rattle.contract_words.specs.Outcome.{◌>>=◌}
use Rattle.ice_value.specs.declared.cell.Cell.{Cell}
use Rattle.ice_value.specs.declared.cell.Cell.TheVariants.{Null, Bool as Flag, Whole, Text, Bytes}
use Rattle.ice_value.specs.declared.file_content.FileContent.{FileContent}
use Rattle.ice_value.specs.declared.file_content.FileContent.TheVariants as holds
use Rattle.ice_value.specs.declared.file_format.FileFormat.{FileFormat}
use Rattle.ice_value.specs.declared.file_format.FileFormat.TheVariants as written
use Rattle.ice_state_sections.specs.declared.section_fault.SectionFault.TheVariants.{NoSection}
use Rattle.ice_state_sections.specs.Parts.{Read, made, number, long, int, run, text, behind}

-- what a file holds
abbrev pub content_of : ℕ → List ℕ → Read FileContent
content_of code rest =
    if code == 0 then Ok (holds.Data, rest) else (
    if code == 1 then Ok (holds.PositionDeletes, rest) else (
    if code == 2 then Ok (holds.EqualityDeletes, rest) else Err NoSection
    ))

unfoldable pub content : List ℕ → Read FileContent
content bytes = number bytes >>= λ code. content_of code.0 code.1

-- the format of a file, where it is known
abbrev pub format_of : ℕ → List ℕ → Read (Option FileFormat)
format_of code rest =
    if code == 0 then Ok (None, rest) else (
    if code == 1 then Ok (Some written.Avro, rest) else (
    if code == 2 then Ok (Some written.Orc, rest) else (
    if code == 3 then Ok (Some written.Parquet, rest) else Err NoSection
    )))

unfoldable pub format : List ℕ → Read (Option FileFormat)
format bytes = number bytes >>= λ code. format_of code.0 code.1

-- a path: how many of its first and of its last bytes are those of a path that is known, and the bytes between
unfoldable pub path : List ℕ → List ℕ → Read (List ℕ)
path known bytes = do
  front ← number bytes
  back ← number front.1
  own ← run back.1
  if nat_le front.0 (length known) && nat_le back.0 (length known)
      then Ok (take front.0 known ++ own.0 ++ drop (length known - back.0) known, own.1) else Err NoSection

-- a partition value
abbrev pub cell_of : ℕ → List ℕ → Read Cell
cell_of code rest =
    if code == 0 then Ok (Null, rest) else (
    if code == 1 then Ok (Flag false, rest) else (
    if code == 2 then Ok (Flag true, rest) else (
    if code == 3 then made Whole (long rest) else (
    if code == 4 then made Text (text rest) else (
    if code == 5 then made Bytes (run rest) else Err NoSection
    )))))

unfoldable pub cell : List ℕ → Read Cell
cell bytes = number bytes >>= λ code. cell_of code.0 code.1

-- so many partition values
abbrev pub cells : ℕ → List ℕ → Read (List Cell)
cells count bytes = behind (λ _. cell) count [] bytes

-- how many column ids, and these
unfoldable pub ids : List ℕ → Read (List ℤ)
ids bytes = do
  count ← number bytes
  behind (λ _. int) count.0 [] count.1
