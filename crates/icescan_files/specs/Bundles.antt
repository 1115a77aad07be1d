-- A bundle: files that are handed over in one text, a line each: the path, escaped, one space, and the bytes as
-- hexadecimal digits.
use Rattle.std.specs.Prelude.{◌≡◌, ◌⊎◌, IfSome}
use Rattle.std.specs.Prelude.{ℕ, ◌+◌, ◌*◌, ◌==◌, List, [], ◌∷◌, ◌++◌, take, drop, position, Option, Some, None, is_some}
use Rattle.std.specs.Prelude.{option_and_then, Result, Ok, Err, if◌then◌else◌}
use Rattle.std.specs.Result.{result_ok}
use Rattle.std.specs.Str.{bytes_eq, is_utf8}
use Rattle.hex.specs.Hex.{decode_of, hex_digit_value}
use Rattle.contract_words.specs.Outcome.{◌>>=◌}
use Rattle.icescan_print.specs.Escaping.{unescaped}
use Rattle.icescan_text.specs.declared.fault.RunFault.{RunFault}
use Rattle.icescan_text.specs.declared.fault.RunFault.TheVariants.{Bundle}
use Rattle.icescan_text.specs.declared.fault.RunFault.TheVariants as run

pub record File : Type 0 where
  pub path : List ℕ
  pub bytes : List ℕ

-- the bytes of the first file at a path
abbrev pub bytes_at : List File → List ℕ → Option (List ℕ)
bytes_at [] path = None
bytes_at (file ∷ files) path = if bytes_eq path file.path then Some file.bytes else bytes_at files path

-- the path of the first file
abbrev pub first_path : List File → Option (List ℕ)
first_path [] = None
first_path (file ∷ files) = Some file.path

-- the lines of a text; the last one may lack its line feed
abbrev pub before_line : ℕ → List (List ℕ) → List (List ℕ)
before_line b [] = (b ∷ []) ∷ []
before_line b (line ∷ lines) = (b ∷ line) ∷ lines

abbrev pub lines_of : List ℕ → List (List ℕ)
lines_of [] = []
lines_of (b ∷ bs) = if b == 10 then [] ∷ lines_of bs else before_line b (lines_of bs)

-- a path is a text
abbrev pub if_text : List ℕ → Option (List ℕ)
if_text path = if is_utf8 path then Some path else None

unfoldable pub path_of : List ℕ → Option (List ℕ)
path_of escaped = option_and_then if_text (unescaped escaped)

-- the byte of two digits, by what each of them has as its value
abbrev pub byte_with : Option ℕ → Option ℕ → Option ℕ
byte_with None low = None
byte_with (Some high) None = None
byte_with (Some high) (Some low) = Some (high * 16 + low)

abbrev pub byte_of : ℕ → ℕ → Option ℕ
byte_of high low = byte_with (hex_digit_value high) (hex_digit_value low)

unfoldable pub bytes_of : List ℕ → Option (List ℕ)
bytes_of digits = result_ok (decode_of digits)

-- the file of a line that has one: what stands before its first space, and what stands behind it
abbrev pub file_with : Option (List ℕ) → Option (List ℕ) → Option File
file_with None bytes = None
file_with (Some path) None = None
file_with (Some path) (Some bytes) = Some (record { path = path; bytes = bytes })

abbrev pub file_split : Option ℕ → List ℕ → Option File
file_split None line = None
file_split (Some at) line = file_with (path_of (take at line)) (bytes_of (drop (at + 1) line))

unfoldable pub file_of : List ℕ → Option File
file_of line = file_split (position (λ b. b == 32) line) line

-- the files, with that of line n behind them: it has to be one, and at a new path
abbrev pub added : ℕ → List File → Option File → Result (List File) RunFault
added n files None = Err (Bundle n)
added n files (Some file) = if is_some (bytes_at files file.path) then Err (Bundle n) else Ok (files ++ file ∷ [])

-- the files, with those of the lines from line n on behind them
unfoldable pub with_lines : ℕ → List File → List (List ℕ) → Result (List File) RunFault
with_lines n files [] = Ok files
with_lines n files (line ∷ lines) = added n files (file_of line) >>= λ more. with_lines (n + 1) more lines

-- the files, with those of a text behind them that goes on after so many lines
abbrev pub files_from : ℕ → List File → List ℕ → Result (List File) RunFault
files_from lines files text = with_lines (lines + 1) files (lines_of text)

-- the files of a bundle, or the first line that is none
abbrev pub bundle_of : List ℕ → Result (List File) RunFault
bundle_of text = with_lines 1 [] (lines_of text)

-- the text that was read: where a reader tells what it has left, that
abbrev pub IsInput : Option (List ℕ) → List ℕ → Type 0
IsInput left text = IfSome left (λ bytes. text ≡ bytes)

-- why standard input gives no bundle: it can't be read, memory ran out, or the text is none
abbrev pub NoBundle : List ℕ → RunFault → Type 0
NoBundle text fault = (fault ≡ run.Input) ⊎ ((fault ≡ run.Memory) ⊎ (bundle_of text ≡ Err fault))
