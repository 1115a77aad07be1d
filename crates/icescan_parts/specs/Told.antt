-- What the line of a file tells, and lines in a form: as they stand, or an object of JSON a line.
use Rattle.std.specs.Prelude.{ℕ, ◌-◌, List, [], ◌∷◌, codes, if◌then◌else◌, length, take, unwrap_or}
use Rattle.std.specs.List.{flat_map}
use Rattle.serde_json.specs.Data.{Data, string}
use Rattle.icescan_forms.specs.Objects.{object_line}
use Rattle.icescan_forms.specs.declared.format.Format.{Format}
use Rattle.icescan_forms.specs.declared.format.Format.TheVariants as format
use Rattle.icescan_parts.specs.Alone.{is_space, path_of}
use Rattle.icescan_print.specs.Escaping.{unescaped}
use Rattle.icescan_reachable.specs.Lines.{lines_text}

-- a text without its last byte, which in a line is the line feed
abbrev pub front_of : List ℕ → List ℕ
front_of text = take (length text - 1) text

-- the path in a line, read back
abbrev pub path_told : List ℕ → List ℕ
path_told line = unwrap_or (unescaped (front_of (path_of line))) (front_of (path_of line))

-- what stands in a line before its first space: the word for what the file is
abbrev pub word_told : List ℕ → List ℕ
word_told [] = []
word_told (byte ∷ rest) = if is_space byte then [] else byte ∷ word_told rest

-- the object of a file: the word for what it is, and its path
abbrev pub file_members : List ℕ → List ℕ → List (List ℕ × Data)
file_members word path = (codes "kind", string word) ∷ (codes "path", string path) ∷ []

unfoldable pub file_object : List ℕ → List ℕ
file_object line = object_line (file_members (word_told line) (path_told line))

abbrev pub file_objects : List (List ℕ) → List ℕ
file_objects lines = flat_map file_object lines

-- lines in a form
abbrev pub lines_in : Format → List (List ℕ) → List ℕ
lines_in format.Text lines = lines_text lines
lines_in format.Json lines = file_objects lines
