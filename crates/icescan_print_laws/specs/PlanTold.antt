-- What the text of a plan tells a reader, who takes it line by line, and each line word by word. (10 is the line feed,
-- 32 the space, 44 the comma.)
use Rattle.std.specs.Prelude.{◌≡◌, ℕ, ℤ, ◌<◌, ◌^◌, true, ◌==◌, List, [], ◌∷◌, codes, map, if◌then◌else◌}
use Rattle.std.specs.List.{AllByRecursion, slice_split}
use Rattle.std.specs.Option.{unwrap_or}
use Rattle.std.specs.Str.{bytes_eq}
use Rattle.std.specs.Str.Parse.{digits_value, signed_digits_value}
use Rattle.ice_value.specs.Bounds.{fits_long}
use Rattle.ice_manifest_reading.specs.declared.entry.Entry.{Entry}
use Rattle.ice_state.specs.Lines.{OwnedLine}
use Rattle.icescan_print.specs.Escaping.{unescaped}

-- what the line of a data file tells
pub record ToldFile : Type 0 where
  pub path : List ℕ
  pub sequence_number : ℕ
  pub spec_id : ℤ
  pub record_count : ℤ
  pub file_size : ℤ

-- what the line of a position delete file tells
pub record ToldPosition : Type 0 where
  pub path : List ℕ
  pub sequence_number : ℕ

-- what the line of an equality delete file tells
pub record ToldEquality : Type 0 where
  pub path : List ℕ
  pub sequence_number : ℕ
  pub equality_ids : List ℤ

-- a data file, and the delete files in the lines below it, in their order
pub record ToldLine : Type 0 where
  pub file : ToldFile
  pub positions : List ToldPosition
  pub equalities : List ToldEquality

-- what some lines tell: the delete files before the first data file, and the data files
pub record Told : Type 0 where
  pub positions : List ToldPosition
  pub equalities : List ToldEquality
  pub lines : List ToldLine

-- the parts between bytes c
abbrev pub parts : ℕ → List ℕ → List (List ℕ)
parts c text = slice_split (λ b. b == c) text

-- the path that a word shows
abbrev pub path_told : List ℕ → List ℕ
path_told word = unwrap_or (unescaped word) []

-- the ids that a word lists, where `-` lists none
abbrev pub ids_told : List ℕ → List ℤ
ids_told word = if bytes_eq word (codes "-") then [] else map (signed_digits_value 10) (parts 44 word)

-- a line's words, before what the lines below it tell: ten words are a data file's; six are a position delete file's,
-- and eight an equality delete file's, the first two of them empty, as the line begins with two spaces. Others tell
-- nothing.
abbrev pub told_before : List (List ℕ) → Told → Told
told_before (_ ∷ path ∷ _ ∷ number ∷ _ ∷ spec ∷ _ ∷ rows ∷ _ ∷ size ∷ []) below = record {
  positions = [];
  equalities = [];
  lines = record {
    file = record {
      path = path_told path;
      sequence_number = digits_value 10 number;
      spec_id = signed_digits_value 10 spec;
      record_count = signed_digits_value 10 rows;
      file_size = signed_digits_value 10 size;
    };
    positions = below.positions;
    equalities = below.equalities;
  } ∷ below.lines;
}
told_before (_ ∷ _ ∷ _ ∷ path ∷ _ ∷ number ∷ []) below = record below {
  positions = record { path = path_told path; sequence_number = digits_value 10 number } ∷ below.positions;
}
told_before (_ ∷ _ ∷ _ ∷ path ∷ _ ∷ number ∷ _ ∷ ids ∷ []) below = record below {
  equalities = record {
    path = path_told path;
    sequence_number = digits_value 10 number;
    equality_ids = ids_told ids;
  } ∷ below.equalities;
}
told_before _ below = below

-- what these lines tell
abbrev pub told_of : List (List ℕ) → Told
told_of [] = record { positions = []; equalities = []; lines = [] }
told_of (line ∷ lines) = told_before (parts 32 line) (told_of lines)

-- what a whole text tells
abbrev pub told : List ℕ → List ToldLine
told text = (told_of (parts 10 text)).lines

-- ---- the same of a plan

abbrev pub file_of : Entry → ToldFile
file_of x = record {
  path = x.file.path;
  sequence_number = x.sequence_number;
  spec_id = x.spec_id;
  record_count = x.file.record_count;
  file_size = x.file.file_size;
}

abbrev pub position_of : Entry → ToldPosition
position_of d = record { path = d.file.path; sequence_number = d.sequence_number }

abbrev pub equality_of : Entry → ToldEquality
equality_of d = record {
  path = d.file.path;
  sequence_number = d.sequence_number;
  equality_ids = d.file.equality_ids;
}

abbrev pub line_of : OwnedLine → ToldLine
line_of l = record {
  file = file_of l.file;
  positions = map position_of l.positions;
  equalities = map equality_of l.equalities;
}

-- The numbers of a plan fit 64 bits, as those of the program's entries do by their types.
pub record FitsEntry (x : Entry) : Type 0 where
  pub number : x.sequence_number < 2 ^ 64
  pub spec : fits_long x.spec_id ≡ true
  pub size : fits_long x.file.file_size ≡ true
  pub rows : fits_long x.file.record_count ≡ true
  pub ids : AllByRecursion (λ id. fits_long id ≡ true) x.file.equality_ids

pub record FitsLine (l : OwnedLine) : Type 0 where
  pub file : FitsEntry l.file
  pub positions : AllByRecursion FitsEntry l.positions
  pub equalities : AllByRecursion FitsEntry l.equalities
