-- Paths of live files that another live file has too, in the same spelling or in another.
use Rattle.std.specs.Prelude.{ℕ, Bool, List, [], ◌∷◌, ◌++◌, map, Some, unwrap_or, if◌then◌else◌}
use Rattle.std.specs.Cmp.Lexicographic.{slice_cmp}
use Rattle.std.specs.Ordering.{nat_cmp, is_lt}
use Rattle.std.specs.Str.{bytes_eq}
use Rattle.contract_words.specs.Sorting.{sorted}
use Rattle.ice_manifest_reading.specs.declared.entry.Entry.{Entry}
use Rattle.ice_manifest_reading.specs.declared.entry.Live.{Live}
use Rattle.ice_manifest_reading.specs.declared.row.Row.{Row}
use Rattle.icescan_audit_findings.specs.declared.basis.Basis.{Basis}
use Rattle.icescan_audit_findings.specs.declared.finding.Finding.{Finding}
use Rattle.icescan_audit_findings.specs.declared.finding.Flaw.TheVariants.{LiveTwice}
use Rattle.icescan_audit_findings.specs.declared.repeats.LiveFile.{LiveFile}
use Rattle.icescan_audit_findings.specs.Keys.{key_of}
use Rattle.icescan_audit_findings.specs.Spelling.{odd_spelling}

-- the file of a live entry of a row's manifest
abbrev pub live_file : Basis → Row → Entry → LiveFile
live_file basis row x = record {
  path = x.file.path;
  spelling = odd_spelling x.file.path;
  manifest = row.path;
  content = x.file.content;
  record_count = x.file.record_count;
  file_size = x.file.file_size;
  key = key_of basis x;
}

abbrev pub live_files : Basis → Row → List Live → List LiveFile
live_files basis row lives = map (λ (l : Live). live_file basis row l.entry) lives

-- the spelling of its path by which it is told from others
abbrev pub spelling_of : LiveFile → List ℕ
spelling_of x = unwrap_or x.spelling x.path

-- by their paths
abbrev pub path_before : LiveFile → LiveFile → Bool
path_before a b = is_lt (slice_cmp nat_cmp (spelling_of a) (spelling_of b))

-- two files have one path, in one spelling or in two
abbrev pub has_path_of : LiveFile → LiveFile → Bool
has_path_of a b = bytes_eq (spelling_of a) (spelling_of b)

-- the finding that a file has the path of another
abbrev pub repeat_of : LiveFile → Finding
repeat_of x = record { manifest = x.manifest; file = Some x.path; flaw = LiveTwice }

abbrev pub repeat_where : Bool → LiveFile → List Finding
repeat_where found x = if found then repeat_of x ∷ [] else []

-- of files by path: those that have the path of the one before
abbrev pub repeats_behind : LiveFile → List LiveFile → List Finding
repeats_behind x [] = []
repeats_behind x (y ∷ ys) = repeat_where (has_path_of x y) y ++ repeats_behind y ys

abbrev pub repeats_in : List LiveFile → List Finding
repeats_in [] = []
repeats_in (x ∷ xs) = repeats_behind x xs

-- the files that have the path of another, in the order of their paths, but the first of each path
abbrev pub repeats : List LiveFile → List Finding
repeats files = repeats_in (sorted path_before files)
