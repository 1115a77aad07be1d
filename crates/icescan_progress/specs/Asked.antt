-- What of a run is shown beside its answer, by its words and by whether standard error is a terminal; and whether its
-- words refuse links.
use Rattle.std.specs.Prelude.{ℕ, List, Bool, not, ◌&&◌, ◌||◌, codes}
use Rattle.std.specs.List.{list_any}
use Rattle.std.specs.Str.{bytes_eq}

-- whether a word is this one
abbrev pub has_word : List ℕ → List (List ℕ) → Bool
has_word wanted words = list_any (λ word. bytes_eq word wanted) words

-- whether a word is `--explain`
abbrev pub asks_hints : List (List ℕ) → Bool
asks_hints words = has_word (codes "--explain") words

-- whether what is read is shown: on a terminal, unless a word is `--quiet`
abbrev pub shows_progress : Bool → List (List ℕ) → Bool
shows_progress errors_is_terminal words = errors_is_terminal && not (has_word (codes "--quiet") words)

-- whether faults have hints
abbrev pub hints : Bool → List (List ℕ) → Bool
hints errors_is_terminal words = errors_is_terminal || asks_hints words

-- whether links below a folder are refused
abbrev pub refuses_links : List (List ℕ) → Bool
refuses_links words = has_word (codes "--no-links") words
