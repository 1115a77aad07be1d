-- Which of a folder's metadata files is the newest.
use Rattle.std.specs.Prelude.{◌≡◌, ℕ, ◌+◌, ◌==◌, ◌≤◌, Bool, true, false, List, [], ◌∷◌, filter, Option, Some, None}
use Rattle.std.specs.Prelude.{Result, Ok, Err, if◌then◌else◌, nat_lt, option_map}
use Rattle.std.specs.List.{All, list_any}
use Rattle.ice_meta_files.specs.MetadataNames.{metadata_name}
use Rattle.ice_meta_files.specs.declared.newest_fault.NewestFault.{NewestFault}
use Rattle.ice_meta_files.specs.declared.newest_fault.NewestFault.TheVariants as fault
use Rattle.ice_meta_files.specs.declared.names.MetadataName.{MetadataName}

-- the number in the name of a metadata file
abbrev pub number_in : List ℕ → Option ℕ
number_in name = option_map (λ (m : MetadataName). m.number) (metadata_name name)

abbrev pub is_number : ℕ → Option ℕ → Bool
is_number number None = false
is_number number (Some n) = n == number

-- a metadata file of this number
abbrev pub has_number : ℕ → List ℕ → Bool
has_number number name = is_number number (number_in name)

-- the larger of two numbers that may be there
abbrev pub larger : Option ℕ → Option ℕ → Option ℕ
larger None n = n
larger (Some m) None = Some m
larger (Some m) (Some n) = if nat_lt m n then Some n else Some m

abbrev pub highest_from : Option ℕ → List (List ℕ) → Option ℕ
highest_from best [] = best
highest_from best (name ∷ names) = highest_from (larger best (number_in name)) names

-- the highest number of a metadata file
abbrev pub highest : List (List ℕ) → Option ℕ
highest names = highest_from None names

-- the next number, where there is a metadata file of it
abbrev pub next_number : List (List ℕ) → ℕ → ℕ
next_number names number = if list_any (has_number (number + 1)) names then number + 1 else number

-- the last of the numbers that follow one another from this one on, after at most so many steps as there are turns
abbrev pub climbed : List (List ℕ) → List (List ℕ) → ℕ → ℕ
climbed names [] number = number
climbed names (turn ∷ turns) number = climbed names turns (next_number names number)

-- The number of the newest file: where a hint names a number that is there, the last of those that follow it one by
-- one, as the table's own writers find it; else the highest.
abbrev pub hinted : List (List ℕ) → Option ℕ → Option ℕ
hinted names None = highest names
hinted names (Some hint) =
    if list_any (has_number hint) names then Some (climbed names names hint) else highest names

-- a metadata file whose bytes are compressed
abbrev pub is_compressed : Option MetadataName → Bool
is_compressed None = false
is_compressed (Some m) = m.is_compressed

abbrev pub readable : List ℕ → Result (List ℕ) NewestFault
readable name = if is_compressed (metadata_name name) then Err (fault.Compressed name) else Ok name

-- the one name of a number, where its file can be read
abbrev pub only_name : List (List ℕ) → Result (List ℕ) NewestFault
only_name [] = Err fault.NoMetadata
only_name (name ∷ []) = readable name
only_name (name ∷ other ∷ names) = Err (fault.TwoOfOneNumber name other)

abbrev pub of_number : List (List ℕ) → Option ℕ → Result (List ℕ) NewestFault
of_number names None = Err fault.NoMetadata
of_number names (Some number) = only_name (filter (has_number number) names)

-- the name of the newest metadata file among a folder's names, by what the hint says
abbrev pub newest : List (List ℕ) → Option ℕ → Result (List ℕ) NewestFault
newest names hint = of_number names (hinted names hint)

-- ---- without a hint

-- a number that may be there is no higher
abbrev pub AtMost : ℕ → Option ℕ → Type 0
AtMost most None = Unit {0}
AtMost most (Some n) = n ≤ most

-- The name is that of a metadata file, it stands once among the names, and no metadata file has the same number or a
-- higher one.
pub record IsHighest (names : List (List ℕ)) (name : List ℕ) : Type 0 where
  pub number : ℕ
  pub has : number_in name ≡ Some number
  pub alone : filter (has_number number) names ≡ name ∷ []
  pub highest : All (λ other. AtMost number (number_in other)) names

abbrev pub IsHighestIf : List (List ℕ) → Option ℕ → List ℕ → Type 0
IsHighestIf names None name = IsHighest names name
IsHighestIf names (Some hint) name = Unit {0}

-- ---- with a hint

-- The name is that of a metadata file, it stands once among the names, and its number is the last of those that follow
-- the hint's one by one: from the hint's on each number is there, and the next one is not.
pub record IsLastFrom (hint : ℕ) (names : List (List ℕ)) (name : List ℕ) : Type 0 where
  pub number : ℕ
  pub has : number_in name ≡ Some number
  pub alone : filter (has_number number) names ≡ name ∷ []
  pub reached : hint ≤ number
  pub each : (n : ℕ) → hint ≤ n → n ≤ number → list_any (has_number n) names ≡ true
  pub no_next : list_any (has_number (number + 1)) names ≡ false

-- where the hint's number is there, the name is the last from it on; else it has the highest number
abbrev pub IsByHint : List (List ℕ) → Option ℕ → List ℕ → Type 0
IsByHint names None name = IsHighest names name
IsByHint names (Some hint) name = (list_any (has_number hint) names ≡ true → IsLastFrom hint names name)
    × (list_any (has_number hint) names ≡ false → IsHighest names name)
