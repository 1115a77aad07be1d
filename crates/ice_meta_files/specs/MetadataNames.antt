-- The names of metadata files: `vN.metadata.json` of a table in a folder of its own, or `N.metadata.json`;
-- `N-ID.metadata.json` of a table that a catalog owns; and each of them compressed: `.gz.metadata.json`, once
-- `.metadata.json.gz`. N is written in decimal digits, below 2 ^ 31. (45 is the hyphen, 46 the dot, 118 the letter v.)
use Rattle.std.specs.Prelude.{ℕ, ◌==◌, ◌||◌, Bool, true, false, List, [], ◌∷◌, Option, Some, None, if◌then◌else◌, codes}
use Rattle.std.specs.Prelude.{nat_eq, option_and_then, option_map}
use Rattle.std.specs.List.{after_first, before_first, ends_with, list_any}
use Rattle.std.specs.Option.{option_or}
use Rattle.std.specs.Str.{bytes_eq}
use Rattle.ice_meta.specs.Types.{with_digit}
use Rattle.ice_meta_files.specs.declared.names.MetadataName.{MetadataName}

-- the number that digits write, after those of n
abbrev pub digits_from : ℕ → List ℕ → Option ℕ
digits_from n [] = Some n
digits_from n (b ∷ bs) = option_and_then (λ m. digits_from m bs) (with_digit n b)

abbrev pub number_of : List ℕ → Option ℕ
number_of [] = None
number_of (b ∷ bs) = digits_from 0 (b ∷ bs)

-- what stands before the first byte of this kind, and after it
abbrev pub is_byte : ℕ → ℕ → Bool
is_byte mark b = b == mark

pub record Parts : Type 0 where
  pub front : List ℕ
  pub rest : List ℕ

abbrev pub parts : List ℕ → List ℕ → Parts
parts front rest = record { front = front; rest = rest }

abbrev pub cut_at : ℕ → List ℕ → Option Parts
cut_at mark name = if list_any (is_byte mark) name
    then Some (parts (before_first (is_byte mark) name) (after_first (is_byte mark) name)) else None

-- whether a file is compressed, by the ending of its name
abbrev pub ending_of : List ℕ → Option Bool
ending_of rest =
    if ends_with nat_eq rest (codes ".gz.metadata.json") || ends_with nat_eq rest (codes ".metadata.json.gz")
    then Some true
    else if ends_with nat_eq rest (codes ".metadata.json") then Some false
    else None

-- the same, where nothing stands before the ending
abbrev pub whole_ending : List ℕ → Option Bool
whole_ending rest =
    if bytes_eq rest (codes "gz.metadata.json") || bytes_eq rest (codes "metadata.json.gz") then Some true
    else if bytes_eq rest (codes "metadata.json") then Some false
    else None

abbrev pub named : ℕ → Bool → MetadataName
named number compressed = record { number = number; is_compressed = compressed }

abbrev pub with_both : Option ℕ → Option Bool → Option MetadataName
with_both number compressed = option_and_then (λ n. option_map (named n) compressed) number

-- the number of digits, in front of which a v may stand
abbrev pub version_of : List ℕ → Option ℕ
version_of [] = None
version_of (b ∷ digits) = if b == 118 then number_of digits else number_of (b ∷ digits)

-- `vN.metadata.json` or `N.metadata.json`
abbrev pub version_name : List ℕ → Option MetadataName
version_name name = option_and_then (λ (p : Parts). with_both (version_of p.front) (whole_ending p.rest))
    (cut_at 46 name)

-- `N-ID.metadata.json`
abbrev pub catalog_name : List ℕ → Option MetadataName
catalog_name name = option_and_then (λ (p : Parts). with_both (number_of p.front) (ending_of p.rest)) (cut_at 45 name)

-- what the name of a metadata file says; of any other file it is none
abbrev pub metadata_name : List ℕ → Option MetadataName
metadata_name name = option_or (version_name name) (catalog_name name)
