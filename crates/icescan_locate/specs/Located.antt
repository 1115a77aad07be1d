-- The words by which other commands are told of a table in a folder: the folder, the location that the table's paths
-- begin with, and the path of its newest metadata. (0 is the NUL, 10 the line feed, 32 the space, 47 the slash.)
use Rattle.std.specs.Prelude.{◌≡◌, ◌⊎◌, ℕ, ◌==◌, List, [], ◌∷◌, ◌++◌, codes, Option, Some, None, Result, Ok, Err}
use Rattle.std.specs.Prelude.{if◌then◌else◌, nat_eq, option_and_then, position, take}
use Rattle.std.specs.List.{ends_with}
use Rattle.ice_desk.specs.Given.{Giving}
use Rattle.ice_meta.specs.Targets.{Described, metadata_of}
use Rattle.ice_meta_files.specs.MetadataNames.{number_of}
use Rattle.ice_meta_files.specs.Newest.{newest}
use Rattle.ice_meta_files.specs.declared.newest_fault.NewestFault.{NewestFault}
use Rattle.ice_meta_files.specs.declared.newest_fault.NewestFault.TheVariants as fault
use Rattle.icescan_print.specs.Written.{Appends}
use Rattle.icescan_text.specs.declared.request.Separator.{Separator}
use Rattle.icescan_text.specs.declared.request.Separator.TheVariants as separator

-- a name below a path; no second slash where the path ends with one
abbrev pub below : List ℕ → List ℕ → List ℕ
below path name = if ends_with nat_eq path (codes "/") then path ++ name else path ++ 47 ∷ name

-- the folder of a table's metadata files, the file of the hint, and the file of a name
abbrev pub metadata_folder : List ℕ → List ℕ
metadata_folder folder = below folder (codes "metadata")

abbrev pub hint_path : List ℕ → List ℕ
hint_path folder = below folder (codes "metadata/version-hint.text")

abbrev pub metadata_path : List ℕ → List ℕ → List ℕ
metadata_path folder name = below folder (codes "metadata/" ++ name)

-- the bytes before the first line feed, or all
abbrev pub front_of : Option ℕ → List ℕ → List ℕ
front_of None bytes = bytes
front_of (Some line_feed) bytes = take line_feed bytes

abbrev pub first_line : List ℕ → List ℕ
first_line bytes = front_of (position (λ b. b == 10) bytes) bytes

-- the number in the hint's first line, where the file is there and the line is a number
abbrev pub hint_in : Option (List ℕ) → Option ℕ
hint_in found = option_and_then (λ bytes. number_of (first_line bytes)) found

-- the words on one line with spaces between them, or each ended by a NUL
abbrev pub between : Separator → ℕ
between separator.Space = 32
between separator.Nul = 0

abbrev pub end : Separator → ℕ
end separator.Space = 10
end separator.Nul = 0

abbrev pub words_text : Separator → List ℕ → List ℕ → List ℕ → List ℕ
words_text form folder location path =
    codes "--dir" ++ (between form ∷ folder) ++ (between form ∷ codes "--prefix") ++ (between form ∷ location)
    ++ (between form ∷ path) ++ end form ∷ []

-- what listing a folder may give: the names in it, or that there is no such folder
abbrev pub Listing : Type 1
Listing = List ℕ → Option (List (List ℕ)) → Type 0

-- The name of the newest metadata of the table in a folder, or why there is none, by the names that a listing gave and
-- the hint that a read gave.
pub record Found (lists : Listing) (gives : Giving) (folder : List ℕ) (found : Result (List ℕ) NewestFault) : Type 0
  where
    pub names : List (List ℕ)
    pub hint : Option (List ℕ)
    pub listed : lists (metadata_folder folder) (Some names)
    pub hinted : gives (hint_path folder) hint
    pub is_newest : newest names (hint_in hint) ≡ found

-- the location that the metadata of a name says, by the bytes that a read gave
pub record HasLocation (gives : Giving) (folder name location : List ℕ) : Type 0 where
  pub bytes : List ℕ
  pub metadata : Described
  pub read : gives (metadata_path folder name) (Some bytes)
  pub described : metadata_of bytes ≡ Ok metadata
  pub says : location ≡ metadata.table.location

-- the words of the table in a folder were written
pub record WroteLocated (lists : Listing) (gives : Giving) (folder : List ℕ) (form : Separator)
    (output output' : Option (List ℕ)) : Type 0 where
  pub name : List ℕ
  pub location : List ℕ
  pub newest : Found lists gives folder (Ok name)
  pub located : HasLocation gives folder name location
  pub wrote : Appends output output' (words_text form folder location (metadata_path location name))

-- why there is no newest metadata: a listing gave that there is no such folder, or what was found has none
abbrev pub HasNoNewest : Listing → Giving → List ℕ → NewestFault → Type 0
HasNoNewest lists gives folder why =
    ((why ≡ fault.NoFolder) × lists (metadata_folder folder) None) ⊎ Found lists gives folder (Err why)
