-- The metadata files of a table in a folder, a line each: its number, the time that it says, and its name. (10 is the
-- line feed.)
use Rattle.std.specs.Prelude.{◌≡◌, ◌⊎◌, ℕ, ℤ, Bool, List, [], ◌∷◌, ◌++◌, codes, filter, map, is_some}
use Rattle.std.specs.Prelude.{Option, Some, None, Result, Ok, Err}
use Rattle.std.specs.Cmp.Lexicographic.{slice_cmp}
use Rattle.std.specs.List.{All, flat_map}
use Rattle.std.specs.Ordering.{is_lt, nat_cmp, ordering_then}
use Rattle.std.specs.declared.cmp.Ordering.{Ordering}
use Rattle.contract_words.specs.Sorting.{sorted}
use Rattle.ice_desk.specs.Given.{Giving}
use Rattle.ice_meta.specs.Targets.{Described, metadata_of}
use Rattle.ice_meta.specs.declared.fault.MetaFault.{MetaFault}
use Rattle.ice_meta_files.specs.Newest.{number_in}
use Rattle.ice_meta_files.specs.declared.newest_fault.NewestFault.{NewestFault}
use Rattle.ice_meta_files.specs.declared.newest_fault.NewestFault.TheVariants as fault
use Rattle.icescan_locate.specs.Located.{Listing, metadata_folder, metadata_path}
use Rattle.icescan_locate.specs.declared.dated.DatedFile.{DatedFile}
use Rattle.icescan_print.specs.Pieces.{named_number, named_path, named_signed}
use Rattle.icescan_print.specs.Written.{Appends}

-- the name of a metadata file
abbrev pub is_metadata : List ℕ → Bool
is_metadata name = is_some (number_in name)

-- the time that metadata says; none where there is no file or it is no metadata that can be read
abbrev pub time_said : Result Described MetaFault → Option ℤ
time_said (Ok metadata) = Some metadata.table.last_updated_ms
time_said (Err fault) = None

abbrev pub time_in : Option (List ℕ) → Option ℤ
time_in None = None
time_in (Some bytes) = time_said (metadata_of bytes)

-- a file with the number in its name, and with the time that bytes say which a read of it gave
pub record IsDated (gives : Giving) (folder : List ℕ) (file : DatedFile) : Type 0 where
  pub bytes : Option (List ℕ)
  pub numbered : number_in file.name ≡ Some file.number
  pub read : gives (metadata_path folder file.name) bytes
  pub says : file.time ≡ time_in bytes

-- the highest number first, and by name where two have one number
abbrev pub file_order : DatedFile → DatedFile → Ordering
file_order a b = ordering_then (nat_cmp b.number a.number) (slice_cmp nat_cmp a.name b.name)

abbrev pub newest_first : List DatedFile → List DatedFile
newest_first files = sorted (λ a b. is_lt (file_order a b)) files

-- the line of a file
abbrev pub or_dash : Option ℤ → List ℕ
or_dash (Some time) = named_signed (codes " at ") time
or_dash None = codes " at -"

unfoldable pub file_line : DatedFile → List ℕ
file_line file = named_number (codes "metadata ") file.number
    ++ (or_dash file.time ++ (named_path (codes " file ") file.name ++ 10 ∷ []))

-- these are the metadata files of the table in a folder, as they stand among the names that a listing gave
pub record AreThere (lists : Listing) (gives : Giving) (folder : List ℕ) (files : List DatedFile) : Type 0 where
  pub names : List (List ℕ)
  pub listed : lists (metadata_folder folder) (Some names)
  pub all : map (λ (f : DatedFile). f.name) files ≡ filter is_metadata names
  pub dated : All (IsDated gives folder) files

-- they were written, the newest first
abbrev pub WroteDated : Listing → Giving → List ℕ → Option (List ℕ) → Option (List ℕ) → Type 0
WroteDated lists gives folder output output' = (files : List DatedFile) × AreThere lists gives folder files
    × Appends output output' (flat_map file_line (newest_first files))

-- why there are none: a listing gave that there is no such folder, or that no metadata file is in it
abbrev pub HasNoFiles : Listing → List ℕ → NewestFault → Type 0
HasNoFiles lists folder why =
    ((why ≡ fault.NoFolder) × lists (metadata_folder folder) None)
    ⊎ ((why ≡ fault.NoMetadata) × (names : List (List ℕ)) × lists (metadata_folder folder) (Some names)
    × (filter is_metadata names ≡ []))
