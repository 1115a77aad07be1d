-- What a commit writes.
use Rattle.std.specs.Prelude.{◌≡◌, false, ℕ, List, Some, Ok}
use Rattle.std.specs.Option.{option_map}
use Rattle.serde_json.specs.Written.{compact_text, has_float}
use Rattle.ice_catalog_versions.specs.Histories.{Step, added_on, after, state_of}
use Rattle.ice_meta.specs.Targets.{Described, metadata_of}
use Rattle.icescan_c_commits.specs.declared.files.CommitFiles.{CommitFiles}

-- The bytes are read as the metadata after the commit; where no number in it has a fraction they are its JSON without
-- white space.
pub record IsNextMetadata (commit : Step) (bytes : List ℕ) : Type 0 where
  pub metadata : Described
  pub is : option_map (λ s. s.metadata) (state_of (after commit.base commit.commit)) ≡ Some metadata
  pub reads : metadata_of bytes ≡ Ok metadata
  pub compact : has_float metadata.json ≡ false → bytes ≡ compact_text metadata.json

-- the files that it adds, and that metadata
abbrev pub AreOf : Step → CommitFiles → Type 0
AreOf commit files = (added_on commit.base commit.commit ≡ Some files.added) × IsNextMetadata commit files.metadata
