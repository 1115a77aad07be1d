-- A table at one moment: its metadata, and the files that are there.
use Rattle.std.specs.Prelude.{[], ◌∷◌}
use Rattle.std.specs.FinMap.{insert}
use Rattle.ice_meta.specs.declared.metadata.Metadata.{Metadata}
use Rattle.ice_meta.specs.Targets.{Described, described}
use Rattle.ice_catalog_changes.specs.NewFiles.{Added}
use Rattle.ice_catalog_versions.specs.declared.world.World.{World}

pub record State : Type 0 where
  pub metadata : Described
  pub world : World

-- what metadata says, however it is kept
abbrev pub seen : Metadata → Described
seen m = described m.json m.table

-- the state that metadata and files are, however they are kept
abbrev pub state_now : Metadata → World → State
state_now metadata world = record { metadata = seen metadata; world = world }

-- the world with these files; a new path's bytes replace what was there
abbrev pub with_files : World → Added → World
with_files w [] = w
with_files w (f ∷ fs) = with_files (insert w f.0 f.1) fs
