-- Manifests that two lists of rows share.
use Rattle.std.specs.Prelude.{◌≡◌, Bool, false, List, Contains}
use Rattle.ice_manifest_reading.specs.declared.row.ManifestContent.TheVariants as manifest
use Rattle.ice_manifest_reading.specs.declared.row.Row.{Row}

-- what is left out of these rows is of data manifests, and among the other rows too
abbrev pub AreShared : (Row → Bool) → List Row → List Row → Type 0
AreShared keeps rows others = (row : Row) → Contains rows row → keeps row ≡ false
    → (row.content ≡ manifest.Data) × Contains others row

-- each of these rows that is of a manifest of delete files is among the other rows
abbrev pub HasDeletesOf : List Row → List Row → Type 0
HasDeletesOf others rows = (row : Row) → Contains rows row → row.content ≡ manifest.Deletes → Contains others row

-- both lists have the same manifests of delete files, and what is left out of either is of data manifests of both
pub record MayLeaveOut (keeps : Row → Bool) (earlier later : List Row) : Type 0 where
  pub of_earlier : AreShared keeps earlier later
  pub of_later : AreShared keeps later earlier
  pub deletes : HasDeletesOf later earlier
  pub deletes_back : HasDeletesOf earlier later
