-- Which manifests of two snapshots have to be read to tell the changes between their plans: not those of data files
-- that both share, where both have the same manifests of delete files.
use Rattle.std.specs.Prelude.{Bool, ◌&&◌, ◌||◌, not, List, filter}
use Rattle.std.specs.List.{list_all, list_any}
use Rattle.ice_manifest_reading.specs.Lists.{same_content, same_row}
use Rattle.ice_manifest_reading.specs.declared.row.ManifestContent.TheVariants.{Data}
use Rattle.ice_manifest_reading.specs.declared.row.Row.{Row}

-- the row is one of these
abbrev pub has_row : List Row → Row → Bool
has_row rows row = list_any (λ other. same_row other row) rows

-- the row is of a manifest of data files
abbrev pub is_of_data : Row → Bool
is_of_data row = same_content row.content Data

-- the row is of data files, and one of the others too
abbrev pub is_shared : List Row → Row → Bool
is_shared others row = is_of_data row && has_row others row

-- the rows that are not shared so
abbrev pub unshared : List Row → List Row → List Row
unshared others rows = filter (λ row. not (is_shared others row)) rows

-- each of the rows that is of a manifest of delete files is one of the others too
abbrev pub has_deletes_of : List Row → List Row → Bool
has_deletes_of others rows = list_all (λ row. is_of_data row || has_row others row) rows

-- both have the same manifests of delete files
abbrev pub have_same_deletes : List Row → List Row → Bool
have_same_deletes earlier later = has_deletes_of later earlier && has_deletes_of earlier later
