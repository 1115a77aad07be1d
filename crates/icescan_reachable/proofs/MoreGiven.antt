-- What reads gave, other reads may have given.
use Rattle.std.proofs.Common.{ℕ, List, [], ◌∷◌, ◌++◌, Option}
use Rattle.ice_desk.specs.Given.{Giving}
use Rattle.ice_manifest_reading.specs.Lists.{in_order}
use Rattle.ice_manifest_reading.specs.declared.row.Row.{Row}
use Rattle.ice_meta.specs.Targets.{Described}
use Rattle.ice_meta.specs.declared.snapshot.Snapshot.{Snapshot}
use Rattle.icescan_reachable.specs.Given.{AreLinesGiven, AreLinesGivenAt, AreManifestsBehind}
use Rattle.icescan_reachable.specs.Given.{AreRowsBehind, live_lines}
use Rattle.icescan_reachable.specs.Lines.{line}
use Rattle.icescan_reachable.specs.declared.kind.FileKind.TheVariants as kind

module _ (gives more : Giving) (wider : (path : List ℕ) (found : Option (List ℕ)) → gives path found → more path found)
  where
    pub more_rows : (rows : List Row) (snapshots : List Snapshot) (all : List Row) → AreRowsBehind gives rows snapshots all
        → AreRowsBehind more rows snapshots all
    more_rows rows [] all h = h
    more_rows rows (snapshot ∷ snapshots) all (list, is, found, (bytes, given, says), rest) =
        (list, is, found, (bytes, wider list _ given, says), more_rows (in_order (rows ++ found)) snapshots all rest)

    pub more_manifests : (lines : List (List ℕ)) (rows : List Row) (all : List (List ℕ))
        → AreManifestsBehind gives lines rows all → AreManifestsBehind more lines rows all
    more_manifests lines [] all h = h
    more_manifests lines (row ∷ rows) all (found, (bytes, given, says), rest) = (
      found,
      (bytes, wider row.path _ given, says),
      more_manifests ((lines ++ line kind.Manifest row.path ∷ []) ++ live_lines found) rows all rest,
    )

    pub more_given : (path : List ℕ) (metadata : Described) (lines : List (List ℕ))
        → AreLinesGiven gives path metadata lines → AreLinesGiven more path metadata lines
    more_given path metadata lines h = record {
      own = h.own;
      lists = h.lists;
      rows = h.rows;
      all = h.all;
      of_metadata = h.of_metadata;
      of_snapshots = h.of_snapshots;
      listed = more_rows [] metadata.table.snapshots h.rows h.listed;
      read = more_manifests h.lists h.rows h.all h.read;
      are = h.are;
    }

    pub more_lines : (path : List ℕ) (lines : List (List ℕ)) → AreLinesGivenAt gives path lines
        → AreLinesGivenAt more path lines
    more_lines path lines h = record {
      bytes = h.bytes;
      metadata = h.metadata;
      given = wider path _ h.given;
      says = h.says;
      are = more_given path h.metadata lines h.are;
    }
