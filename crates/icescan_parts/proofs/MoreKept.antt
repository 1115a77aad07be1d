-- What reads gave, other reads may have given.
use Rattle.std.proofs.Common.{ℕ, ℤ, List, [], Option}
use Rattle.ice_desk.specs.Given.{Giving}
use Rattle.icescan_parts.specs.Gone.{kept}
use Rattle.ice_meta.specs.Targets.{Described}
use Rattle.icescan_forms.specs.declared.format.Format.{Format}
use Rattle.icescan_forms.specs.declared.part.Part.{Part}
use Rattle.icescan_forms.specs.declared.part.Part.TheVariants as part
use Rattle.icescan_parts.specs.Kept.{AreLinesKept, AreLinesKeptAt, AreLinesLetGoAt, WrotePart}
use Rattle.icescan_reachable.proofs.MoreGiven.{more_given, more_lines, more_manifests, more_rows}

module _ (gives more : Giving) (wider : (path : List ℕ) (found : Option (List ℕ)) → gives path found → more path found)
    (gone : List ℤ) (path : List ℕ) where
  kept_more : (metadata : Described) (lines : List (List ℕ)) → AreLinesKept gives gone path metadata lines
      → AreLinesKept more gone path metadata lines
  kept_more metadata lines h = record {
    own = h.own;
    lists = h.lists;
    rows = h.rows;
    all = h.all;
    of_metadata = h.of_metadata;
    of_snapshots = h.of_snapshots;
    listed = more_rows gives more wider [] (kept gone metadata.table.snapshots) h.rows h.listed;
    read = more_manifests gives more wider h.lists h.rows h.all h.read;
    are = h.are;
  }

  more_kept : (lines : List (List ℕ)) → AreLinesKeptAt gives gone path lines → AreLinesKeptAt more gone path lines
  more_kept lines h = record {
    bytes = h.bytes;
    metadata = h.metadata;
    given = wider path _ h.given;
    says = h.says;
    are = kept_more h.metadata lines h.are;
  }

  more_let_go : (lines : List (List ℕ)) → AreLinesLetGoAt gives gone path lines
      → AreLinesLetGoAt more gone path lines
  more_let_go lines h = record {
    bytes = h.bytes;
    metadata = h.metadata;
    given = wider path _ h.given;
    says = h.says;
    are = record {
      all = h.are.all;
      rest = h.are.rest;
      reached = more_given gives more wider path h.metadata h.are.all h.are.reached;
      stay = kept_more h.metadata h.are.rest h.are.stay;
      are = h.are.are;
    };
  }

pub more_part : (gives more : Giving) → ((path : List ℕ) (found : Option (List ℕ)) → gives path found → more path found)
    → (form : Format) (part : Part) (path : List ℕ) (output output' : Option (List ℕ))
    → WrotePart gives form part path output output' → WrotePart more form part path output output'
more_part gives more wider form part.All path output output' (lines, given, text) =
    (lines, more_lines gives more wider path lines given, text)
more_part gives more wider form (part.Only snapshots) path output output' (lines, given, text) =
    (lines, (given.0, given.1, more_let_go gives more wider given.0 path lines given.2), text)
more_part gives more wider form (part.Without snapshots) path output output' (lines, given, text) =
    (lines, (given.0, given.1, more_kept gives more wider given.0 path lines given.2), text)
