-- Each file that stays has its line, and is none of those that are let go.
use Rattle.std.proofs.Common.{◌≡◌, ◌⊎◌, ℕ, ℤ, List, [], ◌∷◌, Some, ap, inl, inr, subst, sym}
use Rattle.std.specs.Prelude.{codes, option_and_then}
use Rattle.std.specs.List.{Contains}
use Rattle.std.proofs.lemmas.Option.{option_and_then_some}
use Rattle.ice_desk.specs.Given.{AreOf, Giving}
use Rattle.ice_manifest_reading.proofs.Sets.{here}
use Rattle.ice_meta.specs.Targets.{Described}
use Rattle.ice_state.specs.Contents.{World}
use Rattle.icescan_parts.proofs.KeptFiles.{statistics_all, statistics_keep}
use Rattle.icescan_parts.proofs.Split.{apart}
use Rattle.icescan_parts.specs.Gone.{kept, own_kept, statistics_kept}
use Rattle.icescan_parts.specs.Kept.{AreLinesKept}
use Rattle.icescan_parts.specs.Stays.{LetsGoNoneKept, Stays, TellsAllKept, thinned}
use Rattle.icescan_reachable.proofs.NamedFiles.{named_all, named_keep}
use Rattle.icescan_reachable.proofs.Reached.{files_all, lists_all, lists_keep, manifest_all, manifests_keep, rows_all}
use Rattle.icescan_reachable.proofs.Reached.{to_once}
use Rattle.icescan_reachable.specs.Lines.{kind_of, line}
use Rattle.icescan_reachable.specs.Named.{logged_in}
use Rattle.icescan_reachable.specs.Reaches.{HasFile, Reaches}
use Rattle.icescan_reachable.specs.declared.kind.FileKind.{FileKind}
use Rattle.icescan_reachable.specs.declared.kind.FileKind.TheVariants as kind

module _ (gives : Giving) (gone : List ℤ) (path : List ℕ) (metadata : Described) (world : World)
    (truth : AreOf gives world) (lines : List (List ℕ)) (h : AreLinesKept gives gone path metadata lines) where
  from_all : (text : List ℕ) → Contains h.all text → Contains lines text
  from_all text i = subst (λ (x : List (List ℕ)). Contains x text) (sym h.are) (to_once h.all text i)

  from_lists : (text : List ℕ) → Contains h.lists text → Contains lines text
  from_lists text i = from_all text (manifests_keep gives h.rows h.lists h.all text h.read i)

  from_own : (text : List ℕ) → Contains h.own text → Contains lines text
  from_own text i = from_lists text
      (lists_keep (kept gone metadata.table.snapshots) h.own h.lists text h.of_snapshots i)

  file_all : (kind : FileKind) (file : List ℕ) → HasFile gives (thinned gone metadata) kind file
      → Contains lines (line kind file)
  file_all kind file (live, (row, has, found, given, i), is, at) =
      let read = rows_all gives world truth (kept gone metadata.table.snapshots) [] h.rows row h.listed has in
      let told = files_all gives world truth h.rows h.lists h.all row found live h.read read given i in
      from_all (line kind file) (subst (λ (k : FileKind). Contains h.all (line k file)) is
      (subst (λ (p : List ℕ). Contains h.all (line (kind_of live.entry.file.content) p)) at told))

  metadata_all : (file : List ℕ) → Reaches gives (thinned gone metadata) path kind.Metadata file
      → Contains h.own (line kind.Metadata file)
  unfolding own_kept
  metadata_all file reached =
      let text = line kind.Metadata file in
      let s = statistics_kept gone (codes "statistics") metadata.json in
      let p = statistics_kept gone (codes "partition-statistics") metadata.json in
      option_and_then_some p (option_and_then s (logged_in path metadata.json)) h.own h.of_metadata
      (λ counted told_counted told_own. option_and_then_some s (logged_in path metadata.json) counted told_counted
      (λ logged told_logged told_s. statistics_keep gone (codes "partition-statistics") metadata.json counted h.own text
      told_own (statistics_keep gone (codes "statistics") metadata.json logged counted text told_s
      (elim reached as (λ _. Contains logged text) [
        | inl e ↦ named_keep kind.Metadata (codes "metadata-file") (codes "metadata-log") metadata.json
            (line kind.Metadata path ∷ []) logged text told_logged
            (here (line kind.Metadata path) [] text (ap (line kind.Metadata) (sym e)))
        | inr n ↦ named_all kind.Metadata (codes "metadata-file") (codes "metadata-log") metadata.json
            (line kind.Metadata path ∷ []) logged file told_logged n
      ]))))

  statistics_told : (file : List ℕ) → Stays gives gone metadata path kind.Statistics file
      → Contains h.own (line kind.Statistics file)
  unfolding own_kept
  statistics_told file stays =
      let text = line kind.Statistics file in
      let s = statistics_kept gone (codes "statistics") metadata.json in
      let p = statistics_kept gone (codes "partition-statistics") metadata.json in
      option_and_then_some p (option_and_then s (logged_in path metadata.json)) h.own h.of_metadata
      (λ counted told_counted told_own. option_and_then_some s (logged_in path metadata.json) counted told_counted
      (λ logged told_logged told_s. elim stays as (λ _. Contains h.own text) [
        | inl n ↦ statistics_keep gone (codes "partition-statistics") metadata.json counted h.own text told_own
            (statistics_all gone (codes "statistics") metadata.json logged counted file told_s n)
        | inr n ↦ statistics_all gone (codes "partition-statistics") metadata.json counted h.own file told_own n
      ]))

  stays_told : (kind : FileKind) (file : List ℕ) → Stays gives gone metadata path kind file
      → Contains lines (line kind file)
  stays_told kind.Metadata file stays = from_own (line kind.Metadata file) (metadata_all file stays)
  stays_told kind.Statistics file stays = from_own (line kind.Statistics file) (statistics_told file stays)
  stays_told kind.List file (snapshot, i, is) = from_lists (line kind.List file)
      (lists_all (kept gone metadata.table.snapshots) h.own h.lists file snapshot h.of_snapshots i is)
  stays_told kind.Manifest file (row, has, at) =
      let read = rows_all gives world truth (kept gone metadata.table.snapshots) [] h.rows row h.listed has in
      from_all (line kind.Manifest file) (subst (λ (p : List ℕ). Contains h.all (line kind.Manifest p)) at
      (manifest_all gives world truth h.rows h.lists h.all row h.read read))
  stays_told kind.Data file stays = file_all kind.Data file stays
  stays_told kind.Delete file stays = file_all kind.Delete file stays

pub all_kept : (gives : Giving) → TellsAllKept gives
all_kept gives world gone path metadata rest kind file truth h stays =
    (kind, stays_told gives gone path metadata world truth rest h kind file stays)

pub none_let_go : (gives : Giving) → LetsGoNoneKept gives
none_let_go gives world gone path metadata all rest kind file truth h stays let_go =
    apart all rest file let_go (all_kept gives world gone path metadata rest kind file truth h stays)
