-- Each line of those that stay is that of a file that stays.
use Rattle.std.proofs.Common.{◌≡◌, ◌⊎◌, ℕ, ℤ, List, [], ◌∷◌, Some, ap, inl, inr, refl, subst, sym}
use Rattle.std.specs.Prelude.{codes, option_and_then}
use Rattle.std.specs.List.{Contains}
use Rattle.std.proofs.lemmas.Option.{option_and_then_some}
use Rattle.ice_desk.specs.Given.{Giving}
use Rattle.ice_manifest_reading.proofs.Sets.{cases_of, nowhere}
use Rattle.ice_manifest_reading.specs.declared.entry.Live.{Live}
use Rattle.ice_meta.specs.Targets.{Described}
use Rattle.ice_value.specs.declared.file_content.FileContent.{FileContent}
use Rattle.ice_value.specs.declared.file_content.FileContent.TheVariants as holds
use Rattle.icescan_parts.proofs.KeptFiles.{statistics_only}
use Rattle.icescan_parts.specs.Gone.{kept, own_kept, statistics_kept}
use Rattle.icescan_parts.specs.Kept.{AreLinesKept}
use Rattle.icescan_parts.specs.Stays.{Stays, TellsOnlyKept, thinned}
use Rattle.icescan_reachable.proofs.NamedFiles.{named_only}
use Rattle.icescan_reachable.proofs.Reached.{from_once, lists_only, manifests_only, rows_only}
use Rattle.icescan_reachable.specs.Lines.{kind_of, line}
use Rattle.icescan_reachable.specs.Named.{logged_in}
use Rattle.icescan_reachable.specs.Reaches.{HasLive}
use Rattle.icescan_reachable.specs.declared.kind.FileKind.{FileKind}
use Rattle.icescan_reachable.specs.declared.kind.FileKind.TheVariants as kind

module _ (gives : Giving) (gone : List ℤ) (path : List ℕ) (metadata : Described) where
  -- the line of a file that stays
  abbrev IsOfKept : List ℕ → Type 0
  IsOfKept text =
      (kind : FileKind) × (file : List ℕ) × Stays gives gone metadata path kind file × (text ≡ line kind file)

  logged_kept : (logged : List (List ℕ)) (text : List ℕ) → logged_in path metadata.json ≡ Some logged
      → Contains logged text → IsOfKept text
  logged_kept logged text is h =
      elim (named_only kind.Metadata (codes "metadata-file") (codes "metadata-log") metadata.json
      (line kind.Metadata path ∷ []) logged text is h) as (λ _. IsOfKept text) [
        | inl i ↦ elim (cases_of (line kind.Metadata path) [] text i) as (λ _. IsOfKept text)
            [ inl e ↦ (kind.Metadata, path, inl refl, sym e) | inr n ↦ absurd (nowhere text n) ]
        | inr w ↦ (kind.Metadata, w.0, inr w.1, w.2)
      ]

  own_only : (own : List (List ℕ)) (text : List ℕ) → own_kept gone path metadata.json ≡ Some own → Contains own text
      → IsOfKept text
  unfolding own_kept
  own_only own text is h =
      let s = statistics_kept gone (codes "statistics") metadata.json in
      let p = statistics_kept gone (codes "partition-statistics") metadata.json in
      option_and_then_some p (option_and_then s (logged_in path metadata.json)) own is
      (λ counted told_counted told_own. option_and_then_some s (logged_in path metadata.json) counted told_counted
      (λ logged told_logged told_s. elim (statistics_only gone (codes "partition-statistics") metadata.json counted own
      text told_own h) as (λ _. IsOfKept text) [
        | inl i ↦ elim (statistics_only gone (codes "statistics") metadata.json logged counted text told_s i)
            as (λ _. IsOfKept text) [
              | inl j ↦ logged_kept logged text told_logged j
              | inr w ↦ (kind.Statistics, w.0, inl w.1, w.2)
            ]
        | inr w ↦ (kind.Statistics, w.0, inr w.1, w.2)
      ]))

  file_stays : (live : Live) → HasLive gives (thinned gone metadata) live → (content : FileContent)
      → live.entry.file.content ≡ content → Stays gives gone metadata path (kind_of content) live.entry.file.path
  file_stays live has holds.Data is = (live, has, ap kind_of is, refl)
  file_stays live has holds.PositionDeletes is = (live, has, ap kind_of is, refl)
  file_stays live has holds.EqualityDeletes is = (live, has, ap kind_of is, refl)

  of_kept : (lines : List (List ℕ)) (text : List ℕ) → AreLinesKept gives gone path metadata lines
      → Contains lines text → IsOfKept text
  of_kept lines text h i =
      let all = from_once h.all text (subst (λ (x : List (List ℕ)). Contains x text) h.are i) in
      elim (manifests_only gives h.rows h.lists h.all text h.read all) as (λ _. IsOfKept text) [
        | inl j ↦ elim (lists_only (kept gone metadata.table.snapshots) h.own h.lists text h.of_snapshots j)
            as (λ _. IsOfKept text) [
              | inl k ↦ own_only h.own text h.of_metadata k
              | inr w ↦ (kind.List, w.0, w.1, w.2)
            ]
        | inr told ↦ elim (rows_only gives (kept gone metadata.table.snapshots) [] h.rows told.0 h.listed told.1)
            as (λ _. IsOfKept text) [
              | inl n ↦ absurd (nowhere told.0 n)
              | inr has ↦ elim told.2 as (λ _. IsOfKept text) [
                | inl e ↦ (kind.Manifest, told.0.path, (told.0, has, refl), e)
                | inr w ↦ (
                  kind_of w.2.entry.file.content,
                  w.2.entry.file.path,
                  file_stays w.2 (told.0, has, w.0, w.1, w.3) w.2.entry.file.content refl,
                  w.4,
                )
              ]
            ]
      ]

pub only_kept : (gives : Giving) → TellsOnlyKept gives
only_kept gives gone path metadata rest text h i = of_kept gives gone path metadata rest text h i
