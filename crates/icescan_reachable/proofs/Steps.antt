-- One more snapshot, and one more manifest.
use Rattle.std.proofs.Common.{◌≡◌, ◌+◌, ◌≤◌, ◌<◌, ℕ, List, [], ◌∷◌, ◌++◌, Some, ap, drop, length}
use Rattle.std.proofs.Common.{get_or, refl, subst, sym, ◌∙◌}
use Rattle.std.specs.Prelude.{Result, Ok, Err}
use Rattle.ice_desk.specs.Given.{Giving}
use Rattle.ice_manifest_fields.proofs.Steps.{end_of, step_of}
use Rattle.ice_manifest_reading.specs.Lists.{in_order}
use Rattle.ice_manifest_fields.specs.declared.fault.ManifestFault.{ManifestFault}
use Rattle.ice_manifest_reading.specs.Manifests.{live_of}
use Rattle.ice_manifest_reading.specs.Telling.{told_of}
use Rattle.ice_manifest_reading.specs.declared.entry.Live.{Live}
use Rattle.ice_manifest_reading.specs.declared.row.Row.{Row}
use Rattle.ice_meta.specs.declared.snapshot.Snapshot.{Snapshot}
use Rattle.icescan_reachable.specs.Given.{AreLiveGiven, AreManifestsBehind, AreRowsBehind, bare_spec}
use Rattle.icescan_reachable.specs.Given.{live_line, live_lines}
use Rattle.icescan_reachable.specs.Lines.{line}
use Rattle.icescan_reachable.specs.declared.kind.FileKind.TheVariants as kind
use Rattle.icescan_text.specs.Reads.{AreRowsGiven}

module _ (gives : Giving) where
  pub rows_step : (snapshots : List Snapshot) (i : ℕ) (snapshot : Snapshot) → i < length snapshots
      → snapshot ≡ get_or snapshots i snapshot → (rows : List Row) (list : List ℕ)
      → snapshot.manifest_list ≡ Some list → (more : List Row) → AreRowsGiven gives list more → (next all : List Row)
      → next ≡ in_order (rows ++ more) → AreRowsBehind gives next (drop (i + 1) snapshots) all
      → AreRowsBehind gives rows (drop i snapshots) all
  rows_step snapshots i snapshot lt at rows list is more given next all same h =
      let rest = subst (λ (x : List Row). AreRowsBehind gives x (drop (i + 1) snapshots) all) same h in
      subst (λ (ss : List Snapshot). AreRowsBehind gives rows ss all) (sym (step_of snapshots i snapshot lt at))
      (list, is, more, given, rest)

  pub rows_end : (snapshots : List Snapshot) (i : ℕ) (rows : List Row) → length snapshots ≤ i
      → AreRowsBehind gives rows (drop i snapshots) rows
  rows_end snapshots i rows le =
      subst (λ (ss : List Snapshot). AreRowsBehind gives rows ss rows) (sym (end_of snapshots i le)) refl

  pub manifests_step : (rows : List Row) (i : ℕ) (row : Row) → i < length rows → row ≡ get_or rows i row
      → (lines : List (List ℕ)) (found : List Live) → AreLiveGiven gives row found → (next all : List (List ℕ))
      → next ≡ (lines ++ line kind.Manifest row.path ∷ []) ++ live_lines found
      → AreManifestsBehind gives next (drop (i + 1) rows) all → AreManifestsBehind gives lines (drop i rows) all
  manifests_step rows i row lt at lines found given next all same h =
      let rest = subst (λ (x : List (List ℕ)). AreManifestsBehind gives x (drop (i + 1) rows) all) same h in
      subst (λ (rs : List Row). AreManifestsBehind gives lines rs all) (sym (step_of rows i row lt at))
      (found, given, rest)

  pub manifests_end : (rows : List Row) (i : ℕ) (lines : List (List ℕ)) → length rows ≤ i
      → AreManifestsBehind gives lines (drop i rows) lines
  manifests_end rows i lines le =
      subst (λ (rs : List Row). AreManifestsBehind gives lines rs lines) (sym (end_of rows i le)) refl

told_is : (read : Result (List Live) ManifestFault) (told : List (List ℕ)) → told_of live_line read ≡ Ok told
    → (found : List Live) × (read ≡ Ok found) × (told ≡ live_lines found)
told_is (Ok found) told h = (found, refl, cc)
told_is (Err fault) told h = absurd cc

-- a manifest that was read, and whose lines were put behind its own
pub manifest_put : (gives : Giving) (row : Row) (bytes : List ℕ) → gives row.path (Some bytes)
    → (told : List (List ℕ)) → told_of live_line (live_of row (bare_spec row) bytes) ≡ Ok told
    → (lines before next : List (List ℕ)) → before ≡ lines ++ line kind.Manifest row.path ∷ []
    → next ≡ before ++ told
    → (found : List Live) × AreLiveGiven gives row found
    × (next ≡ (lines ++ line kind.Manifest row.path ∷ []) ++ live_lines found)
manifest_put gives row bytes given told is lines before next first then =
    let t = told_is (live_of row (bare_spec row) bytes) told is in (
      t.0,
      (bytes, given, t.1),
      then ∙ ap (λ (x : List (List ℕ)). x ++ told) first
          ∙ ap (λ (x : List (List ℕ)). (lines ++ line kind.Manifest row.path ∷ []) ++ x) t.2,
    )
