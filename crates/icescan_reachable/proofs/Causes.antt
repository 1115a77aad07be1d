-- The causes of refusals.
use Rattle.std.proofs.Common.{◌≡◌, ◌≢◌, ◌⊎◌, ◌<◌, ℕ, List, [], ◌∷◌, ◌++◌, Option, Some, None, Ok, Err, ap, drop, inl, inr}
use Rattle.std.proofs.Common.{length, get_or, refl, subst, sym, ◌∙◌}
use Rattle.std.specs.Prelude.{Result, codes, option_and_then}
use Rattle.std.specs.List.{Contains}
use Rattle.std.proofs.lemmas.List.Elements.{Contains-get_or}
use Rattle.ice_desk.specs.Given.{Giving}
use Rattle.ice_manifest_fields.specs.declared.fault.ListFault.{ListFault}
use Rattle.ice_manifest_fields.specs.declared.fault.ListFault.TheVariants as list
use Rattle.ice_manifest_fields.specs.declared.fault.ManifestFault.{ManifestFault}
use Rattle.ice_manifest_fields.specs.declared.fault.ManifestFault.TheVariants as manifest
use Rattle.ice_manifest_reading.proofs.Sets.{nowhere}
use Rattle.ice_manifest_reading.specs.Lists.{rows_of}
use Rattle.ice_manifest_reading.specs.Manifests.{live_of}
use Rattle.ice_manifest_reading.specs.Telling.{told_of}
use Rattle.ice_manifest_reading.specs.declared.entry.Live.{Live}
use Rattle.ice_manifest_reading.specs.declared.row.Row.{Row}
use Rattle.ice_meta.specs.Targets.{Described, metadata_of}
use Rattle.ice_meta.specs.declared.fault.MetaFault.{MetaFault}
use Rattle.ice_meta.specs.declared.fault.MetaFault.TheVariants as meta
use Rattle.ice_meta.specs.declared.snapshot.Snapshot.{Snapshot}
use Rattle.ice_state.specs.declared.fault.FinishFault.TheVariants as finish
use Rattle.icescan_reachable.specs.Given.{AreRowsBehind, bare_spec, live_line}
use Rattle.icescan_reachable.specs.Refused.{IsAtFault, IsFor, IsOfList, IsOfManifest, IsOfMetadata, IsOfSnapshot}
use Rattle.icescan_reachable.specs.Refused.{IsRefused, LacksList, unlisted, unnamed}
use Rattle.icescan_reachable.specs.Lines.{line}
use Rattle.icescan_reachable.specs.Named.{logged_in, named_behind, own_lines}
use Rattle.icescan_reachable.specs.declared.kind.FileKind.TheVariants as kind
use Rattle.serde_json.specs.Data.{Data}
use Rattle.icescan_reachable.proofs.Reached.{rows_only}
use Rattle.icescan_text.specs.Faults.{of_list, of_meta}
use Rattle.icescan_text.specs.Reads.{as_run, rows_in}
use Rattle.icescan_text.specs.declared.fault.RunFault.{RunFault}
use Rattle.icescan_text.specs.declared.fault.RunFault.TheVariants as run

told_not : (read : Result (List Live) ManifestFault) (fault : ManifestFault) → told_of live_line read ≡ Err fault
    → read ≡ Err fault
told_not (Ok found) fault h = absurd cc
told_not (Err other) fault h = let same : other ≡ fault = cc in ap Err same

-- a manifest at fault
pub at_fault : (row : Row) (bytes : List ℕ) (why : ManifestFault) (fault : RunFault)
    → IsFor (run.Finish (finish.Bad row.path why)) (why ≢ manifest.Memory) fault
    → (why ≢ manifest.Memory → told_of live_line (live_of row (bare_spec row) bytes) ≡ Err why)
    → IsAtFault row bytes fault
at_fault row bytes why fault (inl memory) h = inl memory
at_fault row bytes why fault (inr (is, other)) h =
    inr (why, told_not (live_of row (bare_spec row) bytes) why (h other), is)

-- the element at an index is one of the list
pub among : {X : Type 0} (xs : List X) (i : ℕ) (x : X) → i < length xs → x ≡ get_or xs i x → Contains xs x
among {X} xs i x lt at = subst (λ (y : X). Contains xs y) (sym at) (Contains-get_or xs i x lt)

-- one of them has no manifest list
pub of_lacking : (snapshots : List Snapshot) (i : ℕ) (snapshot : Snapshot) → i < length snapshots
    → snapshot ≡ get_or snapshots i snapshot → (fault : RunFault)
    → IsFor unlisted (snapshot.manifest_list ≡ None) fault → IsFor unlisted (LacksList snapshots) fault
of_lacking snapshots i snapshot lt at fault (inl memory) = inl memory
of_lacking snapshots i snapshot lt at fault (inr (is, none)) =
    inr (is, (snapshot, among snapshots i snapshot lt at, none))

-- the lines of what metadata names itself, step by step
pub own_is : (path : List ℕ) (metadata : Data) (logged counted : List (List ℕ)) (all : Option (List (List ℕ)))
    → logged_in path metadata ≡ Some logged
    → named_behind (codes "statistics") (codes "statistics-path") kind.Statistics metadata logged ≡ Some counted
    → named_behind (codes "partition-statistics") (codes "statistics-path") kind.Statistics metadata counted ≡ all
    → own_lines path metadata ≡ all
unfolding own_lines
own_is path metadata logged counted all in_log in_statistics in_partitions =
    let s = named_behind (codes "statistics") (codes "statistics-path") kind.Statistics metadata in
    let p = named_behind (codes "partition-statistics") (codes "statistics-path") kind.Statistics metadata in
    ap (λ (o : Option (List (List ℕ))). option_and_then p (option_and_then s o)) in_log
    ∙ ap (λ (o : Option (List (List ℕ))). option_and_then p o) in_statistics ∙ in_partitions

pub for_own : (path : List ℕ) (metadata : Data) (logged counted : List (List ℕ)) (fault : RunFault)
    → logged_in path metadata ≡ Some logged
    → named_behind (codes "statistics") (codes "statistics-path") kind.Statistics metadata logged ≡ Some counted
    → IsFor unnamed (named_behind (codes "partition-statistics") (codes "statistics-path") kind.Statistics metadata
    counted ≡ None) fault → IsFor unnamed (own_lines path metadata ≡ None) fault
for_own path metadata logged counted fault in_log in_statistics (inl memory) = inl memory
for_own path metadata logged counted fault in_log in_statistics (inr (so, none)) =
    inr (so, own_is path metadata logged counted None in_log in_statistics none)

module _ (gives : Giving) (may_fail : List ℕ → Type 0) where
  -- the manifest list of one of them is refused
  pub of_listed : (snapshots : List Snapshot) (i : ℕ) (snapshot : Snapshot) → i < length snapshots
      → snapshot ≡ get_or snapshots i snapshot → (path : List ℕ) → snapshot.manifest_list ≡ Some path
      → (fault : RunFault) → IsOfList gives may_fail path fault → IsOfSnapshot gives may_fail snapshots fault
  of_listed snapshots i snapshot lt at path is fault why =
      (snapshot, among snapshots i snapshot lt at, path, is, why)

  -- a manifest list at fault
  pub list_fault : (path bytes : List ℕ) (fault : ListFault) → gives path (Some bytes)
      → (fault ≢ list.Memory → rows_of bytes ≡ Err fault) → IsOfList gives may_fail path (of_list fault)
  unfolding rows_in
  list_fault path bytes list.Memory given h = inl tt
  list_fault path bytes (list.Avro e) given h = inr (bytes, given, ap (as_run of_list) (h (λ m. cc)))
  list_fault path bytes (list.MissingField id) given h = inr (bytes, given, ap (as_run of_list) (h (λ m. cc)))
  list_fault path bytes (list.WrongFieldType id) given h = inr (bytes, given, ap (as_run of_list) (h (λ m. cc)))
  list_fault path bytes (list.OutOfRange id) given h = inr (bytes, given, ap (as_run of_list) (h (λ m. cc)))
  list_fault path bytes list.BadContent given h = inr (bytes, given, ap (as_run of_list) (h (λ m. cc)))
  list_fault path bytes (list.ManifestTwice other) given h = inr (bytes, given, ap (as_run of_list) (h (λ m. cc)))
  list_fault path bytes list.TooManyRows given h = inr (bytes, given, ap (as_run of_list) (h (λ m. cc)))

  -- metadata at fault
  meta_is : (path bytes : List ℕ) (fault : MetaFault) → gives path (Some bytes) → metadata_of bytes ≡ Err fault
      → IsRefused gives may_fail path (of_meta fault)
  meta_is path bytes fault given is = inr (bytes, given, inl (ap (as_run of_meta) is))

  pub meta_fault : (path bytes : List ℕ) (fault : MetaFault) → gives path (Some bytes)
      → (fault ≢ meta.Memory → metadata_of bytes ≡ Err fault) → IsRefused gives may_fail path (of_meta fault)
  meta_fault path bytes meta.Memory given h = inl tt
  meta_fault path bytes meta.NotJson given h = meta_is path bytes meta.NotJson given (h (λ m. cc))
  meta_fault path bytes (meta.Version n) given h = meta_is path bytes (meta.Version n) given (h (λ m. cc))
  meta_fault path bytes (meta.Missing m) given h = meta_is path bytes (meta.Missing m) given (h (λ e. cc))
  meta_fault path bytes (meta.WrongKind m) given h = meta_is path bytes (meta.WrongKind m) given (h (λ e. cc))
  meta_fault path bytes (meta.UnknownType t) given h = meta_is path bytes (meta.UnknownType t) given (h (λ m. cc))
  meta_fault path bytes meta.NoSuchRef given h = meta_is path bytes meta.NoSuchRef given (h (λ m. cc))
  meta_fault path bytes meta.NoSuchSnapshot given h = meta_is path bytes meta.NoSuchSnapshot given (h (λ m. cc))
  meta_fault path bytes meta.NoSnapshot given h = meta_is path bytes meta.NoSnapshot given (h (λ m. cc))
  meta_fault path bytes (meta.IdTwice n) given h = meta_is path bytes (meta.IdTwice n) given (h (λ m. cc))
  meta_fault path bytes (meta.Dangling m) given h = meta_is path bytes (meta.Dangling m) given (h (λ e. cc))
  meta_fault path bytes meta.TooBig given h = meta_is path bytes meta.TooBig given (h (λ m. cc))

  -- of the manifest lists of the snapshots, and of a manifest of theirs
  pub of_lists : (path : List ℕ) (metadata : Described) (fault : RunFault)
      → IsFor unlisted (LacksList metadata.table.snapshots) fault
      ⊎ IsOfSnapshot gives may_fail metadata.table.snapshots fault → IsOfMetadata gives may_fail path metadata fault
  of_lists path metadata fault (inl lacks) = inr (inl lacks)
  of_lists path metadata fault (inr of) = inr (inr (inl of))

  pub of_manifests : (path : List ℕ) (metadata : Described) (rows : List Row) (fault : RunFault)
      → AreRowsBehind gives [] metadata.table.snapshots rows
      → (row : Row) × Contains rows row × IsOfManifest gives may_fail row fault
      → IsOfMetadata gives may_fail path metadata fault
  of_manifests path metadata rows fault listed (row, i, why) =
      elim (rows_only gives metadata.table.snapshots [] rows row listed i)
      as (λ _. IsOfMetadata gives may_fail path metadata fault)
      [ inl n ↦ absurd (nowhere row n) | inr has ↦ inr (inr (inr (row, has, why))) ]
