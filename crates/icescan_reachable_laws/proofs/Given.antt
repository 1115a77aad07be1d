-- What a plan keeps was live in a manifest that a read gave, of one of the rows that were planned.
use Rattle.std.proofs.Common.{◌≡◌, ℕ, List, [], ◌∷◌, length, Option, Some, None, refl, sym, arith}
use Rattle.std.proofs.Common.{Result, Ok, Err, inl, inr, subst}
use Rattle.std.specs.List.{Contains}
use Rattle.std.proofs.lemmas.List.Elements.{Contains-append_cases}
use Rattle.ice_desk.specs.Given.{AreSlotsGiven, Giving, IsSlotGiven}
use Rattle.ice_filter.specs.declared.bound.BoundPredicate.{BoundPredicate}
use Rattle.ice_filter.specs.declared.parts.Part.{Part}
use Rattle.ice_manifest_fields.specs.declared.fault.ManifestFault.{ManifestFault}
use Rattle.ice_manifest_reading.proofs.Sets.{here, later, nowhere}
use Rattle.ice_manifest_reading.specs.declared.entry.Entry.{Entry}
use Rattle.ice_manifest_reading.specs.declared.entry.Live.{Live}
use Rattle.ice_manifest_reading.specs.declared.row.Row.{Row}
use Rattle.ice_meta.specs.declared.spec.Spec.{Spec}
use Rattle.ice_state.proofs.Elements.{filtered, sorted_contains}
use Rattle.ice_state.specs.Contents.{Content, manifest_of, reading}
use Rattle.ice_state.specs.Outcomes.{entries_in, kept_in}
use Rattle.ice_state.specs.Pruning.{Pruner, pruner_of}
use Rattle.ice_state.specs.Readings.{Reading}
use Rattle.ice_state.specs.Scans.{Scanned, by_row_path, pruner, row_before, scan_of, scan_with, unless_missing}
use Rattle.ice_state.specs.Scans.{without_spec}
use Rattle.icescan_reachable_laws.proofs.Entries.{from_kept}

-- ---- the rows of a scan

scan_is : (missing : List Row) (made scan : Scanned) → unless_missing missing made ≡ Ok scan → made ≡ scan
scan_is [] made scan h = cc
scan_is (row ∷ rows) made scan h = absurd cc

pub wanted_row : (rows : List Row) (specs : List Spec) (parts : List (Part BoundPredicate)) (scan : Scanned) (row : Row)
    → scan_of rows specs parts ≡ Ok scan → Contains scan.wanted row → Contains rows row
wanted_row rows specs parts scan row h i =
    let is = scan_is (without_spec specs (by_row_path rows)) (scan_with rows specs parts) scan h in
    let among = subst (λ (s : Scanned). Contains s.wanted row) (sym is) i in
    sorted_contains row_before rows row (filtered (pruner_of parts specs).wants (by_row_path rows) row among).0

-- ---- what was kept was live in a manifest that a read gave

-- the entry is live in the manifest of one of these rows, by the specs of a scan
abbrev pub IsLiveGiven : Giving → List Spec → List Row → Entry → Type 0
IsLiveGiven gives specs rows x = (row : Row) × Contains rows row × (bytes : List ℕ) × gives row.path (Some bytes)
    × (found : List Live) × (manifest_of specs row bytes ≡ Ok found) × (l : Live) × Contains found l × (l.entry ≡ x)

of_reading : (p : Pruner) (read : Result (List Live) ManifestFault) (x : Entry)
    → Contains (entries_in (Some (reading p read))) x
    → (found : List Live) × (read ≡ Ok found) × (l : Live) × Contains found l × (l.entry ≡ x)
of_reading p (Err fault) x i = absurd (nowhere x i)
of_reading p (Ok found) x i = let k = from_kept p found x i in (found, refl, k.0, k.1, k.2)

of_slot : (gives : Giving) (scan : Scanned) (rows : List Row) (row : Row) (slot : Option Reading) (x : Entry)
    → Contains rows row → IsSlotGiven gives scan row slot → Contains (entries_in slot) x
    → IsLiveGiven gives scan.specs rows x
of_slot gives scan rows row None x among h i = absurd (nowhere x i)
of_slot gives scan rows row (Some read) x among (bytes, given, is) i =
    let its = subst (λ (r : Reading). Contains (entries_in (Some r)) x) is i in
    let (found, said, l, live, same) = of_reading (pruner scan) (manifest_of scan.specs row bytes) x its in
    (row, among, bytes, given, found, said, l, live, same)

more_rows : (gives : Giving) (specs : List Spec) (first : Row) (rows : List Row) (x : Entry)
    → IsLiveGiven gives specs rows x → IsLiveGiven gives specs (first ∷ rows) x
more_rows gives specs first rows x (row, among, bytes, given, found, is, l, live, same) =
    (row, later first rows row among, bytes, given, found, is, l, live, same)

pub of_slots : (gives : Giving) (scan : Scanned) (rows : List Row) (c : Content) (x : Entry) → length c ≡ length rows
    → AreSlotsGiven gives scan rows c → Contains (kept_in c) x → IsLiveGiven gives scan.specs rows x
of_slots gives scan [] [] x e h i = absurd (nowhere x i)
of_slots gives scan [] (slot ∷ slots) x e h i = absurd cc
of_slots gives scan (row ∷ rows) [] x e h i = absurd cc
of_slots gives scan (row ∷ rows) (slot ∷ slots) x e h i =
    elim (Contains-append_cases (entries_in slot) (kept_in slots) x i)
    as (λ _. IsLiveGiven gives scan.specs (row ∷ rows) x) [
      | inl j ↦ of_slot gives scan (row ∷ rows) row slot x (here row rows row refl) h.0 j
      | inr j ↦ more_rows gives scan.specs row rows x
          (of_slots gives scan rows slots x (omega (arith, e)) h.1 j)
    ]
