-- The live entries of a manifest are of its row's spec.
use Rattle.std.proofs.Common.{◌≡◌, ℕ, Bool, not, ◌&&◌, ◌||◌, filter, List, [], ◌∷◌, refl, sym, ap, subst, ◌∙◌, Option}
use Rattle.std.proofs.Common.{Some, None, option_map, Result, Ok, Err}
use Rattle.std.specs.List.{AllByRecursion}
use Rattle.ice_meta.specs.declared.spec.Spec.{Spec}
use Rattle.ice_meta.specs.Partitioning.{is_unpartitioned}
use Rattle.ice_manifest_fields.specs.declared.fault.ManifestFault.{ManifestFault}
use Rattle.ice_manifest_reading.specs.declared.row.Row.{Row}
use Rattle.ice_manifest_reading.specs.declared.entry.Live.{Live}
use Rattle.ice_manifest_reading.specs.Laws.{IsOfSpec}
use Rattle.ice_manifest_reading.specs.Manifests.{entries, entries_of, live_of}
use Rattle.ice_manifest_reading.proofs.Contents.{are_of_their_spec}
use Rattle.ice_value.specs.declared.file_content.FileContent.TheVariants.{Data}
use Rattle.ice_project.specs.Files.{file_may}
use Rattle.ice_project.specs.Tuples.{part_meets}
use Rattle.ice_state.specs.Readings.{Good}
use Rattle.ice_state.specs.Contents.{World, live_by, manifest_of, reading, reading_of}
use Rattle.ice_state.specs.Parts.{OfSpec, filtered_by, pruner_by, reading_by}
use Rattle.ice_state.specs.Pruning.{Pruner, by_projection, holds, keeps, SaysItsSpec}
use Rattle.ice_state.specs.Scans.{Scanned, pruner}
use Rattle.ice_state.specs.Snapshots.{live, live_or_none}
use Rattle.ice_state.specs.Specs.{spec_of}
use Rattle.ice_state.proofs.Filters.{all_implies}

each : (row : Row) (spec : Spec) (found : List Live) → AllByRecursion (IsOfSpec row spec) (entries found)
    → AllByRecursion (λ (l : Live). IsOfSpec row spec l.entry) found
each row spec [] all = tt
each row spec (l ∷ ls) all = (all.0, each row spec ls all.1)

manifest_of_spec : (row : Row) (spec : Spec) (bytes : List ℕ) (found : List Live) → live_of row spec bytes ≡ Ok found
    → AllByRecursion (λ (l : Live). IsOfSpec row spec l.entry) found
unfolding entries_of
manifest_of_spec row spec bytes found h =
    let given : entries_of row spec bytes ≡ Ok (entries found) = rw h refl in
    each row spec found (are_of_their_spec row spec bytes (entries found) given)

says : (specs : List Spec) (row : Row) (spec : Spec) (l : Live) → spec_of specs row.spec_id ≡ Some spec
    → IsOfSpec row spec l.entry → SaysItsSpec specs l.entry
says specs row spec l h of = ap (λ id. option_map is_unpartitioned (spec_of specs id)) of.0 ∙ ap
    (option_map is_unpartitioned) h ∙ ap Some (sym of.1)

-- what holds of each entry that a manifest gives by the row's spec holds of each live entry
of_live : (P : Live → Type 0) (world : World) (specs : List Spec) (row : Row)
    → ((spec : Spec) (l : Live) → spec_of specs row.spec_id ≡ Some spec → IsOfSpec row spec l.entry → P l)
    → AllByRecursion P (live world specs row)
of_live P world specs row given = read (world row.path) where
  by : (bytes : List ℕ) (found : List Live) (o : Option Spec) → spec_of specs row.spec_id ≡ o
      → live_by o row bytes ≡ Ok found → AllByRecursion P found
  by bytes found None e h = let none : [] ≡ found = cc in subst (AllByRecursion P) none tt
  by bytes found (Some spec) e h = all_implies (λ (l : Live). IsOfSpec row spec l.entry) P found
      (λ l of. given spec l e of) (manifest_of_spec row spec bytes found h)

  of : (bytes : List ℕ) (m : Result (List Live) ManifestFault) → manifest_of specs row bytes ≡ m
      → AllByRecursion P (live_or_none (Some m))
  of bytes (Ok found) e = by bytes found (spec_of specs row.spec_id) refl e
  of bytes (Err fault) e = tt

  read : (o : Option (List ℕ)) → AllByRecursion P (live_or_none (option_map (manifest_of specs row) o))
  read None = tt
  read (Some bytes) = of bytes (manifest_of specs row bytes) refl

-- each live entry says what its spec is
pub live_says : (world : World) (specs : List Spec) (row : Row)
    → AllByRecursion (λ (l : Live). SaysItsSpec specs l.entry) (live world specs row)
live_says world specs row = of_live (λ l. SaysItsSpec specs l.entry) world specs row (λ spec l e of. says specs row spec
    l e of)

-- each live entry has its row's spec id
pub live_of_row : (world : World) (specs : List Spec) (row : Row)
    → AllByRecursion (λ (l : Live). l.entry.spec_id ≡ row.spec_id) (live world specs row)
live_of_row world specs row = of_live (λ l. l.entry.spec_id ≡ row.spec_id) world specs row (λ spec l e of. of.0)

-- what the filter keeps of a row's manifest, by the row's spec
filter_same : {X : Type 0} (p q : X → Bool) (xs : List X) → AllByRecursion (λ x. p x ≡ q x) xs
    → filter p xs ≡ filter q xs
filter_same p q [] all = refl
filter_same p q (x ∷ xs) all = rw (all.0, filter_same p q xs all.1) refl

module _ (scan : Scanned) (row : Row) (spec : Spec) (bytes : List ℕ) (is : spec_of scan.specs row.spec_id ≡ Some spec)
  where
    abbrev by : Pruner
    by = pruner_by (filtered_by scan.filter spec)

    same_test : (l : Live) → IsOfSpec row spec l.entry → keeps by l ≡ keeps (pruner scan) l
    same_test l of =
        ap (λ (o : Option Spec). by_projection scan.filter (λ part. part_meets part l.entry.file.tuple) o &&
        (not (holds Data l.entry) || file_may scan.filter l.bounds)) (sym (ap (spec_of scan.specs) of.0 ∙ is))

    same_reading : (m : Result (List Live) ManifestFault) → live_of row spec bytes ≡ m
        → reading by m ≡ reading (pruner scan) m
    same_reading (Err fault) e = refl
    same_reading (Ok found) e =
        ap (λ (ls : List Live). Good (entries ls)) (filter_same (keeps by) (keeps (pruner scan)) found
        (all_implies (λ (l : Live). IsOfSpec row spec l.entry) (λ (l : Live). keeps by l ≡ keeps (pruner scan) l)
        found same_test (manifest_of_spec row spec bytes found e)))

pub reading_is : (scan : Scanned) (row : Row) (f : OfSpec) (bytes : List ℕ) → f.filter ≡ scan.filter
    → spec_of scan.specs row.spec_id ≡ Some f.spec → reading_by f row bytes ≡ reading_of scan row bytes
reading_is scan row f bytes same h =
    ap (λ ps. reading_by (filtered_by ps f.spec) row bytes) same
    ∙ same_reading scan row f.spec bytes h (live_of row f.spec bytes) refl
    ∙ ap (λ (o : Option Spec). reading (pruner scan) (live_by o row bytes)) (sym h)
