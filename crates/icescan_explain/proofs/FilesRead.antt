-- What is told of the live files of a manifest, and where its bytes lie.
use Rattle.std.proofs.Common.{◌≡◌, ℕ, zero, suc, List, [], ◌∷◌, map, Option, Some, refl, ap, ◌∙◌}
use Rattle.std.specs.Prelude.{Result, Ok, Err, option_map, slice_get}
use Rattle.icescan_explain.specs.declared.tests.SpecTests.{SpecTests}
use Rattle.ice_manifest_fields.specs.declared.fault.ManifestFault.{ManifestFault}
use Rattle.ice_manifest_reading.specs.Manifests.{live_of}
use Rattle.ice_manifest_reading.specs.Telling.{told_of}
use Rattle.ice_manifest_reading.specs.declared.entry.Live.{Live}
use Rattle.ice_manifest_reading.specs.declared.row.Row.{Row}
use Rattle.ice_state.specs.Contents.{HasBytesAt, World}
use Rattle.ice_state.specs.Snapshots.{live_or_none}
use Rattle.icescan_text.specs.Reads.{file_in}
use Rattle.icescan_text.proofs.Steps.{bytes_in}
use Rattle.icescan_explain.specs.RowsTold.{lives_at}

-- a manifest that was read
pub told_there : {T : Type 0} (tells : Live → T) (read : Result (List Live) ManifestFault) (told : List T)
    → told_of tells read ≡ Ok told → map tells (live_or_none (Some read)) ≡ told
told_there {T} tells (Ok ls) told h = cc
told_there {T} tells (Err f) told h = absurd cc

-- one that can't be read has none
pub none_told_there : {T : Type 0} (tells : Live → T) (read : Result (List Live) ManifestFault) (f : ManifestFault)
    → told_of tells read ≡ Err f → map tells (live_or_none (Some read)) ≡ []
none_told_there {T} tells (Ok ls) f h = absurd cc
none_told_there {T} tells (Err e) f h = refl

-- the live files of a row whose manifest is there
pub lives_there : (world : World) (of_spec : SpecTests) (row : Row) (bytes : List ℕ) → file_in world row.path ≡ Ok bytes
    → lives_at world of_spec row ≡ live_or_none (Some (live_of row of_spec.spec bytes))
lives_there world of_spec row bytes h =
    ap (λ (o : Option (List ℕ)). live_or_none (option_map (live_of row of_spec.spec) o))
    (bytes_in world row.path bytes h)

has_at : (world : World) (rows : List Row) (i : ℕ) (row : Row) (bytes : List ℕ) → slice_get rows i ≡ Some row
    → world row.path ≡ Some bytes → HasBytesAt world rows i bytes
has_at world [] i row bytes is has = absurd cc
has_at world (r ∷ rows) zero row bytes is has = let same : r ≡ row = cc in ap (λ (x : Row). world x.path) same ∙ has
has_at world (r ∷ rows) (suc i) row bytes is has = has_at world rows i row bytes is has

-- the bytes of the wanted row at a place
pub has_bytes : (world : World) (rows : List Row) (i : ℕ) (row : Row) (bytes : List ℕ) → slice_get rows i ≡ Some row
    → file_in world row.path ≡ Ok bytes → HasBytesAt world rows i bytes
has_bytes world rows i row bytes is has = has_at world rows i row bytes is (bytes_in world row.path bytes has)
