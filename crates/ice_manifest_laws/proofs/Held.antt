-- What reading a file that opens gives is what its objects say.
use Rattle.std.proofs.Common.{◌≡◌, ℕ, List, Result, Ok, Err, refl, ap}
use Rattle.contract_words.specs.Outcome.{◌>>=◌}
use Rattle.avro_schema.specs.Tree.{Tree}
use Rattle.avro_file.specs.Value.{Value}
use Rattle.avro_file.specs.Files.{opened_at, reader_of}
use Rattle.ice_meta.specs.declared.spec.Spec.{Spec}
use Rattle.ice_manifest_fields.specs.declared.fault.ManifestFault.{ManifestFault}
use Rattle.ice_manifest_fields.specs.Each.{each}
use Rattle.ice_manifest_fields.specs.Naming.{in_list, told}
use Rattle.ice_manifest_fields.specs.Schemas.{fields_in, row_fields}
use Rattle.ice_manifest_reading.specs.declared.row.Row.{Row}
use Rattle.ice_manifest_reading.specs.declared.entry.Live.{Live}
use Rattle.ice_manifest_reading.specs.Lists.{says_row, checked, in_order, rows_ahead, rows_of}
use Rattle.ice_manifest_reading.specs.Manifests.{entries, entries_ahead, live_of, entries_of}
use Rattle.ice_manifest_laws.specs.Held.{rows_said, live_said, entries_said}

-- a step that only goes on
goes_on : {A B E : Type 0} (read : Result A E) (f : A → Result B E) → ((read >>= λ x. Ok x) >>= f) ≡ (read >>= f)
goes_on (Ok x) f = refl
goes_on (Err e) f = refl

behind_fits : {A B C E : Type 0} (fits : Result A E) (read : Result B E) (f : B → Result C E)
    → (fits >>= λ y. (read >>= λ x. Ok x) >>= f) ≡ (fits >>= λ y. read >>= f)
behind_fits (Ok y) read f = goes_on read f
behind_fits (Err e) read f = refl

pub rows_held : (s : Tree) (vs : List Value) (bytes : List ℕ) → opened_at bytes ≡ Ok (reader_of s vs)
    → rows_of bytes ≡ rows_said s vs
unfolding rows_of rows_ahead
rows_held s vs bytes e = rw e (behind_fits (told in_list (row_fields (fields_in s))) (each (says_row (fields_in s)) vs)
    (λ rows. checked (in_order rows)))

pub live_held : (row : Row) (spec : Spec) (s : Tree) (vs : List Value) (bytes : List ℕ)
    → opened_at bytes ≡ Ok (reader_of s vs) → live_of row spec bytes ≡ live_said row spec s vs
unfolding live_of entries_ahead
live_held row spec s vs bytes e = rw e refl

pub entries_held : (row : Row) (spec : Spec) (s : Tree) (vs : List Value) (bytes : List ℕ)
    → opened_at bytes ≡ Ok (reader_of s vs) → entries_of row spec bytes ≡ entries_said row spec s vs
unfolding entries_of
entries_held row spec s vs bytes e =
    ap (λ (read : Result (List Live) ManifestFault). read >>= λ found. Ok (entries found))
    (live_held row spec s vs bytes e)
