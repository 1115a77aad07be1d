-- The first fault of a list or a manifest is the one that is told.
use Rattle.std.proofs.Common.{◌≡◌, ℕ, ◌+◌, List, [], ◌∷◌, ◌++◌, length, Option, Some, None, Err, refl, sym, ◌∙◌, arith}
use Rattle.std.specs.List.{enumerate_from}
use Rattle.contract_words.specs.Outcome.{◌>>=◌}
use Rattle.avro_schema.specs.Tree.{structure, Fields}
use Rattle.avro_file.specs.declared.fault.AvroFault.{AvroFault}
use Rattle.avro_file.specs.Value.{Value}
use Rattle.ice_meta.specs.declared.spec.Spec.{Spec}
use Rattle.ice_manifest_fields.specs.declared.fault.ListFault.{ListFault}
use Rattle.ice_manifest_fields.specs.declared.fault.ManifestFault.{ManifestFault}
use Rattle.ice_manifest_reading.specs.declared.row.Row.{Row}
use Rattle.ice_manifest_reading.specs.declared.entry.Live.{Live}
use Rattle.ice_manifest_fields.specs.Each.{each}
use Rattle.ice_manifest_fields.specs.Naming.{in_list, in_manifest, ended}
use Rattle.ice_manifest_reading.specs.Lists.{says_row, rows_ahead, checked, in_order, rows_of}
use Rattle.ice_manifest_reading.specs.Manifests.{kept, entry_of, says_entry, entries_ahead, live_of}
use Rattle.ice_manifest_reading.specs.Laws.{IsList, IsManifest, SayRows, SayEntries, HasRows}
use Rattle.ice_manifest_reading.specs.Faults.{TellsTheFirstRow, TellsTheListsEnd, TellsTheFirstEntry}
use Rattle.ice_manifest_reading.specs.Faults.{TellsTheManifestsEnd}
use Rattle.ice_manifest_reading.proofs.Said.{row_by, rows_by, entry_by, entries_by}

-- ---- rows

rows_until : (fs : Fields) (before after : List Value) (v : Value) (rows : List Row) (f : ListFault)
    → SayRows fs before rows → says_row fs v ≡ Err f → each (says_row fs) (before ++ v ∷ after) ≡ Err f
unfolding each
rows_until fs [] after v rows f said e = rw e refl
rows_until fs (w ∷ ws) after v [] f said e = absurd said
rows_until fs (w ∷ ws) after v (r ∷ rows) f said e = rw (
  row_by (structure fs, w) r said.0,
  rows_until fs ws after v
      rows f said.1 e,
) refl

pub opened_list : (bytes : List ℕ) (fs : Fields) (vs : List Value) (ending : Option AvroFault)
    → IsList bytes fs vs ending → rows_of bytes ≡ ((each (says_row fs) vs >>= ended in_list ending) >>= λ rows. checked
    (in_order rows))
unfolding rows_of rows_ahead
opened_list bytes fs vs ending h = rw (h.1, h.2, h.3) refl

pub tells_the_first_row : TellsTheFirstRow
tells_the_first_row bytes fs before after v ending rows f is said e = opened_list bytes fs (before ++ v ∷ after) ending
    is ∙ rw (rows_until fs before after v rows f said e) refl

pub tells_the_lists_end : TellsTheListsEnd
tells_the_lists_end bytes fs vs rows f is said = opened_list bytes fs vs (Some f) is ∙ rw (rows_by fs vs rows said) refl

-- a list without a fault comes to what its rows come to together
pub by_rows : (bytes : List ℕ) (rows : List Row) → HasRows bytes rows → rows_of bytes ≡ checked (in_order rows)
by_rows bytes rows h = opened_list bytes h.0 h.1 None h.2 ∙ rw (rows_by h.0 h.1 rows h.3) refl

-- ---- entries

entries_until : (row : Row) (spec : Spec) (fs : Fields) (k n : ℕ) (before after : List Value) (v : Value)
    (read : List (Option Live)) (f : ManifestFault) → n ≡ k + length before
    → SayEntries row spec fs k before read → entry_of row spec n (structure fs, v) ≡ Err f
    → each (says_entry row spec fs) (enumerate_from k (before ++ v ∷ after)) ≡ Err f
unfolding each
entries_until row spec fs k n [] after v read f is said e = let here : n ≡ k = omega arith in rw (sym here, e) refl
entries_until row spec fs k n (w ∷ ws) after v [] f is said e = absurd said
entries_until row spec fs k n (w ∷ ws) after v (x ∷ read) f is said e = rw (
  entry_by row spec k (structure fs, w) x
      said.0,
  entries_until row spec fs (k + 1) n ws after v read f (omega arith) said.1 e,
) refl

pub opened_manifest : (row : Row) (spec : Spec) (bytes : List ℕ) (fs : Fields) (vs : List Value)
    (ending : Option AvroFault) → IsManifest spec bytes fs vs ending
    → live_of row spec bytes ≡ (each (says_entry row spec fs) (enumerate_from 0 vs) >>= λ read. ended in_manifest ending
    (kept read))
unfolding live_of entries_ahead
opened_manifest row spec bytes fs vs ending h = rw (h.1, h.2, h.3) refl

pub tells_the_first_entry : TellsTheFirstEntry
tells_the_first_entry row spec bytes fs before after v ending read f is said e =
    opened_manifest row spec bytes fs (before ++ v ∷ after) ending is ∙ rw (entries_until row spec fs 0 (length before)
    before after v read f (omega arith) said e) refl

pub tells_the_manifests_end : TellsTheManifestsEnd
tells_the_manifests_end row spec bytes fs vs read f is said = opened_manifest row spec bytes fs vs (Some f) is ∙ rw
    (entries_by row spec fs 0 vs read said) refl
