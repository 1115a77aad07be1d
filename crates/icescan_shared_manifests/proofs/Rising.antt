-- The rows of a manifest list rise by their paths.
use Rattle.std.proofs.Common.{◌≡◌, ℕ, List, ap}
use Rattle.std.specs.Prelude.{Result, Ok, Err}
use Rattle.std.specs.List.Sorted.{IsStrictlySortedBy}
use Rattle.contract_words.specs.Outcome.{◌>>=◌}
use Rattle.ice_manifest_fields.specs.Naming.{contained, in_list, told}
use Rattle.ice_manifest_fields.specs.Schemas.{fields_in, row_fields}
use Rattle.ice_manifest_reading.proofs.Rising.{strictly}
use Rattle.ice_manifest_reading.specs.Lists.{path_order, rows_ahead, rows_of}
use Rattle.ice_manifest_reading.specs.declared.row.Row.{Row}
use Rattle.ice_state.specs.Contents.{World}
use Rattle.avro_file.specs.Files.{opened_at}
use Rattle.icescan_text.proofs.Steps.{step}
use Rattle.icescan_text.specs.Faults.{of_list}
use Rattle.icescan_text.specs.Reads.{as_run, file_in, rows_at, rows_in}
use Rattle.icescan_text.specs.declared.fault.RunFault.{RunFault}

next : {A B E : Type 0} (first : Result A E) (then : A → Result B E) (y : B) → (first >>= then) ≡ Ok y
    → (x : A) × (then x ≡ Ok y)
next (Ok x) then y h = (x, h)
next (Err e) then y h = absurd cc

as_read : {A E : Type 0} (of : E → RunFault) (read : Result A E) (x : A) → as_run of read ≡ Ok x → read ≡ Ok x
as_read of (Ok y) x h = let e : y ≡ x = cc in ap Ok e
as_read of (Err e) x h = cc

of_bytes : (bytes : List ℕ) (rows : List Row) → rows_of bytes ≡ Ok rows → IsStrictlySortedBy path_order rows
unfolding rows_of
of_bytes bytes rows h =
    let file = next (contained in_list (opened_at bytes)) _ rows h in
    let fits = next (told in_list (row_fields (fields_in file.0.schema))) _ rows file.1 in
    let said = next (rows_ahead (fields_in file.0.schema) file.0.ahead) _ rows fits.1 in
    strictly said.0 rows said.1

pub rising_given : (bytes : List ℕ) (rows : List Row) → rows_in bytes ≡ Ok rows → IsStrictlySortedBy path_order rows
unfolding rows_in
rising_given bytes rows h = of_bytes bytes rows (as_read of_list (rows_of bytes) rows h)

pub rising : (world : World) (path : List ℕ) (rows : List Row) → rows_at world path ≡ Ok rows
    → IsStrictlySortedBy path_order rows
unfolding rows_at
rising world path rows h = let read = step (file_in world path) _ rows h in rising_given read.0 rows read.2
